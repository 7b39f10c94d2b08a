use Rattle.std.proofs.Common.{◌≡◌, List, fold, ap, ◌∙◌}
use Rattle.std.specs.Option.{option_map_or}
use Rattle.hs_acting.specs.Kept.{keys_in}
use Rattle.hs_actions.specs.declared.reference.Reference.{Reference}
use Rattle.hs_actions.specs.Work.{Work, was, take_key, take_keys}
use Rattle.hs_cascade.specs.Working.{work_of}
use Rattle.hs_cascade.proofs.Turns.{fewer, worked_on, worked_out}
use Rattle.hs_cascade.proofs.cascade.work_all.Goals as goal

pub loop-name-preserved : goal.loop-name-preserved
loop-name-preserved g c =
    let maps = g.B.RowsBefore.maps c.args.before.now in
    let keys = keys_in c.args.keys.now in
    let work : Work = work_of c.loop-name.work in
    let name = c.in-Some.name in
    let rest = c.pop_front.new.self.items in
    let left : Work = record work { list = rest } in
    let done : work_of c.take_keys.new.work ≡ take_keys maps keys name left =
    c.in_ok-take_keys.ensures ∙ ap (λ (ks : List Reference). option_map_or (λ old. fold (take_key maps name old) left ks) (was maps name) left) c.on.ensures in
    worked_on maps keys work name rest c.in-Some.ensures.items (work_of c.take_keys.new.work) done ∙ c.loop-name.invariant

pub loop-name-smaller : goal.loop-name-smaller
loop-name-smaller g c =
    let maps = g.B.RowsBefore.maps c.args.before.now in
    let keys = keys_in c.args.keys.now in
    let work : Work = work_of c.loop-name.work in
    let name = c.in-Some.name in
    let rest = c.pop_front.new.self.items in
    let left : Work = record work { list = rest } in
    let done : work_of c.take_keys.new.work ≡ take_keys maps keys name left =
    c.in_ok-take_keys.ensures ∙ ap (λ (ks : List Reference). option_map_or (λ old. fold (take_key maps name old) left ks) (was maps name) left) c.on.ensures in
    fewer maps keys work name rest c.in-Some.ensures.items (work_of c.take_keys.new.work) done

pub returns : goal.returns
returns g c =
    let maps = g.B.RowsBefore.maps c.args.before.now in
    worked_out maps (keys_in c.args.keys.now) (work_of c.loop-name.work) c.pop_front.new.self.items c.in_default.ensures.items c.in_default.ensures.rest ∙ c.loop-name.invariant
