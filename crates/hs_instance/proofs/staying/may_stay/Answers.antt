use Rattle.std.proofs.Common.{take, refl, sym, ap, ◌∙◌}
use Rattle.std.proofs.lemmas.List.{take_all}
use Rattle.hs_applicable.specs.Applicable.{may_make_each}
use Rattle.hs_turns.specs.Database.{apply}
use Rattle.hs_instance.specs.Staying.{are_inserts}
use Rattle.hs_instance.proofs.Ongoing.{each_on}
use Rattle.hs_instance.proofs.Inserts.{inserts_on, same_things}
use Rattle.hs_instance.proofs.staying.may_stay.Goals as goal

pub loop-change-init : goal.loop-change-init
loop-change-init c = λ db is. (refl, refl)

pub loop-change-preserved : goal.loop-change-preserved
loop-change-preserved c = λ db is.
    let i = c.loop-change.change-index in
    let cs = c.args.changes.now in
    let x = c.change-item.result in
    let so_far = c.loop-change.invariant db is in
    let stays = c.stays.ensures db cs (apply db (take i cs)) is (same_things db (take i cs) so_far.1) c.if-not-stays.false in (
      each_on db cs i x c.loop-change-test.true c.change-item.is so_far.0 stays.1,
      inserts_on cs i x c.loop-change-test.true c.change-item.is so_far.1 stays.0,
    )

pub returns : goal.returns
returns c = λ db is so.
    let done = c.loop-change.invariant db is in
    let all = take_all c.loop-change.change-index c.args.changes.now c.loop-change-test.false in
    (ap (may_make_each db) (sym all) ∙ done.0, ap are_inserts (sym all) ∙ done.1)
