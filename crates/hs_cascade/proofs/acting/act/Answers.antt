use Rattle.std.proofs.Common.{[], sym, ap, ◌∙◌}
use Rattle.std.proofs.lemmas.Result.{on_ok_weaker}
use Rattle.std.specs.Option.{unwrap_or}
use Rattle.hs_actions.specs.Acting.{effect}
use Rattle.hs_actions.specs.Work.{Work, child_name, is_now, settled}
use Rattle.hs_cascade.specs.Working.{work_of}
use Rattle.hs_cascade.proofs.Acts.{acts}
use Rattle.hs_cascade.proofs.acting.act.Goals as goal

pub returns : goal.returns
returns g c =
    let maps = g.B.RowsBefore.maps c.args.before.now in
    let key = c.args.key.now in
    let new = c.args.new.now in
    let work = work_of c.args.work.now in
    let row = c.args.row.0 in
    let means = effect key new (unwrap_or (is_now maps work.edits (child_name key row)) []) in
    on_ok_weaker c.settle.result
    (λ is. is means c.effect_on-made.ensures
    ∙ ap (λ (w : Work). settled (child_name key row) w means) c.in_ok-mark.ensures
    ∙ sym (acts maps key new work row (sym c.is_left_out.ensures ∙ c.if-is_left_out.false)))
    c.settle.ensures
