use Rattle.std.proofs.Common.{◌≡◌, Some, Err, ap, sym, ◌∙◌}
use Rattle.hs_typed.specs.Faults.{noted}
use Rattle.hs_typed.specs.Rules.{assigned_typed}
use Rattle.hs_conclusions.proofs.Refusals.{refused}
use Rattle.hs_conclusions.proofs.standing.assigned.Goals as goal

pub returns-in-Err-clause-noted : goal.returns-in-Err-clause-noted
returns-in-Err-clause-noted c =
    let given : c.args.a ≡ Some c.in_ok-a.field-0 = cc in
    let is : assigned_typed c.args.column.now c.in_ok-a.field-0 ≡ Err c.in-Err.field-0 = cc in
    c.note_types.ensures ∙ ap (noted c.args.faults.now) (sym (refused c.args.column.now c.in_ok-a.field-0 c.args.a c.args.at c.in-Err.field-0 given is))
