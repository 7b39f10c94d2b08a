use Rattle.std.proofs.Common.{List, Result, subst}
use Rattle.hs_plan.specs.declared.change.Change.{Change}
use Rattle.hs_values.specs.declared.fault.EvalFault.{EvalFault}
use Rattle.hs_acting.specs.Kept.{keys_in}
use Rattle.hs_rel.specs.Outcome.{Answers}
use Rattle.hs_exec.proofs.Same.{statement_same}
use Rattle.hs_exec.proofs.writing.changes_read.Goals as goal

pub returns-clause-changes : goal.returns-clause-changes
returns-clause-changes g c = λ tells before.
    let same = statement_same (g.R.Rows.tables c.args.rows.now) c.in_ok-copies.copies c.args.cat.now (keys_in c.args.keys.now) (g.B.RowsBefore.maps c.args.before.now) c.args.plan.now (c.in_ok-copies.ensures.copies tells) before in
    subst (λ (means : Result (List Change) EvalFault). Answers means c.changes_over.result) same c.changes_over.ensures.changes
