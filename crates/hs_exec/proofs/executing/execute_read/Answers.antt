use Rattle.std.proofs.Common.{Result, sym, ap, subst}
use Rattle.hs_values.specs.declared.fault.EvalFault.{EvalFault}
use Rattle.hs_acting.specs.Kept.{keys_in}
use Rattle.hs_before.specs.Held.{rows_of}
use Rattle.hs_changes.specs.Settings.{Maps}
use Rattle.hs_rel.specs.Outcome.{Answers, stop_of}
use Rattle.hs_rows.proofs.Looking.{looked_on}
use Rattle.hs_exec.specs.declared.answer.Answer.{Answer}
use Rattle.hs_exec.specs.Before.{AreBefore}
use Rattle.hs_exec.specs.Executed.{executed}
use Rattle.hs_exec.proofs.executing.execute_read.Goals as goal

pub returns-clause-answer : goal.returns-clause-answer
returns-clause-answer g c = λ tells.
    let keys = keys_in c.args.keys.now in
    let plan = c.args.plan.now in
    let looks = c.in_ok-before.ensures.looks in
    let then = g.met.R.Rows.tells_on c.args.rows.now c.read_before.new.rows looks.looked tells in
    let are = subst (λ (tables : Maps). AreBefore tables keys plan (rows_of c.in_ok-before.before)) (sym looks.tables) (c.in_ok-before.ensures.before tells) in
    subst (λ (means : Result Answer EvalFault). Answers means c.execute_over.result)
    (ap (λ (tables : Maps). executed tables c.args.cat.now keys plan) looks.tables)
    (c.execute_over.ensures.answer then are)

pub returns-clause-looks : goal.returns-clause-looks
returns-clause-looks g c =
    looked_on g.R.Rows g.met.R.Rows.looked_on (stop_of c.execute_over.result) c.args.rows.now c.read_before.new.rows c.execute_over.new.rows c.in_ok-before.ensures.looks c.execute_over.ensures.looks
