use Rattle.hs_acting.specs.Kept.{keys_in}
use Rattle.hs_exec.proofs.Serving.{serve}
use Rattle.hs_exec.proofs.executing.execute_with.Goals as goal

pub returns-clause-answer : goal.returns-clause-answer
returns-clause-answer g c = λ tells same.
    c.execute_over.ensures.answer tells (serve (g.R.Rows.tables c.args.rows.now) (keys_in c.args.keys.now) c.args.plan.now (g.B.RowsBefore.maps c.args.before.now) same)
