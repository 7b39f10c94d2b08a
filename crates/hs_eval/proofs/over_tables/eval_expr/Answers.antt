use Rattle.std.proofs.Common.{List, [], subst}
use Rattle.hs_base.specs.declared.numbers.TableNo.{TableNo}
use Rattle.hs_expression.specs.Surroundings.{Valued}
use Rattle.hs_answer.specs.Places.{over_row}
use Rattle.hs_rel.specs.Outcome.{Answers}
use Rattle.hs_copied.specs.Copies.{Stand}
use Rattle.hs_copied.proofs.Answering.{copies_evaluate}
use Rattle.hs_eval.proofs.over_tables.eval_expr.Goals as goal

pub returns-clause-value : goal.returns-clause-value
returns-clause-value g c = λ tells.
    let tables = g.R.Rows.tables c.args.rows.now in
    let copies = c.in_ok-copies.copies in
    let stand = subst (λ (l : List TableNo). Stand tables l copies) c.in_ok-named.ensures.tables (c.in_ok-copies.ensures.rows tells) in
    subst (λ (f : Valued). Answers (f (over_row [] c.args.row.now)) c.evaluated_over.result) (copies_evaluate tables c.args.e.now copies stand) c.evaluated_over.ensures.value
