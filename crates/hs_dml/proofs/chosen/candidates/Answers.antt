use Rattle.std.proofs.Common.{IfSome, List, Option, subst}
use Rattle.std.proofs.lemmas.Result.{IfOk-weaker}
use Rattle.hs_values.specs.declared.value.Value.{Value}
use Rattle.hs_rel.specs.Selection.{Verdict}
use Rattle.hs_lookups.specs.Asked.{Asks, Narrows}
use Rattle.hs_dml.proofs.Choosing.{all_candidates}
use Rattle.hs_dml.proofs.chosen.candidates.Goals as goal

pub returns-in-Some-2 : goal.returns-in-Some-2
returns-in-Some-2 g c =
    let verdict = g.E.Evaluates.evaluate c.args.evaluator.now c.args.condition.now in
    let asked = c.in_ok-asked.asked in
    let key_told = subst (λ (o : Option (List Value)). IfSome o (λ key. (v : Verdict) → Asks v asked.columns.items asked.values → Narrows v c.in-Some.columns.now key)) c.in-Some-2.is c.in_ok-key.ensures in
    IfOk-weaker c.rows_with.result _ _
    (λ found is. record {
      columns = c.in-Some.columns.now;
      key = c.in-Some-2.key;
      narrows = key_told verdict c.in_ok-asked.ensures;
      numbers = is;
    })
    c.rows_with.ensures

pub returns : goal.returns
returns g c =
    let verdict = g.E.Evaluates.evaluate c.args.evaluator.now c.args.condition.now in
    let rows = g.B.RowsBefore.maps c.args.before.now c.args.table.0 in
    IfOk-weaker c.all_rows.result _ _ (λ found is. all_candidates verdict rows found is) c.all_rows.ensures
