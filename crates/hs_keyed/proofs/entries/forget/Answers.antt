use Rattle.std.proofs.Common.{◌≡◌, List, Some, None, sym, ap, subst, ◌∙◌}
use Rattle.std.proofs.lemmas.Result.{on_ok_weaker}
use Rattle.std.specs.FinMap.{get}
use Rattle.hs_values.specs.declared.value.Value.{Value}
use Rattle.hs_index.specs.Table.{Rows}
use Rattle.hs_keyed.specs.Kept.{rows_of, AreOf}
use Rattle.hs_keyed.proofs.Stored.{get-rows_of, remove-none}
use Rattle.hs_keyed.proofs.entries.forget.Goals as goal

pub returns-in-Some-clause-ok : goal.returns-in-Some-clause-ok
returns-in-Some-clause-ok c =
    let rows = rows_of c.args.rows.now.entries in
    let there : get rows c.args.row.0 ≡ Some c.as_slice.result.now =
    get-rows_of c.args.rows.now.entries c.args.row.0 ∙ sym c.in-Some.ensures.value ∙ ap (λ (values : List Value). Some values) (sym c.as_slice.ensures) in
    on_ok_weaker c.take_keys.result (λ gone. gone rows there c.requires) c.take_keys.ensures.ok

pub returns-in-None-clause-ok : goal.returns-in-None-clause-ok
returns-in-None-clause-ok c =
    let rows = rows_of c.args.rows.now.entries in
    let none : get rows c.args.row.0 ≡ None = get-rows_of c.args.rows.now.entries c.args.row.0 ∙ sym c.in-None.ensures.value in
    subst (λ (m : Rows). AreOf m c.args.indexes.now.items) (sym (remove-none rows c.args.row.0 none)) c.requires
