use Rattle.std.proofs.Common.{get_or, sym, ap, ◌∙◌, map}
use Rattle.std.proofs.lemmas.List.{take_all}
use Rattle.std.proofs.lemmas.List.Folds.{list_any_at}
use Rattle.hs_index.specs.Keys.{has_null, is_null, value_at}
use Rattle.hs_index.proofs.Keys.{any_mapped, any_on}
use Rattle.hs_index.proofs.key.has_gap.Goals as goal

pub returns-then-is_gap : goal.returns-then-is_gap
returns-then-is_gap c =
    let row = c.args.row.now in
    let columns = c.args.columns.now in
    sym (any_mapped is_null (value_at row) columns
    ∙ list_any_at (λ n. is_null (value_at row n)) columns c.loop-column.column-index 0 c.loop-column-test.true (sym c.is_gap.ensures ∙ c.if-is_gap.true))

pub loop-column-preserved : goal.loop-column-preserved
loop-column-preserved c =
    any_on is_null (value_at c.args.row.now) c.args.columns.now c.loop-column.column-index 0 c.loop-column-test.true c.loop-column.invariant (sym c.is_gap.ensures ∙ c.if-is_gap.false)

pub returns : goal.returns
returns c = sym c.loop-column.invariant ∙ ap (λ l. has_null (map (value_at c.args.row.now) l)) (take_all c.loop-column.column-index c.args.columns.now c.loop-column-test.false)
