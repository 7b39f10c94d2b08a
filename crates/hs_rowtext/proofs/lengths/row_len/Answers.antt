use Rattle.std.proofs.Common.{◌-◌, ◌^◌, min, length, ap, ◌∙◌}
use Rattle.hs_plan.specs.declared.definition.Column.{Column}
use Rattle.hs_rowcodec.specs.Encoding.{value_bytes}
use Rattle.hs_values.specs.SqlType.{fits_of}
use Rattle.hs_rowtext.proofs.LengthLemmas.{column_fits, column_more}
use Rattle.hs_rowtext.proofs.lengths.row_len.Goals as goal

pub value_len-requires : goal.value_len-requires
value_len-requires c =
    (λ i. fits_of (c.index-columns-i.is i).data_type (c.index-row-i.is i))
    ∙ column_fits c.args.columns.now c.args.row.now c.loop-i.i c.index-columns-i.result c.index-row-i.result c.requires c.loop-i-test.true

pub loop-i-preserved : goal.loop-i-preserved
loop-i-preserved c =
    column_more c.args.columns.now c.args.row.now c.loop-i.i c.index-columns-i.result c.index-row-i.result c.loop-i.len c.value_len.result _ c.saturating_add-len.result c.requires c.loop-i-test.true c.index-row-i.is
    (c.value_len.ensures ∙ ap (λ (x : Column). min (length (value_bytes x.data_type c.index-row-i.result)) (2 ^ 64 - 1)) c.index-columns-i.is)
    c.saturating_add-len.ensures c.loop-i.invariant
