use Rattle.std.proofs.Common.{◌<◌, length, ap, ◌∙◌, arith}
use Rattle.hs_values.specs.SqlType.{fits_of}
use Rattle.hs_rowcodec.proofs.Columns.{row_is_as_long, value_fits, column_counted, counted, none_left}
use Rattle.hs_rowcodec.proofs.length.values_len.Goals as goal

pub value_len-requires-clause-fits : goal.value_len-requires-clause-fits
value_len-requires-clause-fits c =
    ap (fits_of _) c.index-row-i.is ∙ value_fits c.args.types.now c.args.row.now c.loop-i.i _ c.index-row-i.result c.requires.fits c.loop-i-test.true

pub loop-i-preserved : goal.loop-i-preserved
loop-i-preserved c =
    let there : c.loop-i.i < length c.args.row.now = omega (arith, c.loop-i-test.true, row_is_as_long c.args.types.now c.args.row.now c.requires.fits) in
    counted c.loop-i.len c.value_len.result _ _ _ c.saturating_add-len.result c.loop-i.invariant
    (column_counted c.args.types.now c.args.row.now c.loop-i.i _ c.index-row-i.result _ c.loop-i-test.true there c.index-row-i.is c.value_len.ensures)
    c.saturating_add-len.ensures

pub returns : goal.returns
returns c = none_left c.args.types.now c.args.row.now c.loop-i.i c.loop-i.len _ c.loop-i-test.false c.loop-i.invariant
