use Rattle.std.proofs.Common.{◌<◌, length, ap, subst, ◌∙◌, arith}
use Rattle.hs_values.specs.SqlType.{fits_of}
use Rattle.hs_rowcodec.specs.Encoding.{IsWritable}
use Rattle.hs_rowcodec.proofs.Columns.{row_is_as_long, value_fits, column_written, columns_writable, kept_more}
use Rattle.hs_rowcodec.proofs.encoding.encode_values.Goals as goal

pub encode_value-requires-clause-fits : goal.encode_value-requires-clause-fits
encode_value-requires-clause-fits c =
    ap (fits_of _) c.index-row-i.is ∙ value_fits c.args.types.now c.args.row.now c.loop-i.i _ c.index-row-i.result c.requires.fits c.loop-i-test.true

pub loop-i-preserved : goal.loop-i-preserved
loop-i-preserved c =
    let there : c.loop-i.i < length c.args.row.now = omega (arith, c.loop-i-test.true, row_is_as_long c.args.types.now c.args.row.now c.requires.fits) in (
      column_written c.args.types.now c.args.row.now c.loop-i.i _ c.index-row-i.result c.loop-i.out.items _ _ c.loop-i-test.true there c.index-row-i.is c.loop-i.invariant.0 c.in_ok-encode_value.ensures.ok,
      λ others. c.loop-i.invariant.1 (columns_writable c.args.row.now c.loop-i.i c.index-row-i.result there (subst IsWritable c.index-row-i.is c.in_ok-encode_value.ensures.writable) others),
      kept_more _ c.loop-i.out.items _ c.loop-i.invariant.2 c.encode_value.ensures.kept,
    )
