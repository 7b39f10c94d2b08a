use Rattle.std.proofs.Common.{◌≡◌, length}
use Rattle.std.specs.Iterator.Adapters.{zip_first, zip_second}
use Rattle.std.specs.List.{AllByRecursion}
use Rattle.std.specs.Slice.Iter.{iter_rest}
use Rattle.hs_rowtext.specs.Rows.{types_of}
use Rattle.hs_values.specs.SqlType.{row_fits}
use Rattle.hs_valuetext.specs.Values.{IsSpelled}
use Rattle.hs_knowntext.proofs.fitting.fits_columns.Given as goal

abbrev pub invariant-loop-column : goal.invariant-loop-column
invariant-loop-column l = record {
  left_fits : row_fits (types_of l.columns) l.row ≡ row_fits (types_of (iter_rest (zip_first l.column-iterator))) (iter_rest (zip_second l.column-iterator));
  as_many : length (iter_rest (zip_first l.column-iterator)) ≡ length (iter_rest (zip_second l.column-iterator));
  spelled : AllByRecursion IsSpelled (iter_rest (zip_second l.column-iterator)) → AllByRecursion IsSpelled l.row;
}
