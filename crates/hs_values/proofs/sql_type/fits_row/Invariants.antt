use Rattle.std.proofs.Common.{◌≡◌, length}
use Rattle.std.specs.Iterator.Adapters.{zip_first, zip_second}
use Rattle.std.specs.Slice.Iter.{iter_rest}
use Rattle.hs_values.specs.SqlType.{row_fits}
use Rattle.hs_values.proofs.sql_type.fits_row.Given as goal

abbrev pub invariant-loop-t : goal.invariant-loop-t
invariant-loop-t l = record {
  left_fits : row_fits l.types l.row ≡ row_fits (iter_rest (zip_first l.t-iterator)) (iter_rest (zip_second l.t-iterator));
  as_many : length (iter_rest (zip_first l.t-iterator)) ≡ length (iter_rest (zip_second l.t-iterator));
}
