-- The values that are left are those behind the ones that were skipped.
use Rattle.std.proofs.Common.{◌≡◌, true, drop, is_some}
use Rattle.hs_rowcodec.specs.Reading.{row_of, values_in}
use Rattle.hs_rowcodec.proofs.view.behind.Given as goal

abbrev pub invariant-loop-sql_type : goal.invariant-loop-sql_type
invariant-loop-sql_type l = (is_some (row_of (drop l.sql_type-index l.types) l.rest) ≡ true) × (values_in (drop l.sql_type-index l.types) l.rest ≡ drop l.sql_type-index (values_in l.types l.bytes))
