-- The row behind what was read is there exactly where the whole is.
use Rattle.std.proofs.Common.{◌≡◌, drop}
use Rattle.std.specs.Prelude.{is_some}
use Rattle.hs_rowcodec.specs.Reading.{row_of}
use Rattle.hs_rowcodec.proofs.view.is_encoding.Given as goal

abbrev pub invariant-loop-sql_type : goal.invariant-loop-sql_type
invariant-loop-sql_type l = is_some (row_of (drop l.sql_type-index l.types) l.rest) ≡ is_some (row_of l.types l.bytes)
