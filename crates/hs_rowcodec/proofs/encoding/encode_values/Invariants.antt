-- What is written, with the bytes of the columns that are left, are the bytes of all.
use Rattle.std.proofs.Common.{◌≡◌, ◌++◌, drop, take, length}
use Rattle.hs_rowcodec.specs.Encoding.{row_bytes, AreWritable}
use Rattle.hs_rowcodec.proofs.encoding.encode_values.Given as goal

abbrev pub invariant-loop-i : goal.invariant-loop-i
invariant-loop-i l =
    (l.out.items ++ row_bytes (drop l.i l.types) (drop l.i l.row) ≡ l.fn.out.items ++ row_bytes l.types l.row)
    × (AreWritable (drop l.i l.row) → AreWritable l.row)
    × (take (length l.fn.out.items) l.out.items ≡ l.fn.out.items)
