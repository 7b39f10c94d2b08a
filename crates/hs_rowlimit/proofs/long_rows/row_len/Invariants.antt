-- What is counted, with the bytes of the columns that are left.
use Rattle.std.proofs.Common.{◌≡◌, ◌+◌, ◌-◌, ◌^◌, ◌≤◌, drop, min, length}
use Rattle.hs_rowcodec.specs.Encoding.{row_bytes}
use Rattle.hs_rowlimit.specs.Long.{types_of}
use Rattle.hs_rowlimit.proofs.long_rows.row_len.Given as goal

abbrev pub invariant-loop-i : goal.invariant-loop-i
invariant-loop-i l =
    (min (l.len + length (row_bytes (drop l.i (types_of l.columns)) (drop l.i l.row))) (2 ^ 64 - 1) ≡ min (length (row_bytes (types_of l.columns) l.row)) (2 ^ 64 - 1))
    × (l.len ≤ 2 ^ 64 - 1)
