use Rattle.std.proofs.Common.{◌≡◌, drop}
use Rattle.hs_rowlimit.specs.Long.{has_long}
use Rattle.hs_rowlimit.proofs.long_rows.has_long_row.Given as goal

abbrev pub invariant-loop-change : goal.invariant-loop-change
invariant-loop-change l = has_long l.cat l.changes ≡ has_long l.cat (drop l.change-index l.changes)
