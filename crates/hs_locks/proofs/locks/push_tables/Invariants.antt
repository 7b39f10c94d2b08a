use Rattle.std.proofs.Common.{◌≡◌, ◌++◌, take, map}
use Rattle.hs_claims.specs.Wants.{table_claim}
use Rattle.hs_locks.proofs.locks.push_tables.Given as goal

abbrev pub invariant-loop-table : goal.invariant-loop-table
invariant-loop-table l = l.claims ≡ l.fn.claims ++ map (table_claim l.exclusive) (take l.table-index l.table-items)
