use Rattle.std.proofs.Common.{◌≡◌, ◌++◌, take, map}
use Rattle.hs_claims.specs.Wants.{row_claim}
use Rattle.hs_mvcc.proofs.mvcc.push_rows.Given as goal

abbrev pub invariant-loop-row : goal.invariant-loop-row
invariant-loop-row l = l.claims ≡ l.fn.claims ++ map row_claim (take l.row-index l.row-items)
