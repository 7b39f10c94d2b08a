use Rattle.std.proofs.Common.{◌≡◌, ◌++◌, take, map}
use Rattle.hs_claims.specs.Wants.{key_claim}
use Rattle.hs_mvcc.proofs.mvcc.push_keys.Given as goal

abbrev pub invariant-loop-key : goal.invariant-loop-key
invariant-loop-key l = l.claims ≡ l.fn.claims ++ map (key_claim l.exclusive) (take l.key-index l.key-items)
