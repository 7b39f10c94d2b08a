use Rattle.std.proofs.Common.{◌≡◌, take}
use Rattle.hs_claims.proofs.claims.Claims.copy.Given as goal

abbrev pub invariant-loop-claim : goal.invariant-loop-claim
invariant-loop-claim l = l.claims.items ≡ take l.claim-index l.claim-items
