use Rattle.std.proofs.Common.{◌≡◌, ℕ, take}
use Rattle.std.specs.List.{list_any}
use Rattle.hs_claims.specs.Blockers.{has}
use Rattle.hs_claimtable.specs.Places.{is_held}
use Rattle.hs_claimtable.proofs.places.Places.against.Given as goal

abbrev pub invariant-loop-want : goal.invariant-loop-want
invariant-loop-want l = (s : ℕ) → has l.found s ≡ list_any (is_held l.self s) (take l.want-index l.wants)
