use Rattle.std.proofs.Common.{◌≡◌, ℕ, ◌==◌, ◌&&◌, ◌||◌, Bool, take}
use Rattle.std.specs.List.{list_any}
use Rattle.hs_claims.specs.Session.{IsSession}
use Rattle.hs_claims.specs.declared.resource.Resource.{Resource}
use Rattle.hs_claimtable.specs.Marks.{is_marked}
use Rattle.hs_claimtable.specs.Places.{marks_of, counts}
use Rattle.hs_claimtable.proofs.places.Places.mark_all.Given as goal

abbrev pub invariant-loop-claim : goal.invariant-loop-claim
invariant-loop-claim l = (only : Bool) (r : Resource) (s : ℕ) → IsSession s → is_marked only (marks_of l.self r) s ≡ ((list_any (counts only r) (take l.claim-index l.claims) && (s == l.session.0)) || is_marked only (marks_of l.fn.self r) s)
