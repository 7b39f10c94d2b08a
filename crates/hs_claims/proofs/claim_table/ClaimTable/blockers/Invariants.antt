use Rattle.std.proofs.Common.{◌≡◌, ℕ, ◌<◌, ◌≤◌, false}
use Rattle.hs_claims.specs.Blockers.{has}
use Rattle.hs_claims.specs.Held.{blocks}
use Rattle.hs_claims.specs.Session.{IsSession}
use Rattle.hs_claims.proofs.claim_table.ClaimTable.blockers.Given as goal

abbrev pub invariant-loop-s : goal.invariant-loop-s
invariant-loop-s l = record {
  before : (s : ℕ) → IsSession s → s < l.s → has l.found s ≡ blocks l.self l.session.0 l.wants s;
  later : (s : ℕ) → IsSession s → l.s ≤ s → has l.found s ≡ false;
}
