use Rattle.std.proofs.Common.{◌≡◌, ℕ, ◌&&◌}
use Rattle.std.specs.Prelude.{nat_lt}
use Rattle.hs_claims.specs.Blockers.{has}
use Rattle.hs_claims.specs.Session.{IsSession}
use Rattle.hs_holding.specs.Held.{is_open_at}
use Rattle.hs_holding.proofs.holding.Holding.open_sessions.Given as goal

abbrev pub invariant-loop-s : goal.invariant-loop-s
invariant-loop-s l = (b : ℕ) → IsSession b → has l.found b ≡ (nat_lt b l.s && is_open_at l.self b)
