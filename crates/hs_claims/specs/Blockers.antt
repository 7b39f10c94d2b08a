-- Sets of sessions.
use Rattle.std.specs.Prelude.{◌≡◌, ℕ, ◌-◌, ◌<◌, ◌≤◌, ◌==◌, Bool, true, false, Option, None, Some}
use Rattle.std.specs.Int.{bit_at}
use Rattle.hs_base.specs.declared.numbers.SessionNo.{SessionNo}
use Rattle.hs_claims.specs.Session.{IsSession}
use Rattle.hs_claims.specs.declared.blockers.Blockers.{Blockers}

-- the bit of a session is 1
abbrev pub is_set : ℕ → ℕ → Bool
is_set bits s = bit_at bits (s - 1) == 1

-- a set has a session
abbrev pub has : Blockers → ℕ → Bool
has set s = is_set set.0 s

-- the first session of a set, or that it has none
abbrev pub IsFirst : Blockers → Option SessionNo → Type 0
IsFirst set None = (s : ℕ) → IsSession s → has set s ≡ false
IsFirst set (Some first) = IsSession first.0 × (has set first.0 ≡ true) × ((s : ℕ) → 1 ≤ s → s < first.0 → has set s ≡ false)
