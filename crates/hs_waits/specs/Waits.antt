-- Who waits for whom.
use Rattle.std.specs.Prelude.{◌≡◌, ℕ, ◌-◌, ◌<◌, ◌≤◌, true, List, [], ◌∷◌, Option, None, Some, slice_index}
use Rattle.hs_base.specs.declared.numbers.SessionNo.{SessionNo}
use Rattle.hs_claims.specs.declared.blockers.Blockers.{Blockers}
use Rattle.hs_claims.specs.Blockers.{has}
use Rattle.hs_claims.specs.Session.{IsSession}

-- whom each session waits for, one session after another from session 1 on
abbrev pub Waits : Type 0
Waits = List ℕ

-- those for whom a session waits
abbrev pub waits_of : Waits → ℕ → Blockers
waits_of waits s = record { 0 = slice_index waits (s - 1) }

-- session a waits for session b
abbrev pub WaitsFor : Waits → ℕ → ℕ → Type 0
WaitsFor waits a b = IsSession a × IsSession b × (has (waits_of waits a) b ≡ true)

-- a waits for the first of these, each of them for the next, and the last for b; where there are none, a is b
abbrev pub IsWay : Waits → ℕ → List ℕ → ℕ → Type 0
IsWay waits a [] b = a ≡ b
IsWay waits a (next ∷ way) b = WaitsFor waits a next × IsWay waits next way b

-- waits lead from a to b
abbrev pub Leads : Waits → ℕ → ℕ → Type 0
Leads waits a b = (way : List ℕ) × IsWay waits a way b

-- nobody waits for one from whom waits lead back
abbrev pub HasNoCycle : Waits → Type 0
HasNoCycle waits = (a b : ℕ) → WaitsFor waits a b → Leads waits b a → ⊥

-- the first of the blockers from whom waits lead back to a session, or that there is none
abbrev pub IsFirstLeading : Waits → ℕ → Blockers → Option SessionNo → Type 0
IsFirstLeading waits s blockers None = (b : ℕ) → IsSession b → has blockers b ≡ true → Leads waits b s → ⊥
IsFirstLeading waits s blockers (Some first) = IsSession first.0 × (has blockers first.0 ≡ true) × Leads waits first.0 s × ((b : ℕ) → 1 ≤ b → b < first.0 → has blockers b ≡ true → Leads waits b s → ⊥)
