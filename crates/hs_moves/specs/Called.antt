-- What the calls on what sessions hold make of it.
use Rattle.std.specs.Prelude.{◌≡◌, ℕ, ◌-◌, ◌==◌, Bool, false, [], ◌∷◌, ◌++◌, slice_set, if◌then◌else◌}
use Rattle.hs_base.specs.declared.numbers.CommitNo.{CommitNo}
use Rattle.hs_claims.specs.Held.{held_by}
use Rattle.hs_claims.specs.Session.{IsSession}
use Rattle.hs_claims.specs.Wants.{catalog_claim}
use Rattle.hs_sessions.specs.Settings.{ended}
use Rattle.hs_turns.specs.Waiting.{freed}
use Rattle.hs_holding.specs.declared.holding.Holding.{Holding}
use Rattle.hs_holding.specs.Held.{graph, seat_of}
use Rattle.hs_holding.specs.Seats.{begun}

-- a transaction ends
pub record IsEnded (old new : Holding) (s : ℕ) : Type 0 where
  pub seats : new.seats.items ≡ slice_set old.seats.items (s - 1) (record (seat_of old s) { session = ended (seat_of old s).session })
  pub claims : (b : ℕ) → IsSession b → held_by new.claims b ≡ (if b == s then [] else held_by old.claims b)
  pub waits : (a b : ℕ) → IsSession a → IsSession b → graph new a b ≡ freed s (graph old) a b

-- one begins
pub record IsBegun (old new : Holding) (s : ℕ) (auto : Bool) (start : CommitNo) : Type 0 where
  pub seats : new.seats.items ≡ slice_set old.seats.items (s - 1) (begun auto start (seat_of old s))
  pub claims : (b : ℕ) → IsSession b → held_by new.claims b ≡ (if b == s then held_by old.claims b ++ catalog_claim false ∷ [] else held_by old.claims b)
  pub waits : new.waits ≡ old.waits
