-- What the calls on what sessions hold make of it.
use Rattle.std.specs.Prelude.{◌≡◌, ℕ, ◌-◌, false, [], ◌∷◌, ◌++◌, slice_set}
use Rattle.hs_ast.specs.declared.session.Isolation.{Isolation}
use Rattle.hs_claims.specs.declared.blockers.Blockers.{Blockers}
use Rattle.hs_claims.specs.Session.{IsSession}
use Rattle.hs_sessions.specs.declared.control.Control.{Control}
use Rattle.hs_sessions.specs.Settings.{controlled, fresh}
use Rattle.hs_holding.specs.declared.holding.Holding.{Holding}
use Rattle.hs_holding.specs.Held.{answered, graph, seat_of, waits_by}

-- a statement on settings or savepoints is done
pub record IsControlled (control : Control) (old new : Holding) (s : ℕ) : Type 0 where
  pub seats : new.seats.items ≡ slice_set old.seats.items (s - 1) (record (seat_of old s) { session = (controlled control (seat_of old s).session).1 })
  pub claims : new.claims ≡ old.claims
  pub waits : new.waits ≡ old.waits

-- a session of a level is added
pub record IsAdmitted (level : Isolation) (old new : Holding) : Type 0 where
  pub seats : new.seats.items ≡ old.seats.items ++ record { session = fresh level; auto = false } ∷ []
  pub claims : new.claims ≡ old.claims
  pub waits : new.waits ≡ old.waits

-- a session waits for these
pub record IsHeldUp (old new : Holding) (s : ℕ) (set : Blockers) : Type 0 where
  pub waits : (a b : ℕ) → IsSession a → IsSession b → graph new a b ≡ waits_by s set (graph old) a b
  pub seats : new.seats ≡ old.seats
  pub claims : new.claims ≡ old.claims

-- it waits for nobody
pub record IsAnswered (old new : Holding) (s : ℕ) : Type 0 where
  pub waits : (a b : ℕ) → IsSession a → IsSession b → graph new a b ≡ answered s (graph old) a b
  pub seats : new.seats ≡ old.seats
  pub claims : new.claims ≡ old.claims
