-- What the sessions hold stands for what a machine has of them.
use Rattle.std.specs.Prelude.{◌≡◌, ◌≤◌, ℕ, true, false, List, [], length, Some}
use Rattle.hs_claims.specs.declared.claim.Claim.{Claim}
use Rattle.hs_claims.specs.declared.model.ControlKind.{ControlKind}
use Rattle.hs_claims.specs.Compatible.{fits}
use Rattle.hs_claims.specs.Held.{held_by}
use Rattle.hs_claims.specs.Session.{IsSession}
use Rattle.hs_sessions.specs.declared.session.Session.{Session}
use Rattle.hs_turns.specs.Each.{Each}
use Rattle.hs_turns.specs.Histories.{Open, held}
use Rattle.hs_turns.specs.Machine.{settings_in}
use Rattle.hs_turns.proofs.Opened.{has}
use Rattle.hs_holding.specs.declared.holding.Holding.{Holding}
use Rattle.hs_holding.specs.declared.seat.Own.{Own}
use Rattle.hs_holding.specs.declared.seat.Seat.{Seat}
use Rattle.hs_holding.specs.Held.{IsNumber, graph, seat_of}
use Rattle.hs_tied.specs.Kept.{Kept, set_in}
use Rattle.hs_holding.specs.Seats.{is_open_seat, own_in, start_in}

abbrev pub own_of : Open → Own
own_of o = record { level = o.level; read_only = o.read_only; auto = o.auto }

-- a session has this transaction under a model, or would begin it
pub record IsOwn (kind : ControlKind) (seat : Seat) (o : Open) : Type 0 where
  pub own : own_in kind seat ≡ own_of o
  pub changes : seat.session.changes ≡ o.trace.changes
  pub savepoints : seat.session.savepoints ≡ o.trace.savepoints

-- these claims go together with others as those of a transaction do
abbrev pub AreClaims : ControlKind → Open → List Claim → Type 0
AreClaims kind o claims = (wanted : List Claim) → fits wanted claims ≡ fits wanted (held kind o.level o.read_only o.trace.feet)

-- its session has it open, with its start, and has its claims
pub record IsKept (kind : ControlKind) (h : Holding) (n : ℕ) (o : Open) : Type 0 where
  pub number : IsNumber n o.session
  pub opens : is_open_seat (seat_of h o.session) ≡ true
  pub start : start_in (seat_of h o.session) ≡ Some (record { 0 = o.start })
  pub own : IsOwn kind (seat_of h o.session) o
  pub claims : AreClaims kind o (held_by h.claims o.session)

-- no transaction is open
pub record IsIdle (session : Session) (claims : List Claim) : Type 0 where
  pub changes : session.changes ≡ []
  pub savepoints : session.savepoints ≡ []
  pub claims_none : claims ≡ []

pub record Holds (h : Holding) (k : Kept) : Type 0 where
  pub len : length h.seats.items ≡ length k.settings
  pub most : length k.settings ≤ 64
  pub settings : (b : ℕ) → IsNumber (length k.settings) b → set_in k.settings b ≡ settings_in (seat_of h b).session
  pub open_ : Each (IsKept k.kind h (length k.settings)) k.open_
  pub known : (b : ℕ) → IsSession b → has b k.open_ ≡ is_open_seat (seat_of h b)
  pub idle : (b : ℕ) → IsSession b → has b k.open_ ≡ false → IsIdle (seat_of h b).session (held_by h.claims b)
  pub waits : (a b : ℕ) → IsSession a → IsSession b → k.waits a b ≡ graph h a b
