-- What calls change of what the sessions hold.
use Rattle.std.proofs.Common.{◌≡◌, ◌≢◌, ℕ, ◌-◌, ◌==◌, Bool, false, List, length, get_or, refl, ap, ◌∙◌, arith, eq-eqb}
use Rattle.std.specs.Prelude.{slice_set, if◌then◌else◌}
use Rattle.std.proofs.lemmas.Bool.{eqb-false}
use Rattle.std.proofs.lemmas.List.{get_or-set_same, get_or-set_other, length-set}
use Rattle.hs_claims.specs.declared.claim.Claim.{Claim}
use Rattle.hs_claims.specs.Held.{held_by}
use Rattle.hs_claims.specs.Session.{IsSession}
use Rattle.hs_turns.specs.Waiting.{Waits}
use Rattle.hs_holding.specs.declared.holding.Holding.{Holding}
use Rattle.hs_holding.specs.declared.seat.Seat.{Seat}
use Rattle.hs_holding.specs.Held.{IsSeat, graph, seat_of}
use Rattle.hs_holding.specs.Seats.{nobody_seat}

-- one session and its claims are so now, the others are as they were, and these are the waits
pub record IsChanged (old new : Holding) (s : ℕ) (seat : Seat) (claims : List Claim) (waits : Waits) : Type 0 where
  pub len : length new.seats.items ≡ length old.seats.items
  pub its : seat_of new s ≡ seat
  pub its_claims : held_by new.claims s ≡ claims
  pub others : (b : ℕ) → IsSession b → (b == s) ≡ false → seat_of new b ≡ seat_of old b
  pub other_claims : (b : ℕ) → IsSession b → (b == s) ≡ false → held_by new.claims b ≡ held_by old.claims b
  pub waits_are : (a b : ℕ) → IsSession a → IsSession b → graph new a b ≡ waits a b

-- these are the waits, and all else is as it was
pub record IsWaiting (old new : Holding) (waits : Waits) : Type 0 where
  pub seats : new.seats.items ≡ old.seats.items
  pub claims : new.claims ≡ old.claims
  pub waits_are : (a b : ℕ) → IsSession a → IsSession b → graph new a b ≡ waits a b

apart : (b s : ℕ) → IsSession b → IsSession s → (b == s) ≡ false → b - 1 ≢ s - 1
apart b s h k ne e = eqb-false b s ne (omega (arith, h.0, k.0, e))

-- one seat is set, and the claims of its session
pub changed_by : (old new : Holding) (s : ℕ) (seat : Seat) (its : List Claim) (waits : Waits) → IsSeat old s → IsSession s → new.seats.items ≡ slice_set old.seats.items (s - 1) seat
    → held_by new.claims s ≡ its → ((b : ℕ) → IsSession b → (b == s) ≡ false → held_by new.claims b ≡ held_by old.claims b) → ((a b : ℕ) → IsSession a → IsSession b → graph new a b ≡ waits a b)
    → IsChanged old new s seat its waits
changed_by old new s seat its waits here session is its_are others waits_are = record {
  len = ap length is ∙ length-set old.seats.items (s - 1) seat;
  its = ap (λ (xs : List Seat). get_or xs (s - 1) nobody_seat) is ∙ get_or-set_same old.seats.items (s - 1) seat nobody_seat (omega (arith, here.0, here.1));
  its_claims = its_are;
  others = λ b at ne. ap (λ (xs : List Seat). get_or xs (b - 1) nobody_seat) is ∙ get_or-set_other old.seats.items (s - 1) (b - 1) seat nobody_seat (apart b s at session ne);
  other_claims = others;
  waits_are = waits_are;
}

-- claims by a test of the session
pub test_here : (s : ℕ) (x y : List Claim) → (if s == s then x else y) ≡ x
test_here s x y = ap (λ (b : Bool). if b then x else y) (eq-eqb s s refl)

pub test_other : (b s : ℕ) (x y : List Claim) → (b == s) ≡ false → (if b == s then x else y) ≡ y
test_other b s x y ne = ap (λ (t : Bool). if t then x else y) ne

-- nothing is changed
pub same_changed : (h : Holding) (s : ℕ) → IsChanged h h s (seat_of h s) (held_by h.claims s) (graph h)
same_changed h s = record { len = refl; its = refl; its_claims = refl; others = λ b at ne. refl; other_claims = λ b at ne. refl; waits_are = λ a b p q. refl }
