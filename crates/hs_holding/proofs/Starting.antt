-- The sessions and their starts, one after another.
use Rattle.std.proofs.Common.{◌≡◌, ℕ, ◌-◌, ◌<◌, ◌≤◌, ◌==◌, Bool, true, false, List, [], ◌∷◌, zero, suc, length, get_or, refl, sym, ◌∙◌, subst, arith, eqb-true}
use Rattle.std.specs.Prelude.{Option, None, Some}
use Rattle.std.proofs.lemmas.Bool.{eqb-false}
use Rattle.hs_base.specs.declared.numbers.CommitNo.{CommitNo}
use Rattle.hs_claims.specs.declared.model.ControlKind.{ControlKind}
use Rattle.hs_sessions.specs.declared.session.Transaction.{Transaction}
use Rattle.hs_holding.specs.declared.holding.Holding.{Holding}
use Rattle.hs_holding.specs.declared.seat.Seat.{Seat}
use Rattle.hs_holding.specs.Held.{IsNumber, seat_of}
use Rattle.hs_holding.specs.Seats.{may_conflict, reads_from, start_in}
use Rattle.hs_holding.specs.Starts.{IsLeastAmong, IsNoEarlier, IsReadAmong}

-- what holds of the sessions before one and of this one
more : (P : ℕ → Type 0) (s : ℕ) → ((b : ℕ) → IsNumber (s - 1) b → P b) → P s → (b : ℕ) → IsNumber s b → P b
more P s before here b n = by (b == s) refl
  where
    by : (t : Bool) → (b == s) ≡ t → P b
    by true e = subst P (sym (eqb-true b s e)) here
    by false e = before b (n.0, omega (arith, n.0, n.1, eqb-false b s e))

wider : (s b : ℕ) → IsNumber (s - 1) b → IsNumber s b
wider s b n = (n.0, omega (arith, n.0, n.1))

true_false : {A : Type 0} (x : Bool) → x ≡ true → x ≡ false → A
true_false x e f = absurd (let clash : true ≡ false = sym e ∙ f in cc)

-- a seat that there is, in the place of whichever other one
pub at_seat : (seats : List Seat) (i : ℕ) (d e : Seat) → i < length seats → get_or seats i d ≡ get_or seats i e
at_seat [] i d e low = absurd (omega (arith, low))
at_seat (seat ∷ seats) zero d e low = refl
at_seat (seat ∷ seats) (suc i) d e low = at_seat seats i d e (omega (arith, low))

-- ---- who reads a state

pub unread_more : (kind : ControlKind) (start but s : ℕ) (h : Holding) → IsReadAmong kind start but (s - 1) h false → ((s == but) ≡ false → reads_from kind start (seat_of h s) ≡ false) → IsReadAmong kind start but s h false
unread_more kind start but s h before here b n other = more (λ (x : ℕ). (x == but) ≡ false → reads_from kind start (seat_of h x) ≡ false) s before here b n other

-- ---- the least start

-- a session without a transaction can't conflict
pub shut_same : (kind : ControlKind) (seat : Seat) → start_in seat ≡ None → may_conflict kind seat ≡ false
shut_same kind seat = by seat.session.transaction
  where
    by : (t : Option Transaction) → start_in (let x : Seat = record seat { session = record seat.session { transaction = t } } in x) ≡ None → may_conflict kind (let x : Seat = record seat { session = record seat.session { transaction = t } } in x) ≡ false
    by None none = refl
    by (Some t) none = absurd cc

earlier : (a b : ℕ) → a ≤ b → (start : Option CommitNo) → IsNoEarlier b start → IsNoEarlier a start
earlier a b le None h = h
earlier a b le (Some start) h = omega (arith, le, h)

module _ (kind : ControlKind) (but s : ℕ) (h : Holding) where
  abbrev IsLate : ℕ → ℕ → Type 0
  IsLate least b = (b == but) ≡ false → may_conflict kind (seat_of h b) ≡ true → IsNoEarlier least (start_in (seat_of h b))

  -- one that can't conflict
  pub least_same : (least : Option CommitNo) → ((s == but) ≡ false → may_conflict kind (seat_of h s) ≡ false) → IsLeastAmong kind but (s - 1) h least → IsLeastAmong kind but s h least
  least_same None none before = more (λ (x : ℕ). (x == but) ≡ false → may_conflict kind (seat_of h x) ≡ false) s before none
  least_same (Some least) none before = (
    more (IsLate least.0) s before.0 (λ other may. true_false (may_conflict kind (seat_of h s)) may (none other)),
    (before.1.0, wider s before.1.0 before.1.1, before.1.2, before.1.3, before.1.4),
  )

  -- one that may, and began no earlier
  pub least_kept : (least start : CommitNo) → start_in (seat_of h s) ≡ Some start → least.0 ≤ start.0 → IsLeastAmong kind but (s - 1) h (Some least) → IsLeastAmong kind but s h (Some least)
  least_kept least start is le before = (
    more (IsLate least.0) s before.0 (λ other may. subst (IsNoEarlier least.0) (sym is) le),
    (before.1.0, wider s before.1.0 before.1.1, before.1.2, before.1.3, before.1.4),
  )

  -- one that began earlier than those before it
  pub least_new : (least : Option CommitNo) (start : CommitNo) → 1 ≤ s → (s == but) ≡ false → may_conflict kind (seat_of h s) ≡ true → start_in (seat_of h s) ≡ Some start
      → ((other : CommitNo) → least ≡ Some other → start.0 ≤ other.0) → IsLeastAmong kind but (s - 1) h least → IsLeastAmong kind but s h (Some start)
  least_new least start low other may is less before =
      let same : start.0 ≤ start.0 = omega arith in (
        more (IsLate start.0) s (by least refl before) (λ ne claims. subst (IsNoEarlier start.0) (sym is) same),
        (s, (low, omega arith), other, may, is),
      )
    where
      by : (l : Option CommitNo) → least ≡ l → IsLeastAmong kind but (s - 1) h l → (b : ℕ) → IsNumber (s - 1) b → IsLate start.0 b
      by None e none b n ne claims = true_false (may_conflict kind (seat_of h b)) claims (none b n ne)
      by (Some first) e each b n ne claims = earlier start.0 first.0 (less first e) (start_in (seat_of h b)) (each.0 b n ne claims)
