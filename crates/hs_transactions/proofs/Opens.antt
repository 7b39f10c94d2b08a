-- The open transaction of a session, as it is found.
use Rattle.std.proofs.Common.{◌≡◌, ℕ, ◌==◌, Bool, true, false, List, [], ◌∷◌, length, refl, ◌∙◌, subst}
use Rattle.std.specs.Prelude.{Option, None, Some, is_some, find, if◌then◌else◌}
use Rattle.hs_claims.specs.Session.{IsSession}
use Rattle.hs_turns.specs.Each.{Each}
use Rattle.hs_turns.specs.Histories.{Open, others, own, put_open}
use Rattle.hs_holding.specs.declared.holding.Holding.{Holding}
use Rattle.hs_holding.specs.Held.{is_open_at, seat_of}
use Rattle.hs_holding.specs.Seats.{start_in}
use Rattle.hs_claims.specs.Held.{held_by}
use Rattle.hs_tied.specs.Holds.{AreClaims, Holds, IsKept, IsOwn}
use Rattle.hs_tied.specs.Kept.{Kept, fresh_for, own_for}
use Rattle.hs_tied.proofs.Lists.{found_each}
use Rattle.hs_turns.proofs.Opened.{found_is}

pub record IsFound (h : Holding) (k : Kept) (s : ℕ) (o : Open) : Type 0 where
  pub found : find (λ x. x.session == s) k.open_ ≡ Some o
  pub session : o.session ≡ s
  pub its : IsOwn k.kind (seat_of h s) o
  pub start : start_in (seat_of h s) ≡ Some (record { 0 = o.start })
  pub claims : AreClaims k.kind o (held_by h.claims s)

some_by : (r : Option Open) → is_some r ≡ true → (o : Open) × (r ≡ Some o)
some_by (Some o) e = (o, refl)
some_by None e = absurd cc

none_by : (r : Option Open) → is_some r ≡ false → r ≡ None
none_by None e = refl
none_by (Some o) e = absurd cc

module _ (h : Holding) (k : Kept) (holds : Holds h k) (s : ℕ) (at : IsSession s) where
  pub found_one : (o : Open) → find (λ x. x.session == s) k.open_ ≡ Some o → IsFound h k s o
  found_one o e =
      let it = found_each (IsKept k.kind h (length k.settings)) s o k.open_ e holds.open_ in
      record {
        found = e;
        session = it.1;
        its = subst (λ (x : ℕ). IsOwn k.kind (seat_of h x) o) it.1 it.0.own;
        start = subst (λ (x : ℕ). start_in (seat_of h x) ≡ Some (record { 0 = o.start })) it.1 it.0.start;
        claims = subst (λ (x : ℕ). AreClaims k.kind o (held_by h.claims x)) it.1 it.0.claims;
      }

  -- one is open
  pub found_open : is_open_at h s ≡ true → (o : Open) × IsFound h k s o
  found_open e =
      let one : (o : Open) × (find (λ x. x.session == s) k.open_ ≡ Some o) = some_by (find (λ x. x.session == s) k.open_) (found_is s k.open_ ∙ holds.known s at ∙ e) in
      (one.0, found_one one.0 one.1)

  -- none is
  pub found_shut : is_open_at h s ≡ false → find (λ x. x.session == s) k.open_ ≡ None
  found_shut e = none_by (find (λ x. x.session == s) k.open_) (found_is s k.open_ ∙ holds.known s at ∙ e)

-- ---- one in its place

pub put_each : (P : Open → Type 0) (s : ℕ) (o : Open) → (xs : List Open) → Each P (put_open s o xs) → P o
put_each P s o [] h = h.0
put_each P s o (x ∷ xs) h = by (x.session == s) h (put_each P s o xs)
  where
    by : (t : Bool) → Each P (if t then o ∷ others s xs else x ∷ put_open s o xs) → (Each P (put_open s o xs) → P o) → P o
    by true k rest = k.0
    by false k rest = rest k.1

-- that of a session is the one that begins with what it has itself
pub own_again : (s : ℕ) (b : Bool) (k : Kept) → own_for s (own_for s b k).auto k ≡ own_for s b k
own_again s b k = by k.open_
  where
    here : (t : Bool) (x : Open) (xs : List Open) → own s (fresh_for s (own s (fresh_for s b k) xs).auto k) xs ≡ own s (fresh_for s b k) xs
        → (if t then x else own s (fresh_for s (if t then x else own s (fresh_for s b k) xs).auto k) xs) ≡ (if t then x else own s (fresh_for s b k) xs)
    here true x xs e = refl
    here false x xs e = e

    by : (xs : List Open) → own s (fresh_for s (own s (fresh_for s b k) xs).auto k) xs ≡ own s (fresh_for s b k) xs
    by [] = refl
    by (x ∷ xs) = here (x.session == s) x xs (by xs)
