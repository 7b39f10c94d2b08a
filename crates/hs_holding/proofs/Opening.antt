-- The sessions with an open transaction, one after another.
use Rattle.std.proofs.Common.{◌≡◌, ℕ, ◌+◌, ◌≤◌, ◌==◌, ◌&&◌, ◌||◌, Bool, true, false, length, refl, sym, ap, ◌∙◌, arith, eqb-true}
use Rattle.std.specs.Prelude.{nat_lt}
use Rattle.std.proofs.lemmas.Bool.{eqb-false, le-ltb, lt-ltb, ltb-false, ltb-true}
use Rattle.std.proofs.Math.ListN.{get_or-eq_default}
use Rattle.hs_holding.specs.declared.holding.Holding.{Holding}
use Rattle.hs_holding.specs.Held.{is_open_at}
use Rattle.hs_holding.specs.Seats.{is_open_seat, nobody_seat}

-- one session more, which has one
pub one_open : (h : Holding) (s b : ℕ) (x : Bool) → is_open_at h s ≡ true → ((b == s) || x) ≡ (((b == s) && is_open_at h b) || x)
one_open h s b x opens = by (b == s) refl
  where
    by : (t : Bool) → (b == s) ≡ t → (t || x) ≡ ((t && is_open_at h b) || x)
    by true e = ap (λ (c : Bool). c || x) (sym (ap (is_open_at h) (eqb-true b s e) ∙ opens))
    by false e = refl

-- one that has none
pub one_shut : (h : Holding) (s b : ℕ) (x : Bool) → is_open_at h s ≡ false → x ≡ (((b == s) && is_open_at h b) || x)
one_shut h s b x shut = by (b == s) refl
  where
    by : (t : Bool) → (b == s) ≡ t → x ≡ ((t && is_open_at h b) || x)
    by true e = ap (λ (c : Bool). c || x) (sym (ap (is_open_at h) (eqb-true b s e) ∙ shut))
    by false e = refl

-- below the first so many
pub none_below : (b : ℕ) (x : Bool) → 1 ≤ b → false ≡ (nat_lt b 1 && x)
none_below b x low = ap (λ (c : Bool). c && x) (sym (le-ltb b 1 low))

pub more_below : (h : Holding) (b s : ℕ) → (((b == s) && is_open_at h b) || (nat_lt b s && is_open_at h b)) ≡ (nat_lt b (s + 1) && is_open_at h b)
more_below h b s = by (b == s) (nat_lt b s) refl refl
  where
    or_false : (x : Bool) → (x || false) ≡ x
    or_false true = refl
    or_false false = refl

    by : (t u : Bool) → (b == s) ≡ t → nat_lt b s ≡ u → ((t && is_open_at h b) || (u && is_open_at h b)) ≡ (nat_lt b (s + 1) && is_open_at h b)
    by true true e f = absurd (omega (arith, eqb-true b s e, ltb-true b s f))
    by true false e f = or_false (is_open_at h b) ∙ ap (λ (c : Bool). c && is_open_at h b) (sym (lt-ltb b (s + 1) (omega (arith, eqb-true b s e))))
    by false true e f = ap (λ (c : Bool). c && is_open_at h b) (sym (lt-ltb b (s + 1) (omega (arith, ltb-true b s f))))
    by false false e f = ap (λ (c : Bool). c && is_open_at h b) (sym (le-ltb b (s + 1) (omega (arith, eqb-false b s e, ltb-false b s f))))

-- beyond all there is none
pub all_below : (h : Holding) (b n : ℕ) → 1 ≤ b → length h.seats.items + 1 ≤ n → (nat_lt b n && is_open_at h b) ≡ is_open_at h b
all_below h b n low far = by (nat_lt b n) refl
  where
    by : (t : Bool) → nat_lt b n ≡ t → (t && is_open_at h b) ≡ is_open_at h b
    by true e = refl
    by false e = sym (ap is_open_seat (get_or-eq_default h.seats.items nobody_seat (omega (arith, ltb-false b n e, far, low))))
