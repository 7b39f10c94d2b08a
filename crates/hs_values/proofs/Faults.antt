-- Of several faults the one of the least number counts.
use Rattle.std.proofs.Common.{◌≡◌, ◌⊎◌, inl, inr, ℕ, ◌≤◌, true, refl, sym, ap, ◌∙◌, arith}
use Rattle.std.specs.Prelude.{nat_le, min}
use Rattle.std.proofs.Math.Nat.{min_comm}
use Rattle.std.proofs.lemmas.Bool.{cases_Bool, cond-true, cond-false, leb-true, leb-false}
use Rattle.hs_values.specs.declared.fault.EvalFault.{EvalFault}
use Rattle.hs_values.specs.declared.fault.EvalFault.TheVariants as fault
use Rattle.hs_values.specs.Fault.{number_of, lesser}

pub one_number : (a b : EvalFault) → number_of a ≡ number_of b → a ≡ b
one_number fault.DivisionByZero fault.DivisionByZero h = refl
one_number fault.Range fault.Range h = refl
one_number fault.TooLong fault.TooLong h = refl
one_number fault.BadDate fault.BadDate h = refl
one_number fault.MoreThanOne fault.MoreThanOne h = refl
one_number fault.NoMemory fault.NoMemory h = refl
one_number a b h = absurd (omega arith)

-- the answer, with the reason
told : (a b : EvalFault) → ((lesser a b ≡ a) × (number_of a ≤ number_of b)) ⊎ ((lesser a b ≡ b) × (number_of b ≤ number_of a))
told a b = elim (cases_Bool (nat_le (number_of a) (number_of b))) [
  | inl h ↦ inl (cond-true _ _ _ h, leb-true (number_of a) (number_of b) h)
  | inr h ↦ let below = leb-false (number_of a) (number_of b) h in inr (cond-false _ _ _ h, omega arith)
]

pub lesser_either : (a b : EvalFault) → (lesser a b ≡ a) ⊎ (lesser a b ≡ b)
lesser_either a b = elim (told a b) [ inl h ↦ inl h.0 | inr h ↦ inr h.0 ]

number_lesser : (a b : EvalFault) → number_of (lesser a b) ≡ min (number_of a) (number_of b)
number_lesser a b = elim (told a b) [
  | inl h ↦ ap number_of h.0 ∙ least_left (number_of a) (number_of b) h.1
  | inr h ↦ ap number_of h.0 ∙ least_right (number_of a) (number_of b) h.1
]
  where
    least_left : (m n : ℕ) → m ≤ n → m ≡ min m n
    least_left m n h = omega arith

    least_right : (m n : ℕ) → n ≤ m → n ≡ min m n
    least_right m n h = omega arith

pub lesser_least : (a b : EvalFault) → (number_of (lesser a b) ≤ number_of a) × (number_of (lesser a b) ≤ number_of b)
lesser_least a b = below (number_of a) (number_of b) _ (number_lesser a b)
  where
    below : (m n k : ℕ) → k ≡ min m n → (k ≤ m) × (k ≤ n)
    below m n k e = (omega arith, omega arith)

pub lesser_turned : (a b : EvalFault) → lesser a b ≡ lesser b a
lesser_turned a b = one_number _ _ (number_lesser a b ∙ min_comm (number_of a) (number_of b) ∙ sym (number_lesser b a))

pub lesser_grouped : (a b c : EvalFault) → lesser (lesser a b) c ≡ lesser a (lesser b c)
lesser_grouped a b c =
    one_number _ _
    (number_lesser (lesser a b) c
    ∙ grouped (number_of a) (number_of b) (number_of c) _ _ (number_lesser a b) (number_lesser b c)
    ∙ sym (number_lesser a (lesser b c)))
  where
    grouped : (m n k p q : ℕ) → p ≡ min m n → q ≡ min n k → min p k ≡ min m q
    grouped m n k p q e f = omega arith
