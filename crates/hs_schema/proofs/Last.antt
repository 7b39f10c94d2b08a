-- The last thing of a catalogue has the greatest number.
use Rattle.std.proofs.Common.{◌≡◌, ℕ, zero, suc, ◌+◌, ◌-◌, ◌<◌, ◌≤◌, true, nat_lt, nat_le, [], ◌∷◌, Some, length, slice_get, ◌↔◌, ap, subst, arith}
use Rattle.std.proofs.lemmas.Bool.Decides.{nat_tests}
use Rattle.std.proofs.lemmas.List.Elements.{All-cons, All-head, All-tail, All-nil, All-weaker}
use Rattle.std.specs.List.{All}
use Rattle.hs_schema.specs.declared.thing.Thing.{Thing}
use Rattle.hs_schema.specs.Catalogue.{Things}
use Rattle.hs_schema.specs.Whole.{Ascends}

at_place : (P : Thing → Type 0) (ts : Things) (at : ℕ) (x : Thing) → All P ts → Some x ≡ slice_get ts at → P x
at_place P [] zero x h e = cc
at_place P [] (suc n) x h e = cc
at_place P (t ∷ ts) zero x h e = let same : t ≡ x = cc in subst P same (All-head P t ts h)
at_place P (t ∷ ts) (suc n) x h e = at_place P ts n x (All-tail P t ts h) e

greatest : (ts : Things) (at : ℕ) (last : Thing) → Ascends ts → at + 1 ≡ length ts → Some last ≡ slice_get ts at → All (λ (t : Thing). t.number ≤ last.number) ts
greatest [] at last a e s = absurd (omega arith)
greatest (t ∷ []) zero last a e s =
    let same : t ≡ last = cc in
    let numbers : t.number ≡ last.number = ap (λ (x : Thing). x.number) same in
    All-cons (λ (x : Thing). x.number ≤ last.number) t [] (omega arith) (All-nil (λ (x : Thing). x.number ≤ last.number))
greatest (t ∷ []) (suc n) last a e s = absurd (omega arith)
greatest (t ∷ u ∷ us) zero last a e s = absurd (omega arith)
greatest (t ∷ u ∷ us) (suc n) last a e s =
    let rest = greatest (u ∷ us) n last a.1 (omega arith) s in
    let one : t.number ≤ u.number = All-head (λ (x : Thing). t.number ≤ x.number) u us a.0 in
    let two : u.number ≤ last.number = All-head (λ (x : Thing). x.number ≤ last.number) u us rest in
    All-cons (λ (x : Thing). x.number ≤ last.number) t (u ∷ us) (omega arith) rest

greatest_last : (ts : Things) (last : Thing) → Ascends ts → Some last ≡ slice_get ts (length ts - 1) → All (λ (t : Thing). t.number ≤ last.number) ts
greatest_last [] last a s = cc
greatest_last (t ∷ ts) last a s = greatest (t ∷ ts) (length (t ∷ ts) - 1) last a (omega arith) s

module _ (ts : Things) (last : Thing) (number : ℕ) (ascending : Ascends ts) (is : Some last ≡ slice_get ts (length ts - 1)) where
  pub all_below : (nat_lt last.number number ≡ true) ↔ All (λ (t : Thing). t.number < number) ts
  all_below = (
    λ h. let lt : last.number < number = grind (arith, nat_tests, h) in All-weaker (λ (t : Thing). t.number ≤ last.number) (λ (t : Thing). t.number < number) (λ t le. omega arith) ts (greatest_last ts last ascending is),
    λ all. let lt : last.number < number = at_place (λ (t : Thing). t.number < number) ts (length ts - 1) last all is in grind (arith, nat_tests, lt),
  )

  pub all_up_to : (nat_le last.number number ≡ true) ↔ All (λ (t : Thing). t.number ≤ number) ts
  all_up_to = (
    λ h. let lt : last.number ≤ number = grind (arith, nat_tests, h) in All-weaker (λ (t : Thing). t.number ≤ last.number) (λ (t : Thing). t.number ≤ number) (λ t le. omega arith) ts (greatest_last ts last ascending is),
    λ all. let lt : last.number ≤ number = at_place (λ (t : Thing). t.number ≤ number) ts (length ts - 1) last all is in grind (arith, nat_tests, lt),
  )
