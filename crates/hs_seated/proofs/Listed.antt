-- Lists that go along with others.
use Rattle.std.proofs.Common.{◌≡◌, ◌⊎◌, inl, inr, ℕ, zero, suc, ◌+◌, ◌<◌, ◌≤◌, List, [], ◌∷◌, ◌++◌, length, take, Some, refl, sym, ap, subst, ◌∙◌, arith}
use Rattle.std.proofs.Math.Seq.{take-length, take-append_seam}
use Rattle.std.proofs.lemmas.List.{take-append-le, length-append}
use Rattle.std.proofs.lemmas.Option.{slice_get_within}
use Rattle.std.specs.Prelude.{slice_get}
use Rattle.hs_seated.specs.Listed.{AreOver}

pub last_or_before : {X : Type 0} (xs : List X) (x y : X) (i : ℕ) → slice_get (xs ++ x ∷ []) i ≡ Some y → (slice_get xs i ≡ Some y) ⊎ ((i ≡ length xs) × (x ≡ y))
last_or_before [] x y zero h = inr (refl, cc)
last_or_before [] x y (suc i) h = absurd (cc)
last_or_before (z ∷ zs) x y zero h = inl h
last_or_before (z ∷ zs) x y (suc i) h = elim (last_or_before zs x y i h) [ inl before ↦ inl before | inr last ↦ inr (ap suc last.0, last.1) ]

take_get : {X : Type 0} (xs : List X) (n i : ℕ) (y : X) → slice_get (take n xs) i ≡ Some y → (i < n) × (slice_get xs i ≡ Some y)
take_get xs zero i y h = absurd (cc)
take_get [] (suc n) i y h = absurd (cc)
take_get (x ∷ xs) (suc n) zero y h = (omega arith, h)
take_get (x ∷ xs) (suc n) (suc i) y h = let rest = take_get xs n i y h in let low = rest.0 in (omega arith, rest.1)

pub take_take : {X : Type 0} (xs : List X) (n i : ℕ) → i ≤ n → take i (take n xs) ≡ take i xs
take_take xs n zero h = refl
take_take xs zero (suc i) h = absurd (omega (arith, h))
take_take [] (suc n) (suc i) h = refl
take_take (x ∷ xs) (suc n) (suc i) h = ap (λ l. x ∷ l) (take_take xs n i (omega (arith, h)))

module _ {C S : Type 0} (Q : List C → List C → S → Type 0) where
  pub over_on : (cs : List C) (c : C) (ss : List S) (s : S) → length ss ≡ length cs → AreOver Q cs ss → Q cs (cs ++ c ∷ []) s → AreOver Q (cs ++ c ∷ []) (ss ++ s ∷ [])
  over_on cs c ss s same over is = λ i x at. elim (last_or_before ss s x i at) [
    | inl before ↦
        let low : i < length ss = slice_get_within ss i x before in
        let short : i ≤ length cs = omega (arith, same, low) in
        let short_too : i + 1 ≤ length cs = omega (arith, same, low) in
        subst (λ (l : List C). Q l (take (i + 1) (cs ++ c ∷ [])) x) (sym (take-append-le i cs (c ∷ []) short))
        (subst (λ (l : List C). Q (take i cs) l x) (sym (take-append-le (i + 1) cs (c ∷ []) short_too)) (over i x before))
    | inr last ↦
        let here : i ≡ length cs = last.0 ∙ same in
        let all : length (cs ++ c ∷ []) ≡ i + 1 = omega (arith, length-append cs (c ∷ []), here) in
        let front : take i (cs ++ c ∷ []) ≡ cs = ap (λ n. take n (cs ++ c ∷ [])) here ∙ take-append_seam cs (c ∷ []) in
        let whole : take (i + 1) (cs ++ c ∷ []) ≡ cs ++ c ∷ [] = ap (λ n. take n (cs ++ c ∷ [])) (sym all) ∙ take-length (cs ++ c ∷ []) in
        subst (λ (l : List C). Q l (take (i + 1) (cs ++ c ∷ [])) x) (sym front) (subst (λ (l : List C). Q cs l x) (sym whole) (subst (λ (y : S). Q cs (cs ++ c ∷ []) y) last.1 is))
  ]

  pub over_front : (cs : List C) (ss : List S) (n : ℕ) → AreOver Q cs ss → AreOver Q (take n cs) (take n ss)
  over_front cs ss n over = λ i x at.
      let found = take_get ss n i x at in
      let low : i < n = found.0 in
      subst (λ (l : List C). Q l (take (i + 1) (take n cs)) x) (sym (take_take cs n i (omega (arith, low))))
      (subst (λ (l : List C). Q (take i cs) l x) (sym (take_take cs n (i + 1) (omega (arith, low)))) (over i x found.1))
