-- Names that are listed, one more at a time.
use Rattle.std.proofs.Common.{◌≡◌, ℕ, zero, suc, ◌+◌, Bool, true, false, cond, List, [], ◌∷◌, ◌++◌, map, refl, sym, ap, ◌∙◌, append-nil, append_assoc, add-one, arith}
use Rattle.std.specs.Prelude.{filter, not, ◌&&◌, codes}
use Rattle.std.proofs.lemmas.List.Elements.{filter-append}
use Rattle.std.proofs.lemmas.List.{map-append}
use Rattle.hs_turns.specs.Lines.{listed}
use Rattle.hs_turns.specs.Waiting.{ascending}
use Rattle.hs_lines.specs.Told.{behind, is_none}

ascending_more : (first n : ℕ) → ascending first (suc n) ≡ ascending first n ++ (first + n) ∷ []
ascending_more first zero = ap (λ (k : ℕ). k ∷ []) (omega arith)
ascending_more first (suc n) = ap (λ (l : List ℕ). first ∷ l) (ascending_more (first + 1) n ∙ ap (λ (k : ℕ). ascending (first + 1) n ++ k ∷ []) (omega arith))

-- one more name, behind a comma unless it is the first
listed_more : (names : List (List ℕ)) (name : List ℕ) → listed (names ++ name ∷ []) ≡ listed names ++ (behind (is_none names) ++ name)
listed_more [] name = refl
listed_more (one ∷ []) name = append_assoc one (codes ", ") name
listed_more (one ∷ next ∷ more) name =
    ap (λ (l : List ℕ). one ++ codes ", " ++ l) (listed_more (next ∷ more) name) ∙ sym (append_assoc (one ++ codes ", ") (listed (next ∷ more)) (codes ", " ++ name))

none_more : (names : List (List ℕ)) (name : List ℕ) → is_none (names ++ name ∷ []) ≡ false
none_more [] name = refl
none_more (one ∷ names) name = refl

both : (b : Bool) → (b && not true) ≡ false
both true = refl
both false = refl

alone : (b : Bool) → (b && not false) ≡ b
alone true = refl
alone false = refl

module _ (f : ℕ → List ℕ) (p : ℕ → Bool) where
  -- those of the first so many that pass
  abbrev pub among : ℕ → List (List ℕ)
  among n = map f (filter p (ascending 1 n))

  among_more : (n : ℕ) → among (n + 1) ≡ among n ++ map f (cond (p (n + 1)) ((n + 1) ∷ []) [])
  among_more n =
      ap (λ (k : ℕ). among k) (add-one n) ∙ ap (λ (l : List ℕ). map f (filter p l)) (ascending_more 1 n ∙ ap (λ (k : ℕ). ascending 1 n ++ k ∷ []) (omega arith))
      ∙ ap (map f) (filter-append p (ascending 1 n) ((n + 1) ∷ [])) ∙ map-append f (filter p (ascending 1 n)) (cond (p (n + 1)) ((n + 1) ∷ []) [])

  by : (b : Bool) (n : ℕ) → p (n + 1) ≡ b → among (n + 1) ≡ among n ++ map f (cond b ((n + 1) ∷ []) [])
  by b n e = among_more n ∙ ap (λ b. among n ++ map f (cond b ((n + 1) ∷ []) [])) e

  listed_by : (b : Bool) (n : ℕ) → p (n + 1) ≡ b → listed (among (n + 1)) ≡ listed (among n) ++ cond b (behind (is_none (among n)) ++ f (n + 1)) []
  listed_by true n e = ap listed (by true n e) ∙ listed_more (among n) (f (n + 1))
  listed_by false n e = ap listed (by false n e ∙ append-nil (among n)) ∙ sym (append-nil (listed (among n)))

  none_by : (b : Bool) (n : ℕ) → p (n + 1) ≡ b → is_none (among (n + 1)) ≡ (is_none (among n) && not b)
  none_by true n e = ap is_none (by true n e) ∙ none_more (among n) (f (n + 1)) ∙ sym (both (is_none (among n)))
  none_by false n e = ap is_none (by false n e ∙ append-nil (among n)) ∙ sym (alone (is_none (among n)))

  pub listed_step : (n : ℕ) → listed (among (n + 1)) ≡ listed (among n) ++ cond (p (n + 1)) (behind (is_none (among n)) ++ f (n + 1)) []
  listed_step n = listed_by (p (n + 1)) n refl

  pub none_step : (n : ℕ) → is_none (among (n + 1)) ≡ (is_none (among n) && not (p (n + 1)))
  none_step n = none_by (p (n + 1)) n refl
