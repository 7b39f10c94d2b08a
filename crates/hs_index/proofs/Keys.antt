-- Whether a value in some columns passes a test.
use Rattle.std.proofs.Common.{◌≡◌, ℕ, ◌+◌, ◌<◌, Bool, false, ◌||◌, List, [], ◌∷◌, get_or, length, map, take, refl, sym, ap, ◌∙◌}
use Rattle.std.proofs.lemmas.List.Folds.{list_any_more}
use Rattle.std.specs.List.{list_any}

pub any_mapped : {X Y : Type 0} (p : Y → Bool) (f : X → Y) (xs : List X) → list_any p (map f xs) ≡ list_any (λ x. p (f x)) xs
any_mapped p f [] = refl
any_mapped p f (x ∷ xs) = ap (λ b. p (f x) || b) (any_mapped p f xs)

pub any_on : {X Y : Type 0} (p : Y → Bool) (f : X → Y) (xs : List X) (i : ℕ) (x : X) → i < length xs → list_any p (map f (take i xs)) ≡ false → p (f (get_or xs i x)) ≡ false → list_any p (map f (take (i + 1) xs)) ≡ false
any_on p f xs i x low before here =
    any_mapped p f (take (i + 1) xs)
    ∙ list_any_more (λ y. p (f y)) xs i x low
    ∙ (λ j. (sym (any_mapped p f (take i xs)) ∙ before) j || here j)
