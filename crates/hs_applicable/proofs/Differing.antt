-- Names of columns that differ.
use Rattle.std.proofs.Common.{◌≡◌, ℕ, ◌+◌, ◌≤◌, Bool, true, false, not, ◌&&◌, ◌||◌, length, take, drop, get_or, List, [], ◌∷◌, map, refl, sym, ap, ap₂, ◌∙◌, arith}
use Rattle.std.proofs.lemmas.List.{take_all}
use Rattle.std.specs.List.{list_any}
use Rattle.std.specs.Str.{bytes_eq}
use Rattle.hs_language.specs.Proper.{has_column}
use Rattle.hs_language.specs.Sound.{are_distinct}
use Rattle.hs_plan.specs.declared.definition.Column.{Column}

abbrev names : List Column → List (List ℕ)
names columns = map (λ (c : Column). c.name) columns

among_names : (name : List ℕ) (cs : List Column) → list_any (bytes_eq name) (names cs) ≡ has_column cs name
among_names name [] = refl
among_names name (c ∷ cs) = ap (λ b. bytes_eq name c.name || b) (among_names name cs)

first_differs : (cs : List Column) (first : Column) → 1 ≤ length cs → first ≡ get_or cs 0 first → are_distinct bytes_eq (names cs) ≡ (not (has_column (drop 1 cs) first.name) && are_distinct bytes_eq (names (drop 1 cs)))
first_differs [] first long is = absurd (omega (arith, long))
first_differs (c ∷ cs) first long is =
    ap (λ b. not b && are_distinct bytes_eq (names cs)) (among_names c.name cs ∙ ap (λ (k : Column). has_column cs k.name) (sym is))

-- what is behind the first
pub behind_first : (cs : List Column) (n : ℕ) → length cs ≤ n + 1 → take n (drop 1 cs) ≡ drop 1 cs
behind_first [] n long = take_all n [] (omega arith)
behind_first (c ∷ cs) n long = take_all n cs (omega arith)

module _ (cs rest : List Column) (first : Column) (among : Bool) (rest_is : rest ≡ drop 1 cs) (long : 1 ≤ length cs) (is : first ≡ get_or cs 0 first) (told : among ≡ has_column rest first.name) where
  split : are_distinct bytes_eq (names cs) ≡ (not among && are_distinct bytes_eq (names rest))
  split = first_differs cs first long is ∙ ap₂ (λ a (l : List Column). not a && are_distinct bytes_eq (names l)) (ap (λ (l : List Column). has_column l first.name) (sym rest_is) ∙ sym told) (sym rest_is)

  pub differ_on : among ≡ false → (b : Bool) → b ≡ are_distinct bytes_eq (names rest) → b ≡ are_distinct bytes_eq (names cs)
  differ_on none b others = others ∙ sym (split ∙ ap (λ a. not a && are_distinct bytes_eq (names rest)) none)

  pub differ_off : among ≡ true → not among ≡ are_distinct bytes_eq (names cs)
  differ_off found = ap not found ∙ sym (split ∙ ap (λ a. not a && are_distinct bytes_eq (names rest)) found)
