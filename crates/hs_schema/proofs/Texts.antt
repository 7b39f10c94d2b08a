-- A map with texts as keys, by its entries.
use Rattle.std.proofs.Common.{◌≡◌, ℕ, Bool, true, false, cond, filter, List, [], ◌∷◌, ◌++◌, map, Option, Some, None, ◌+◌, refl, ap, ◌∙◌, string_bytes}
use Rattle.std.specs.declared.alloc.Global.{Global}
use Rattle.std.specs.declared.string.String.{String}
use Rattle.std.specs.List.{position_from}
use Rattle.std.specs.Map.{lookup, keys_of}
use Rattle.std.specs.Option.{option_map, option_map_or}
use Rattle.std.specs.Str.{bytes_eq}
use Rattle.std.specs.String.{string_eq}
use Rattle.indexmap.specs.IndexMap.{insert_entry}
use Rattle.hs_schema.specs.Texts.{texts}

module _ {X : Type 0} where
  pub looked : (es : List (String Global × X)) (name : List ℕ) → lookup (λ (k : String Global). bytes_eq name (string_bytes k)) es ≡ lookup (bytes_eq name) (texts es)
  looked [] name = refl
  looked (e ∷ es) name = ap (cond (bytes_eq name (string_bytes e.0)) (Some e.1)) (looked es name)

  pub found : (es : List (String Global × X)) (xs : List (List ℕ × X)) (name : List ℕ) → texts es ≡ xs → lookup (λ (k : String Global). bytes_eq name (string_bytes k)) es ≡ lookup (bytes_eq name) xs
  found es xs name is = looked es name ∙ ap (lookup (bytes_eq name)) is

  pub added : (es : List (String Global × X)) (key : String Global) (x : X) → lookup (bytes_eq (string_bytes key)) (texts es) ≡ None → texts (insert_entry string_eq es key x) ≡ texts es ++ (string_bytes key, x) ∷ []
  added [] key x h = refl
  added (e ∷ es) key x h = by (bytes_eq (string_bytes key) (string_bytes e.0)) h (added es key x)
    where
      by : (b : Bool) → cond b (Some e.1) (lookup (bytes_eq (string_bytes key)) (texts es)) ≡ None
          → (lookup (bytes_eq (string_bytes key)) (texts es) ≡ None → texts (insert_entry string_eq es key x) ≡ texts es ++ (string_bytes key, x) ∷ [])
          → texts (cond b ((e.0, x) ∷ es) (e ∷ insert_entry string_eq es key x)) ≡ (string_bytes e.0, e.1) ∷ (texts es ++ (string_bytes key, x) ∷ [])
      by true h rest = cc
      by false h rest = ap (λ ys. (string_bytes e.0, e.1) ∷ ys) (rest h)

  pub kept : (test : List ℕ → X → Bool) (es : List (String Global × X)) → texts (filter (λ (e : String Global × X). test (string_bytes e.0) e.1) es) ≡ filter (λ (e : List ℕ × X). test e.0 e.1) (texts es)
  kept test [] = refl
  kept test (e ∷ es) = by (test (string_bytes e.0) e.1) (kept test es)
    where
      by : (b : Bool) → texts (filter (λ (e : String Global × X). test (string_bytes e.0) e.1) es) ≡ filter (λ (e : List ℕ × X). test e.0 e.1) (texts es)
          → texts (cond b (e ∷ filter (λ (e : String Global × X). test (string_bytes e.0) e.1) es) (filter (λ (e : String Global × X). test (string_bytes e.0) e.1) es)) ≡ cond b ((string_bytes e.0, e.1) ∷ filter (λ (e : List ℕ × X). test e.0 e.1) (texts es)) (filter (λ (e : List ℕ × X). test e.0 e.1) (texts es))
      by true rest = ap (λ ys. (string_bytes e.0, e.1) ∷ ys) rest
      by false rest = rest

  pub placed : (es : List (String Global × X)) (name : List ℕ) (at : ℕ) → position_from (λ (k : String Global). bytes_eq name (string_bytes k)) at (keys_of es) ≡ position_from (bytes_eq name) at (map (λ (e : List ℕ × X). e.0) (texts es))
  placed [] name at = refl
  placed (e ∷ es) name at = ap (cond (bytes_eq name (string_bytes e.0)) (Some at)) (placed es name (at + 1))

pub name_put : {X : Type 0} (x : X) (name : Option (String Global)) → option_map_or {U = List (List ℕ × X)} (λ (n : String Global). (string_bytes n, x) ∷ []) name [] ≡ option_map_or {U = List (List ℕ × X)} (λ (n : List ℕ). (n, x) ∷ []) (option_map (λ (n : String Global). string_bytes n) name) []
name_put x None = refl
name_put x (Some name) = refl
