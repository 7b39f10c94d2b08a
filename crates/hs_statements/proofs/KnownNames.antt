-- Names of columns that are there have places.
use Rattle.std.proofs.Common.{◌≡◌, ℕ, ◌+◌, Bool, true, false, cond, not, List, [], ◌∷◌, ◌++◌, map, Some, None, refl, ap}
use Rattle.std.specs.Prelude.{if◌then◌else◌, is_some}
use Rattle.std.specs.List.{position_from}
use Rattle.std.specs.Map.{lookup}
use Rattle.std.specs.Str.{bytes_eq}
use Rattle.std.proofs.lemmas.Slice.Eq.{bytes_eq-Decides}
use Rattle.hs_ast.specs.declared.word.Identifier.{Identifier}
use Rattle.hs_statements.proofs.KnownParts.{Each, IsKnown, all_known, each_map, left_none, no_cons, right_none}
use Rattle.hs_elements.specs.Columns.{TypedNames, columns_of, has_column, place_in, unknown, with_column}
use Rattle.hs_elements.specs.Faults.{Text, no_such_column_at, where_so}
use Rattle.hs_outlines.specs.Outline.{places_in}
use Rattle.hs_plan.specs.declared.definition.Column.{Column}
use Rattle.hs_plan.specs.declared.fault.PlacedFault.{PlacedFault}
use Rattle.hs_values.specs.declared.sql_type.SqlType.{SqlType}

-- ---- places

pub no_fault_so : (b : Bool) (f : PlacedFault) → where_so (not b) f ≡ [] → b ≡ true
no_fault_so true f none = refl
no_fault_so false f none = absurd (no_cons f [] none)

position_known : (n : ℕ) (names : TypedNames) (name : Text) → has_column names name ≡ true → IsKnown (position_from (bytes_eq name) n (map (λ c. c.0) names))
position_known n [] name is = absurd (let no : false ≡ true = is in cc)
position_known n (c ∷ cs) name is =
    (elim (bytes_eq name c.0) as (λ b. is_some (if b then Some c.1 else lookup (bytes_eq name) cs) ≡ true → IsKnown (cond b (Some n) (position_from (bytes_eq name) (n + 1) (map (λ c. c.0) cs)))) [
      | true ↦ λ e. tt
      | false ↦ λ e. position_known (n + 1) cs name e
    ]) is

pub place_known : (names : TypedNames) (name : Text) → has_column names name ≡ true → IsKnown (place_in names name)
place_known names name is = position_known 0 names name is

-- each name is that of a column
pub each_place : (names : TypedNames) (list : List Identifier) → unknown names list ≡ [] → Each (λ n. IsKnown (place_in names n.name)) list
each_place names [] none = tt
each_place names (n ∷ ns) none =
    let here : List PlacedFault = where_so (not (has_column names n.name)) (no_such_column_at n) in
    (place_known names n.name (no_fault_so (has_column names n.name) (no_such_column_at n) (left_none here (unknown names ns) none)), each_place names ns (right_none here (unknown names ns) none))

pub places_known : (names : TypedNames) (list : List Identifier) → unknown names list ≡ [] → IsKnown (places_in names list)
places_known names list none = all_known (map (λ n. place_in names n.name) list) (each_map (λ o. IsKnown o) (λ n. place_in names n.name) list (each_place names list none))

-- ---- the columns of a table have their names

found_before : (names more : TypedNames) (name : Text) → has_column names name ≡ true → has_column (names ++ more) name ≡ true
found_before [] more name is = absurd (let no : false ≡ true = is in cc)
found_before (c ∷ cs) more name is =
    (elim (bytes_eq name c.0) as (λ b. is_some (if b then Some c.1 else lookup (bytes_eq name) cs) ≡ true → is_some (if b then Some c.1 else lookup (bytes_eq name) (cs ++ more)) ≡ true) [
      | true ↦ λ e. refl
      | false ↦ λ e. found_before cs more name e
    ]) is

itself : (name : Text) → bytes_eq name name ≡ true
itself name = (bytes_eq-Decides name name).1 refl

found_last : (names : TypedNames) (name : Text) (its : SqlType) → has_column (names ++ (name, its) ∷ []) name ≡ true
found_last [] name its = ap (λ b. is_some (if b then Some its else None)) (itself name)
found_last (c ∷ cs) name its =
    elim (bytes_eq name c.0) as (λ b. is_some (if b then Some c.1 else lookup (bytes_eq name) (cs ++ (name, its) ∷ [])) ≡ true) [ true ↦ refl | false ↦ found_last cs name its ]

kept_with : (names : TypedNames) (other name : Text) (its : SqlType) → has_column names name ≡ true → has_column (with_column names other its) name ≡ true
kept_with names other name its is =
    elim (has_column names other) as (λ b. has_column (if b then names else names ++ (other, its) ∷ []) name ≡ true) [ true ↦ is | false ↦ found_before names ((other, its) ∷ []) name is ]

made_with : (names : TypedNames) (name : Text) (its : SqlType) → has_column (with_column names name its) name ≡ true
made_with names name its =
    (elim (has_column names name) as (λ b. has_column names name ≡ b → has_column (if b then names else names ++ (name, its) ∷ []) name ≡ true) [
      | true ↦ λ e. e
      | false ↦ λ e. found_last names name its
    ]) refl

kept_in : (before : TypedNames) (columns : List Column) (name : Text) → has_column before name ≡ true → has_column (columns_of before columns) name ≡ true
kept_in before [] name is = is
kept_in before (c ∷ cs) name is = kept_in (with_column before c.name c.data_type) cs name (kept_with before c.name name c.data_type is)

pub each_named : (before : TypedNames) (columns : List Column) → Each (λ c. has_column (columns_of before columns) c.name ≡ true) columns
each_named before [] = tt
each_named before (c ∷ cs) = (kept_in (with_column before c.name c.data_type) cs c.name (made_with before c.name c.data_type), each_named (with_column before c.name c.data_type) cs)
