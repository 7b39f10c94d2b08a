-- The columns that a definition adds have new names.
use Rattle.std.proofs.Common.{◌≡◌, Bool, true, false, cond, not, ◌||◌, is_some, List, [], ◌∷◌, ◌++◌, map, Some, None, refl, sym, ap, ap₂, ◌∙◌, if◌then◌else◌}
use Rattle.std.proofs.Math.Bool.{or_assoc}
use Rattle.std.proofs.lemmas.Bool.{and_from, and_parts, not-true, not_from_false, or_parts}
use Rattle.std.specs.List.{list_all, list_any}
use Rattle.std.specs.Map.{lookup}
use Rattle.std.specs.Str.{bytes_eq}
use Rattle.hs_ast.specs.declared.definition.ColumnDefinition.{ColumnDefinition}
use Rattle.hs_elements.specs.Columns.{TypedNames, columns_of, has_column, with_column}
use Rattle.hs_elements.specs.Faults.{Text, exists_at, where_so}
use Rattle.hs_elements.proofs.Typed.{flipped, same_text}
use Rattle.hs_language.specs.Proper as proper
use Rattle.hs_language.specs.Sound.{are_distinct}
use Rattle.hs_language.proofs.Lists.{all_weaker}
use Rattle.hs_outlines.specs.Columns.{column_faults, column_of, columns_faults, default_faults, type_of, with_definition}
use Rattle.hs_plan.specs.declared.definition.Column.{Column}
use Rattle.hs_values.specs.declared.sql_type.SqlType.{SqlType}
use Rattle.hs_reading.proofs.Faults.{none_both, not_so}

-- ---- names with one more

or_none : (b : Bool) → b ≡ (b || false)
or_none true = refl
or_none false = refl

or_all : (b : Bool) → b ≡ true → b ≡ (b || true)
or_all true e = refl
or_all false e = e

found_more : (name n : Text) (its : SqlType) (names : TypedNames) → is_some (lookup (bytes_eq name) (names ++ (n, its) ∷ [])) ≡ (is_some (lookup (bytes_eq name) names) || bytes_eq name n)
found_more name n its [] = by (bytes_eq name n)
  where
    by : (b : Bool) → is_some (cond b (Some its) None) ≡ b
    by true = refl
    by false = refl
found_more name n its (e ∷ es) = by (bytes_eq name e.0) (found_more name n its es)
  where
    by : (b : Bool) → is_some (lookup (bytes_eq name) (es ++ (n, its) ∷ [])) ≡ (is_some (lookup (bytes_eq name) es) || bytes_eq name n)
        → is_some (cond b (Some e.1) (lookup (bytes_eq name) (es ++ (n, its) ∷ []))) ≡ (is_some (cond b (Some e.1) (lookup (bytes_eq name) es)) || bytes_eq name n)
    by true rest = refl
    by false rest = rest

has_more : (names : TypedNames) (n : Text) (its : SqlType) (name : Text) → has_column (with_column names n its) name ≡ (has_column names name || bytes_eq name n)
has_more names n its name = by (has_column names n) refl
  where
    same : has_column names n ≡ true → (b : Bool) → bytes_eq name n ≡ b → has_column names name ≡ (has_column names name || b)
    same h true e = or_all (has_column names name) (ap (has_column names) (same_text name n e) ∙ h)
    same h false e = or_none (has_column names name)

    by : (b : Bool) → has_column names n ≡ b → has_column (if b then names else (names ++ (n, its) ∷ [])) name ≡ (has_column names name || bytes_eq name n)
    by true h = same h (bytes_eq name n) refl
    by false h = found_more name n its names

-- the names of columns are theirs
has_of : (cs : List Column) (before : TypedNames) (name : Text) → has_column (columns_of before cs) name ≡ (has_column before name || proper.has_column cs name)
has_of [] before name = or_none (has_column before name)
has_of (c ∷ cs) before name =
    has_of cs (with_column before c.name c.data_type) name ∙ ap (λ b. b || proper.has_column cs name) (has_more before c.name c.data_type name)
    ∙ or_assoc (has_column before name) (bytes_eq name c.name) (proper.has_column cs name)

-- ---- columns of a text

none_like : (n : Text) (xs : List Column) → list_all (λ (x : Column). not (bytes_eq n x.name)) xs ≡ true → list_any (bytes_eq n) (map (λ (x : Column). x.name) xs) ≡ false
none_like n [] h = refl
none_like n (x ∷ xs) h = let parts = and_parts (not (bytes_eq n x.name)) (list_all (λ (y : Column). not (bytes_eq n y.name)) xs) h in ap₂ (λ a b. a || b) (not-true (bytes_eq n x.name) parts.0) (none_like n xs parts.1)

-- no two of them have one name, and none has one of these
pub record AreNewTo (names : TypedNames) (columns : List Column) : Type 0 where
  pub apart : list_all (λ c. not (has_column names c.name)) columns ≡ true
  pub distinct : are_distinct bytes_eq (map (λ c. c.name) columns) ≡ true

new_to : (names : TypedNames) (cs : List ColumnDefinition) → columns_faults names cs ≡ [] → AreNewTo names (map column_of cs)
new_to names [] h = record { apart = refl; distinct = refl }
new_to names (c ∷ cs) h =
    let n : Text = c.name.name in
    let xs : List Column = map column_of cs in
    let parts = none_both (column_faults names c) (columns_faults (with_definition names c) cs) h in
    let here = none_both (where_so (has_column names n) (exists_at c.name)) (default_faults (type_of c) c.default) parts.0 in
    let rest : AreNewTo (with_definition names c) xs = new_to (with_definition names c) cs parts.1 in
    let both = λ (x : Column) (e : not (has_column (with_definition names c) x.name) ≡ true).
    or_parts (has_column names x.name) (bytes_eq x.name n) (sym (has_more names n (type_of c) x.name) ∙ not-true (has_column (with_definition names c) x.name) e) in
    let apart = all_weaker (λ (x : Column). not (has_column (with_definition names c) x.name)) (λ (x : Column). not (has_column names x.name))
    (λ x e. not_from_false (has_column names x.name) (both x e).0) xs rest.apart in
    let unlike = all_weaker (λ (x : Column). not (has_column (with_definition names c) x.name)) (λ (x : Column). not (bytes_eq n x.name))
    (λ x e. not_from_false (bytes_eq n x.name) (flipped n x.name ∙ (both x e).1)) xs rest.apart in
    record {
      apart = and_from (not (has_column names n)) (list_all (λ (x : Column). not (has_column names x.name)) xs) (not_from_false (has_column names n) (not_so (has_column names n) (exists_at c.name) here.0)) apart;
      distinct = and_from (not (list_any (bytes_eq n) (map (λ (x : Column). x.name) xs))) (are_distinct bytes_eq (map (λ (x : Column). x.name) xs)) (not_from_false (list_any (bytes_eq n) (map (λ (x : Column). x.name) xs)) (none_like n xs unlike)) rest.distinct;
    }

-- those of a text without faults are new to the table
pub new_columns : (before : List Column) (cs : List ColumnDefinition) → columns_faults (columns_of [] before) cs ≡ [] → proper.are_new_columns before (map column_of cs) ≡ true
new_columns before cs h =
    let new : AreNewTo (columns_of [] before) (map column_of cs) = new_to (columns_of [] before) cs h in
    and_from (are_distinct bytes_eq (map (λ (c : Column). c.name) (map column_of cs))) (list_all (λ (c : Column). not (proper.has_column before c.name)) (map column_of cs)) new.distinct
    (all_weaker (λ (c : Column). not (has_column (columns_of [] before) c.name)) (λ (c : Column). not (proper.has_column before c.name))
    (λ c e. ap not (sym (has_of before [] c.name)) ∙ e) (map column_of cs) new.apart)
