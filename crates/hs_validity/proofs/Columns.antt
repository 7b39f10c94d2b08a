-- Keys over the same columns in another order, and the key of a parent that a row names.
use Rattle.std.proofs.Common.{◌≡◌, inl, inr, ℕ, suc, ◌+◌, ◌<◌, Bool, true, false, not, ◌||◌, cond, List, [], ◌∷◌, map, length, Option, Some, None, refl, sym, ap, ap₂, ◌∙◌, arith, slice_get, nat_eq}
use Rattle.std.specs.Prelude.{position}
use Rattle.std.specs.List.{list_all, position_or_len}
use Rattle.std.specs.Option.{option_map_or}
use Rattle.std.proofs.lemmas.Bool.{and_parts, eqb-true, lt-ltb, or_cases, or_from, or_parts}
use Rattle.hs_plan.specs.declared.definition.ForeignKey.{ForeignKey}
use Rattle.hs_values.specs.declared.value.Value.{Value}
use Rattle.hs_values.specs.declared.value.Value.TheVariants as v
use Rattle.hs_values.specs.Key.{key_of}
use Rattle.hs_index.specs.Keys.{has_null, is_null, key_in, same_key, value_at}
use Rattle.hs_index.specs.Table.{has_key}
use Rattle.hs_sentences.specs.Asking.{is_one_of}
use Rattle.hs_footprint.specs.Touched.{has_all, named_value, paired}
use Rattle.hs_validity.proofs.Equal.{form_of, has_key-from, has_key-parts, has_own, of_form, own_full, same_through, same_turned}

-- the form of a value in a column
abbrev seen : List Value → ℕ → Value
seen row column = key_of (value_at row column)

forms_in : (row : List Value) (columns : List ℕ) → map key_of (key_in columns row) ≡ map (seen row) columns
forms_in row [] = refl
forms_in row (c ∷ cs) = ap (λ more. seen row c ∷ more) (forms_in row cs)

alike_to : (row its : List Value) (columns others : List ℕ) → same_key (key_in columns row) (key_in others its) ≡ true → map (seen row) columns ≡ map (seen its) others
alike_to row its columns others h = sym (forms_in row columns) ∙ form_of (key_in columns row) (key_in others its) h ∙ forms_in its others

alike_from : (row its : List Value) (columns others : List ℕ) → map (seen row) columns ≡ map (seen its) others → same_key (key_in columns row) (key_in others its) ≡ true
alike_from row its columns others h = of_form (key_in columns row) (key_in others its) (forms_in row columns ∙ h ∙ sym (forms_in its others))

abbrev front_of : Value → List Value → Value
front_of x [] = x
front_of x (y ∷ ys) = y

abbrev rest_of : List Value → List Value
rest_of [] = []
rest_of (x ∷ xs) = xs

-- ---- other columns

one_alike : (row its : List Value) (column : ℕ) (columns : List ℕ) → map (seen row) columns ≡ map (seen its) columns → is_one_of columns column ≡ true → seen row column ≡ seen its column
one_alike row its column [] h is = absurd (let no : false ≡ true = is in cc)
one_alike row its column (c ∷ cs) h is = elim (or_cases (nat_eq column c) (is_one_of cs column) is) [
  | inl here ↦ let same = eqb-true column c here in ap (seen row) same ∙ ap (front_of v.Null) h ∙ ap (seen its) (sym same)
  | inr later ↦ one_alike row its column cs (ap rest_of h) later
]

all_alike : (row its : List Value) (columns others : List ℕ) → map (seen row) columns ≡ map (seen its) columns → list_all (is_one_of columns) others ≡ true → map (seen row) others ≡ map (seen its) others
all_alike row its columns [] h all = refl
all_alike row its columns (c ∷ cs) h all =
    let parts = and_parts (is_one_of columns c) (list_all (is_one_of columns) cs) all in
    ap₂ (λ (x : Value) (xs : List Value). x ∷ xs) (one_alike row its c columns h parts.0) (all_alike row its columns cs h parts.1)

-- rows with one key over some columns have one over others that are among them
pub same_among : (row its : List Value) (columns others : List ℕ) → has_all columns others ≡ true → same_key (key_in columns row) (key_in columns its) ≡ true → same_key (key_in others row) (key_in others its) ≡ true
same_among row its columns others all h = alike_from row its others others (all_alike row its columns others (alike_to row its columns columns h) all)

one_full : (row : List Value) (column : ℕ) (columns : List ℕ) → has_null (key_in columns row) ≡ false → is_one_of columns column ≡ true → is_null (value_at row column) ≡ false
one_full row column [] h is = absurd (let no : false ≡ true = is in cc)
one_full row column (c ∷ cs) h is =
    let parts = or_parts (is_null (value_at row c)) (has_null (key_in cs row)) h in
    elim (or_cases (nat_eq column c) (is_one_of cs column) is) [
      | inl here ↦ ap (λ n. is_null (value_at row n)) (eqb-true column c here) ∙ parts.0
      | inr later ↦ one_full row column cs parts.1 later
    ]

full_among : (row : List Value) (columns others : List ℕ) → has_null (key_in columns row) ≡ false → list_all (is_one_of columns) others ≡ true → has_null (key_in others row) ≡ false
full_among row columns [] h all = refl
full_among row columns (c ∷ cs) h all =
    let parts = and_parts (is_one_of columns c) (list_all (is_one_of columns) cs) all in
    or_from (is_null (value_at row c)) (has_null (key_in cs row)) (one_full row c columns h parts.0) (full_among row columns cs h parts.1)

-- ---- a key of the parent, over the columns that are referenced and in the order of the key's own columns

-- a row has its own key there
pub whole_held : (columns others : List ℕ) (key row : List Value) → has_all columns others ≡ true → has_key columns key (Some row) ≡ true → has_key others (key_in others row) (Some row) ≡ true
whole_held columns others key row all h = has_own others row (full_among row columns others (own_full columns key row h) all)

-- one that has this too has the key
pub whole_tells : (columns others : List ℕ) (key row : List Value) → has_all others columns ≡ true → has_key columns key (Some row) ≡ true → (now : Option (List Value)) → has_key others (key_in others row) now ≡ true → has_key columns key now ≡ true
whole_tells columns others key row all h None k = absurd (let no : false ≡ true = k in cc)
whole_tells columns others key row all h (Some new) k =
    let parts = has_key-parts columns key row h in
    has_key-from columns key new (same_through key (key_in columns row) (key_in columns new) parts.0 (same_among row new others columns all (has_key-parts others (key_in others row) new k).0)) parts.1

-- ---- the key that a row names

record Paired (columns : List ℕ) (row its : List Value) (column at size : ℕ) : Type 0 where
  own : ℕ
  inside : at < size
  there : slice_get columns at ≡ Some own
  same : seen row own ≡ seen its column

pair_of : (row its : List Value) (column : ℕ) (columns parent_columns : List ℕ) → map (seen row) columns ≡ map (seen its) parent_columns → is_one_of parent_columns column ≡ true
    → Paired columns row its column (position_or_len (nat_eq column) parent_columns) (length parent_columns)
pair_of row its column columns [] h is = absurd (let no : false ≡ true = is in cc)
pair_of row its column [] (p ∷ ps) h is = absurd (let no : [] ≡ map (seen its) (p ∷ ps) = h in cc)
pair_of row its column (c ∷ cs) (p ∷ ps) h is = by (λ one. pair_of row its column cs ps (ap rest_of h) one) (nat_eq column p) refl is
  where
    by : (is_one_of ps column ≡ true → Paired cs row its column (position_or_len (nat_eq column) ps) (length ps)) → (b : Bool) → nat_eq column p ≡ b → (b || is_one_of ps column) ≡ true
        → Paired (c ∷ cs) row its column (cond (not b) (1 + position_or_len (nat_eq column) ps) 0) (length (p ∷ ps))
    by more true here one = record { own = c; inside = omega arith; there = refl; same = ap (front_of v.Null) h ∙ ap (seen its) (sym (eqb-true column p here)) }
    by more false other one =
        let rest : Paired cs row its column (position_or_len (nat_eq column) ps) (length ps) = more one in
        let within = rest.inside in
        let next : 1 + position_or_len (nat_eq column) ps ≡ suc (position_or_len (nat_eq column) ps) = omega arith in
        record { own = rest.own; inside = omega (arith, within); there = ap (slice_get (c ∷ cs)) next ∙ rest.there; same = rest.same }

named_seen : (key : ForeignKey) (row its : List Value) (column : ℕ) → map (seen row) key.columns ≡ map (seen its) key.parent_columns → is_one_of key.parent_columns column ≡ true → key_of (named_value key row column) ≡ seen its column
unfolding named_value
named_seen key row its column h is =
    let at = position_or_len (nat_eq column) key.parent_columns in
    let p : Paired key.columns row its column at (length key.parent_columns) = pair_of row its column key.columns key.parent_columns h is in
    let found : position (nat_eq column) key.parent_columns ≡ Some at = ap (λ b. cond b (Some at) None) (lt-ltb at (length key.parent_columns) p.inside) in
    let own : paired key column ≡ Some p.own = ap (λ o. option_map_or (slice_get key.columns) o None) found ∙ p.there in
    ap (λ o. key_of (option_map_or (value_at row) o v.Null)) own ∙ p.same

named_forms : (key : ForeignKey) (row its : List Value) (columns : List ℕ) → map (seen row) key.columns ≡ map (seen its) key.parent_columns → list_all (is_one_of key.parent_columns) columns ≡ true
    → map key_of (map (named_value key row) columns) ≡ map (seen its) columns
named_forms key row its [] h all = refl
named_forms key row its (c ∷ cs) h all =
    let parts = and_parts (is_one_of key.parent_columns c) (list_all (is_one_of key.parent_columns) cs) all in
    ap₂ (λ (x : Value) (xs : List Value). x ∷ xs) (named_seen key row its c h parts.0) (named_forms key row its cs h parts.1)

-- it is the own key of each row of the parent that has what the row has
pub named_is : (key : ForeignKey) (k row its : List Value) (columns : List ℕ) → has_all key.parent_columns columns ≡ true → has_key key.columns k (Some row) ≡ true → has_key key.parent_columns k (Some its) ≡ true
    → same_key (map (named_value key row) columns) (key_in columns its) ≡ true
named_is key k row its columns all h p =
    let one = has_key-parts key.columns k row h in
    let other = has_key-parts key.parent_columns k its p in
    let same = same_through (key_in key.columns row) k (key_in key.parent_columns its) (same_turned k (key_in key.columns row) one.0) other.0 in
    of_form (map (named_value key row) columns) (key_in columns its) (named_forms key row its columns (alike_to row its key.columns key.parent_columns same) all ∙ sym (forms_in its columns))
