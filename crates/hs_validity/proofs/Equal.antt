-- Equal keys, and rows that have them.
use Rattle.std.proofs.Common.{◌≡◌, ℕ, true, false, not, List, map, Option, None, Some, refl, sym, ap, ◌∙◌}
use Rattle.std.proofs.lemmas.Bool.{and_from, and_parts, not-true}
use Rattle.std.specs.Ordering.{is_eq}
use Rattle.hs_values.specs.declared.value.Value.{Value}
use Rattle.hs_values.specs.Key.{key_of}
use Rattle.hs_values.specs.Order.{row_order_of}
use Rattle.hs_values.proofs.Keys.{equal_row_keys}
use Rattle.hs_index.specs.Keys.{key_in, has_null, same_key}
use Rattle.hs_index.specs.Table.{has_key}
use Rattle.hs_index.proofs.Indexed.{has_null-same}
use Rattle.hs_index.proofs.RowSets.{equal_from}

-- ---- keys

-- keys are equal where they have one form
pub form_of : (a b : List Value) → same_key a b ≡ true → map key_of a ≡ map key_of b
form_of a b h = (equal_row_keys a b).0 (equal_from (row_order_of a b) h)

pub of_form : (a b : List Value) → map key_of a ≡ map key_of b → same_key a b ≡ true
of_form a b h = ap is_eq ((equal_row_keys a b).1 h)

pub same_itself : (a : List Value) → same_key a a ≡ true
same_itself a = of_form a a refl

pub same_turned : (a b : List Value) → same_key a b ≡ true → same_key b a ≡ true
same_turned a b h = of_form b a (sym (form_of a b h))

pub same_through : (a b c : List Value) → same_key a b ≡ true → same_key b c ≡ true → same_key a c ≡ true
same_through a b c h k = of_form a c (form_of a b h ∙ form_of b c k)

-- ---- rows

pub has_key-parts : (columns : List ℕ) (key row : List Value) → has_key columns key (Some row) ≡ true → (same_key key (key_in columns row) ≡ true) × (has_null key ≡ false)
has_key-parts columns key row h =
    let parts = and_parts (same_key key (key_in columns row)) (not (has_null key)) h in
    (parts.0, not-true (has_null key) parts.1)

pub has_key-from : (columns : List ℕ) (key row : List Value) → same_key key (key_in columns row) ≡ true → has_null key ≡ false → has_key columns key (Some row) ≡ true
has_key-from columns key row same full = and_from (same_key key (key_in columns row)) (not (has_null key)) same (ap not full)

-- a key without NULL that is a row's own
pub has_own : (columns : List ℕ) (row : List Value) → has_null (key_in columns row) ≡ false → has_key columns (key_in columns row) (Some row) ≡ true
has_own columns row full = has_key-from columns (key_in columns row) row (same_itself (key_in columns row)) full

-- the key that a row has is not NULL, and its own
pub own_full : (columns : List ℕ) (key row : List Value) → has_key columns key (Some row) ≡ true → has_null (key_in columns row) ≡ false
own_full columns key row h = let parts = has_key-parts columns key row h in sym (has_null-same key (key_in columns row) parts.0) ∙ parts.1

-- a row that has a key has each that is equal to it
pub has_equal : (columns : List ℕ) (a b : List Value) → (row : Option (List Value)) → same_key a b ≡ true → has_key columns a row ≡ true → has_key columns b row ≡ true
has_equal columns a b None same h = absurd (let no : false ≡ true = h in cc)
has_equal columns a b (Some row) same h =
    let parts = has_key-parts columns a row h in
    has_key-from columns b row (same_through b a (key_in columns row) (same_turned a b same) parts.0) (sym (has_null-same a b same) ∙ parts.1)
