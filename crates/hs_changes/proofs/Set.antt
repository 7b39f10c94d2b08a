-- Rows that are set, one after another.
use Rattle.std.proofs.Common.{◌≡◌, ℕ, Bool, true, false, ◌&&◌, ◌==◌, cond, List, [], ◌∷◌, ◌++◌, Option, Some, None, if◌then◌else◌, refl, sym, ap, ◌∙◌, arith}
use Rattle.std.proofs.lemmas.Bool.{ltb-true, ne_eqb, or_parts}
use Rattle.std.proofs.lemmas.List.Sums.{fold-append}
use Rattle.std.specs.Cmp.{nat_cmp_total}
use Rattle.std.specs.FinMap.{get, get-insert, get-remove, same_map, nat_cmp-IsAntisymmetric}
use Rattle.std.specs.Ordering.{nat_cmp, eq_by_cmp, is_eq}
use Rattle.std.specs.Prelude.{nat_lt}
use Rattle.std.specs.declared.cmp.Ordering.TheVariants.{Less, Equal, Greater}
use Rattle.hs_values.specs.declared.value.Value.{Value}
use Rattle.hs_index.specs.Table.{Rows}
use Rattle.hs_changes.specs.Settings.{Maps, Setting, with_values, set_row, set_rows, names, is_set, last_values}

pub ties_are_equal : (x y : ℕ) → eq_by_cmp nat_cmp x y ≡ (x == y)
ties_are_equal x y = by (nat_lt x y) refl
  where
    by : (b : Bool) → nat_lt x y ≡ b → is_eq (cond b Less (cond (x == y) Equal Greater)) ≡ (x == y)
    by true h = let lt = ltb-true x y h in sym (ne_eqb x y (λ e. omega arith))
    by false h = level (x == y)
      where
        level : (e : Bool) → is_eq (cond e Equal Greater) ≡ e
        level true = refl
        level false = refl

-- ---- one row

pub get-with_values : (rows : Rows) (k : ℕ) (values : Option (List Value)) (q : ℕ) → get (with_values rows k values) q ≡ (if q == k then values else get rows q)
get-with_values rows k None q = get-remove nat_cmp_total rows k q ∙ ap (λ b. cond b None (get rows q)) (ties_are_equal q k)
get-with_values rows k (Some values) q = get-insert nat_cmp_total rows k values q ∙ ap (λ b. cond b (Some values) (get rows q)) (ties_are_equal q k)

pub get-set_row : (maps : Maps) (s : Setting) (table row : ℕ) → get (set_row maps s table) row ≡ (if names table row s then s.values else get (maps table) row)
get-set_row maps s table row = by (table == s.table)
  where
    by : (b : Bool) → get (if b then with_values (maps table) s.row s.values else maps table) row ≡ (if b && (row == s.row) then s.values else get (maps table) row)
    by true = get-with_values (maps table) s.row s.values row
    by false = refl

-- ---- many

pub get-set_rows : (maps : Maps) (settings : List Setting) (table row : ℕ) → get (set_rows maps settings table) row ≡ last_values table row (get (maps table) row) settings
get-set_rows maps [] table row = refl
get-set_rows maps (s ∷ ss) table row = get-set_rows (set_row maps s) ss table row ∙ ap (λ before. last_values table row before ss) (get-set_row maps s table row)

-- a row that none sets stays
pub last_values-unset : (table row : ℕ) (before : Option (List Value)) (settings : List Setting) → is_set table row settings ≡ false → last_values table row before settings ≡ before
last_values-unset table row before [] h = refl
last_values-unset table row before (s ∷ ss) h =
    let parts = or_parts (names table row s) (is_set table row ss) h in
    ap (λ b. last_values table row (if b then s.values else before) ss) parts.0 ∙ last_values-unset table row before ss parts.1

-- the last that sets a row counts
pub last_values-last : (table row : ℕ) (before : Option (List Value)) (front : List Setting) (s : Setting) (rest : List Setting) → names table row s ≡ true → is_set table row rest ≡ false → last_values table row before (front ++ s ∷ rest) ≡ s.values
last_values-last table row before front s rest sets unset =
    fold-append (λ now setting. if names table row setting then setting.values else now) before front (s ∷ rest)
    ∙ ap (λ b. last_values table row (if b then s.values else last_values table row before front) rest) sets
    ∙ last_values-unset table row s.values rest unset

-- the order of two that set different rows doesn't count
swapped : (table row : ℕ) (before : Option (List Value)) (s t : Setting) → (names table row s ≡ true → names table row t ≡ true → ⊥) → last_values table row before (s ∷ t ∷ []) ≡ last_values table row before (t ∷ s ∷ [])
swapped table row before s t apart = by (names table row s) refl (names table row t) refl
  where
    by : (a : Bool) → names table row s ≡ a → (b : Bool) → names table row t ≡ b → (if◌then◌else◌ {A = Option (List Value)} b t.values (if a then s.values else before)) ≡ (if a then s.values else (if b then t.values else before))
    by true ha true hb = absurd (apart ha hb)
    by true ha false hb = refl
    by false ha b hb = refl

-- where each row ends up alike, so do the tables
pub same_tables : (maps : Maps) (xs ys : List Setting) → ((table row : ℕ) → last_values table row (get (maps table) row) xs ≡ last_values table row (get (maps table) row) ys) → (table : ℕ) → set_rows maps xs table ≡ set_rows maps ys table
same_tables maps xs ys alike table = same_map nat_cmp_total nat_cmp-IsAntisymmetric _ _ (λ row. get-set_rows maps xs table row ∙ alike table row ∙ sym (get-set_rows maps ys table row))

pub swapped_tables : (maps : Maps) (front : List Setting) (s t : Setting) (rest : List Setting) → ((table row : ℕ) → names table row s ≡ true → names table row t ≡ true → ⊥) → (table : ℕ) → set_rows maps (front ++ s ∷ t ∷ rest) table ≡ set_rows maps (front ++ t ∷ s ∷ rest) table
swapped_tables maps front s t rest apart = same_tables maps (front ++ s ∷ t ∷ rest) (front ++ t ∷ s ∷ rest) (λ table row.
    let step = λ (now : Option (List Value)) (setting : Setting). if names table row setting then setting.values else now in
    let before = get (maps table) row in
    fold-append step before front (s ∷ t ∷ rest)
    ∙ ap (λ now. last_values table row now rest) (swapped table row (last_values table row before front) s t (apart table row))
    ∙ sym (fold-append step before front (t ∷ s ∷ rest)))
