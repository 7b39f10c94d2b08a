-- Copies, one table after another.
use Rattle.std.proofs.Common.{◌≡◌, ℕ, suc, ◌==◌, ◌<◌, Bool, true, false, cond, ◌||◌, T, List, [], ◌∷◌, ◌++◌, map, inl, inr, refl, sym, ap, subst, ◌∙◌, arith}
use Rattle.std.proofs.lemmas.Bool.Decides.{eqb_tells, nat_tests}
use Rattle.std.proofs.lemmas.List.Folds.{list_any-append}
use Rattle.std.proofs.lemmas.List.Sums.{fold-append}
use Rattle.std.specs.FinMap.{entries-from_sorted, from_sorted, is_sorted, values}
use Rattle.std.specs.List.{list_any}
use Rattle.std.specs.Ordering.{nat_cmp}
use Rattle.hs_base.specs.declared.numbers.TableNo.{TableNo}
use Rattle.hs_values.specs.declared.value.Value.{Value}
use Rattle.hs_answer.specs.From.{rows_in}
use Rattle.hs_changes.specs.Settings.{Maps}
use Rattle.hs_expression.specs.Surroundings.{Rows}
use Rattle.hs_copied.specs.declared.table_copies.TableCopies.{TableCopies}
use Rattle.hs_copied.specs.declared.table_copies.TableCopy.{TableCopy}
use Rattle.hs_copied.specs.Copies.{has_number, is_held, maps_of, numbered, over, rows_held, with_rows}

-- ---- the maps

rise_behind : (m n : ℕ) (row : List Value) (rows : Rows) → m < n → T (is_sorted nat_cmp ((m, row) ∷ numbered n rows))
rise_behind m n row [] h = tt
rise_behind m n row (other ∷ rows) h =
    let first = rise_behind m (suc n) row rows (omega arith) in
    let rest = rise_behind n (suc n) other rows (omega arith) in
    grind (arith, nat_tests, first, rest)

numbers_rise : (n : ℕ) (rows : Rows) → T (is_sorted nat_cmp (numbered n rows))
numbers_rise n [] = tt
numbers_rise n (row ∷ rows) = rise_behind n (suc n) row rows (omega arith)

rows_numbered : (n : ℕ) (rows : Rows) → map (λ (e : ℕ × List Value). e.1) (numbered n rows) ≡ rows
rows_numbered n [] = refl
rows_numbered n (row ∷ rows) = ap (λ l. row ∷ l) (rows_numbered (suc n) rows)

values_numbered : (rows : Rows) → values (from_sorted {R = nat_cmp} (numbered 0 rows)) ≡ rows
values_numbered rows = ap (map (λ (e : ℕ × List Value). e.1)) (entries-from_sorted nat_cmp (numbered 0 rows) (numbers_rise 0 rows)) ∙ rows_numbered 0 rows

pub rows_stand : (copies : TableCopies) (table : TableNo) → rows_in (maps_of copies) table ≡ rows_held copies.copies.items table.0
unfolding maps_of
rows_stand copies table = values_numbered (rows_held copies.copies.items table.0)

-- ---- one table more

-- what is held is what the tables have
abbrev pub Right : Maps → List TableCopy → Type 0
Right tables copies = (table : ℕ) → is_held copies table ≡ true → rows_held copies table ≡ values (tables table)

-- each of these tables is held
abbrev pub AllHeld : List TableNo → List TableCopy → Type 0
AllHeld named copies = (table : ℕ) → list_any (has_number table) named ≡ true → is_held copies table ≡ true

rows_more : (copies : List TableCopy) (copy : TableCopy) (table : ℕ) → rows_held (copies ++ copy ∷ []) table ≡ cond (copy.table.0 == table) copy.rows (rows_held copies table)
rows_more copies copy table = fold-append _ [] copies (copy ∷ [])

held_more : (copies : List TableCopy) (copy : TableCopy) (table : ℕ) → is_held (copies ++ copy ∷ []) table ≡ (is_held copies table || ((copy.table.0 == table) || false))
held_more copies copy table = list_any-append _ copies (copy ∷ [])

named_more : (named : List TableNo) (one : TableNo) (table : ℕ) → list_any (has_number table) (named ++ one ∷ []) ≡ (list_any (has_number table) named || ((one.0 == table) || false))
named_more named one table = list_any-append (has_number table) named (one ∷ [])

pub none_right : (tables : Maps) → Right tables []
none_right tables table h = absurd (cc)

pub right_more : (tables : Maps) (copies : List TableCopy) (copy : TableCopy) → Right tables copies → copy.rows ≡ values (tables copy.table.0) → Right tables (copies ++ copy ∷ [])
right_more tables copies copy right is table held = elim (eqb_tells copy.table.0 table) [
  | inl both ↦ rows_more copies copy table ∙ ap (λ b. cond b copy.rows (rows_held copies table)) both.0 ∙ is ∙ ap (λ n. values (tables n)) both.1
  | inr other ↦
      let before : is_held copies table ≡ true = grind (arith, held_more copies copy table, other.0, held) in
      rows_more copies copy table ∙ ap (λ b. cond b copy.rows (rows_held copies table)) other.0 ∙ right table before
]

-- ---- tables of which some have the rows of copies

pub right_first : (first : List TableCopy) (tables : Maps) → Right (over first tables) first
right_first first tables table held =
    let rows = rows_held first table in
    sym (ap (λ b. values (cond b (from_sorted (numbered 0 rows)) (tables table))) held ∙ values_numbered rows)

pub right_beside : (first copies : List TableCopy) (tables : Maps) (copy : TableCopy) → ((table : ℕ) → is_held first table ≡ true → is_held copies table ≡ true) → is_held copies copy.table.0 ≡ false → Right (over first tables) copies → copy.rows ≡ values (tables copy.table.0) → Right (over first tables) (copies ++ copy ∷ [])
right_beside first copies tables copy firsts other right is =
    right_more (over first tables) copies copy right (is ∙ by (is_held first copy.table.0) refl)
  where
    by : (b : Bool) → is_held first copy.table.0 ≡ b → values (tables copy.table.0) ≡ values (cond b (from_sorted (numbered 0 (rows_held first copy.table.0))) (tables copy.table.0))
    by true held = absurd (let there = firsts copy.table.0 held in cc)
    by false held = refl

pub held_still : (first copies : List TableCopy) (copy : TableCopy) → ((table : ℕ) → is_held first table ≡ true → is_held copies table ≡ true) → (table : ℕ) → is_held first table ≡ true → is_held (copies ++ copy ∷ []) table ≡ true
held_still first copies copy firsts table held = let m = held_more copies copy table in let h = firsts table held in grind (arith, m, h)

-- the table that has other rows has these, and the others have their own
pub rows_with : (tables : Maps) (table : TableNo) (rows : Rows) → rows_in (with_rows tables table rows) table ≡ rows
unfolding with_rows
rows_with tables table rows =
    let itself : (table.0 == table.0) ≡ true = grind (arith, nat_tests) in
    ap (λ b. values (cond (b || false) (from_sorted {R = nat_cmp} (numbered 0 (cond b rows []))) (tables table.0))) itself ∙ values_numbered rows

pub others_with : (tables : Maps) (table : TableNo) (rows : Rows) (other : TableNo) → (other.0 == table.0) ≡ false → with_rows tables table rows other.0 ≡ tables other.0
unfolding with_rows
others_with tables table rows other apart =
    let turned : (table.0 == other.0) ≡ false = grind (arith, nat_tests, apart) in
    ap (λ b. cond (b || false) (from_sorted {R = nat_cmp} (numbered 0 (cond b rows []))) (tables other.0)) turned

-- ---- tables that are held

pub none_held : (copies : List TableCopy) → AllHeld [] copies
none_held copies table h = absurd (cc)

-- a table that is held already
pub held_already : (named : List TableNo) (one : TableNo) (copies : List TableCopy) → AllHeld named copies → is_held copies one.0 ≡ true → AllHeld (named ++ one ∷ []) copies
held_already named one copies all held table is = elim (eqb_tells one.0 table) [
  | inl both ↦ subst (λ n. is_held copies n ≡ true) both.1 held
  | inr other ↦ all table (let n = named_more named one table in grind (arith, n, other.0, is))
]

pub held_now : (named : List TableNo) (copies : List TableCopy) (copy : TableCopy) → AllHeld named copies → AllHeld (named ++ copy.table ∷ []) (copies ++ copy ∷ [])
held_now named copies copy all table is = elim (eqb_tells copy.table.0 table) [
  | inl both ↦ let m = held_more copies copy table in grind (arith, m, both.0)
  | inr other ↦
      let before : list_any (has_number table) named ≡ true = (let n = named_more named copy.table table in grind (arith, n, other.0, is)) in
      let m = held_more copies copy table in
      let h = all table before in
      grind (arith, m, h)
]
