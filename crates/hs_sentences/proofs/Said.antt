-- What tests of rows say, in the words of constraints.
use Rattle.std.proofs.Common.{◌≡◌, ◌↔◌, ℕ, Bool, true, false, not, ◌&&◌, ◌==◌, List, Some, refl, sym, ap, ◌∙◌, inl, inr}
use Rattle.std.proofs.lemmas.Bool.{and_parts, and_from, eq-eqb, ne_eqb, not-true, false_from_ne_true, cases_eq}
use Rattle.std.specs.FinMap.{get}
use Rattle.hs_values.specs.declared.value.Value.{Value}
use Rattle.hs_index.specs.Keys.{key_in, has_null, same_key}
use Rattle.hs_index.specs.Table.{Rows, has_key}
use Rattle.hs_sentences.specs.Asking.{Test, any_row, is_one_of}
use Rattle.hs_sentences.specs.Sentences.{carries, is_double, is_orphan}
use Rattle.hs_sentences.proofs.Looking.{Found, any_row-found, any_row-from}

both_ways : {P : Type 0} (b : Bool) → b ≡ true → b ≡ false → P
both_ways b t f = absurd (let no : true ≡ false = sym t ∙ f in cc)

pub any_row_is : (test : Test) (rows : Rows) → (any_row test rows ≡ true) ↔ ((number : ℕ) × (row : List Value) × (get rows number ≡ Some row) × (test number row ≡ true))
any_row_is test rows = (
  (λ h. let f : Found test rows = any_row-found test rows h in (f.number, f.row, f.there, f.passes)),
  (λ f. any_row-from test rows f.0 f.1 f.2 f.3),
)

abbrev HasOnce : List ℕ → Rows → Type 0
HasOnce columns rows = (a b : ℕ) (row its : List Value) → get rows a ≡ Some row → get rows b ≡ Some its → has_null (key_in columns row) ≡ false → same_key (key_in columns row) (key_in columns its) ≡ true → a ≡ b

-- no two rows have equal keys without NULL
pub unique_is : (columns : List ℕ) (rows : Rows) → (any_row (is_double columns rows) rows ≡ false) ↔ HasOnce columns rows
unique_is columns rows = (to, from)
  where
    shares : ℕ → List Value → Test
    shares number row other its = not (other == number) && has_key columns (key_in columns row) (Some its)

    to : any_row (is_double columns rows) rows ≡ false → HasOnce columns rows
    to none a b row its at_a at_b full same = elim (cases_eq a b) [
      | inl e ↦ e
      | inr apart ↦
          let key : has_key columns (key_in columns row) (Some its) ≡ true = and_from (same_key (key_in columns row) (key_in columns its)) (not (has_null (key_in columns row))) same (ap not full) in
          let other : not (b == a) ≡ true = ap not (ne_eqb b a (λ e. apart (sym e))) in
          both_ways _ (any_row-from (is_double columns rows) rows a row at_a (any_row-from (shares a row) rows b its at_b (and_from (not (b == a)) _ other key))) none
    ]

    from : HasOnce columns rows → any_row (is_double columns rows) rows ≡ false
    from once = false_from_ne_true _ (λ h.
        let f : Found (is_double columns rows) rows = any_row-found (is_double columns rows) rows h in
        let g : Found (shares f.number f.row) rows = any_row-found (shares f.number f.row) rows f.passes in
        let parts = and_parts (not (g.number == f.number)) (has_key columns (key_in columns f.row) (Some g.row)) g.passes in
        let key = and_parts (same_key (key_in columns f.row) (key_in columns g.row)) (not (has_null (key_in columns f.row))) parts.1 in
        let same : f.number ≡ g.number = once f.number g.number f.row g.row f.there g.there (not-true _ key.1) key.0 in
        both_ways _ (eq-eqb g.number f.number (sym same)) (not-true _ parts.0))

abbrev HasParents : List ℕ → List ℕ → Rows → Rows → Type 0
HasParents columns parent_columns children parents = (number : ℕ) (row : List Value) → get children number ≡ Some row → has_null (key_in columns row) ≡ false → (parent : ℕ) × (its : List Value) × (get parents parent ≡ Some its) × (same_key (key_in columns row) (key_in parent_columns its) ≡ true)

-- each foreign key without NULL names a row of the parent
pub foreign_is : (columns parent_columns : List ℕ) (children parents : Rows) → (any_row (is_orphan columns parent_columns parents) children ≡ false) ↔ HasParents columns parent_columns children parents
foreign_is columns parent_columns children parents = (to, from)
  where
    to : any_row (is_orphan columns parent_columns parents) children ≡ false → HasParents columns parent_columns children parents
    to none number row there full = by (any_row (carries parent_columns (key_in columns row)) parents) refl
      where
        by : (b : Bool) → any_row (carries parent_columns (key_in columns row)) parents ≡ b → (parent : ℕ) × (its : List Value) × (get parents parent ≡ Some its) × (same_key (key_in columns row) (key_in parent_columns its) ≡ true)
        by true h =
            let f : Found (carries parent_columns (key_in columns row)) parents = any_row-found (carries parent_columns (key_in columns row)) parents h in
            (f.number, f.row, f.there, (and_parts (same_key (key_in columns row) (key_in parent_columns f.row)) (not (has_null (key_in columns row))) f.passes).0)
        by false h = both_ways _ (any_row-from (is_orphan columns parent_columns parents) children number row there (and_from (not (has_null (key_in columns row))) _ (ap not full) (ap not h))) none

    from : HasParents columns parent_columns children parents → any_row (is_orphan columns parent_columns parents) children ≡ false
    from has = false_from_ne_true _ (λ h.
        let f : Found (is_orphan columns parent_columns parents) children = any_row-found (is_orphan columns parent_columns parents) children h in
        let parts = and_parts (not (has_null (key_in columns f.row))) (not (any_row (carries parent_columns (key_in columns f.row)) parents)) f.passes in
        let p = has f.number f.row f.there (not-true _ parts.0) in
        both_ways _ (any_row-from (carries parent_columns (key_in columns f.row)) parents p.0 p.1 p.2 (and_from (same_key (key_in columns f.row) (key_in parent_columns p.1)) _ p.3 parts.0)) (not-true _ parts.1))

-- where no touched row had or has a key, the rows with it are as they were
pub keys_stay : (columns touched : List ℕ) (before after : Rows) (key : List Value) → ((row : ℕ) → is_one_of touched row ≡ false → get after row ≡ get before row)
    → ((row : ℕ) → is_one_of touched row ≡ true → (has_key columns key (get before row) ≡ false) × (has_key columns key (get after row) ≡ false)) → (row : ℕ) → has_key columns key (get after row) ≡ has_key columns key (get before row)
keys_stay columns touched before after key kept clear row = by (is_one_of touched row) refl
  where
    by : (b : Bool) → is_one_of touched row ≡ b → has_key columns key (get after row) ≡ has_key columns key (get before row)
    by true one = let c = clear row one in c.1 ∙ sym c.0
    by false still = ap (has_key columns key) (kept row still)
