-- The rows of a table in the order of their numbers.
use Rattle.std.proofs.Common.{◌≡◌, ℕ, suc, ◌≤◌, Bool, true, false, cond, ltb, [], ◌∷◌, Option, Some, None, refl, sym, ap, ◌∙◌, arith}
use Rattle.std.proofs.lemmas.Bool.Decides.{nat_tests}
use Rattle.std.specs.BTreeMap.Range.{entries_between}
use Rattle.std.specs.FinMap.{entries}
use Rattle.std.specs.List.Sorted.{IsStrictlySortedBy}
use Rattle.std.specs.Map.{keys_of}
use Rattle.std.specs.Ordering.{nat_cmp}
use Rattle.std.specs.declared.ops.Bound.TheVariants.{Excluded, Unbounded}
use Rattle.hs_base.specs.declared.numbers.RowNo.{RowNo}
use Rattle.hs_index.specs.Table.{Rows}
use Rattle.hs_rows.specs.Numbers.{IsBehind, first_number, from_number, next_in, start}
use Rattle.hs_keyed.specs.Kept.{rows_of}
use Rattle.hs_keyed.proofs.Stored.{Entries, entries-rows_of}

pub next-of : (es : Entries) → IsStrictlySortedBy nat_cmp (keys_of es) → (after : Option RowNo) → first_number (from_number (start after) es) ≡ next_in (rows_of es) after
unfolding next_in
next-of es sorted after = ap (λ (l : Entries). first_number (from_number (start after) l)) (sym (entries-rows_of es sorted))

-- from 0 on it is all of them
pub first-of : (es : Entries) → first_number es ≡ first_number (from_number 0 es)
first-of [] = refl
first-of (e ∷ es) = grind (arith, nat_tests)

-- those behind a number, as a range of a map has them
pub first-behind : (n : ℕ) (es : Entries) → first_number (entries_between nat_cmp (Excluded n) Unbounded es) ≡ first_number (from_number (suc n) es)
first-behind n [] = refl
first-behind n (e ∷ es) = by (ltb n e.0) refl (first-behind n es)
  where
    by : (b : Bool) → ltb n e.0 ≡ b → first_number (entries_between nat_cmp (Excluded n) Unbounded es) ≡ first_number (from_number (suc n) es)
        → first_number (entries_between nat_cmp (Excluded n) Unbounded (e ∷ es)) ≡ first_number (from_number (suc n) (e ∷ es))
    by true h later = grind (arith, nat_tests, h)
    by false h later = grind (arith, nat_tests, h, later)

-- the first number from one on is at it or behind it
first_from : (n : ℕ) (r : RowNo) (es : Entries) → first_number (from_number n es) ≡ Some r → n ≤ r.0
first_from n r [] h = cc
first_from n r (e ∷ es) h = by (ltb e.0 n) refl (first_from n r es)
  where
    by : (b : Bool) → ltb e.0 n ≡ b → (first_number (from_number n es) ≡ Some r → n ≤ r.0) → n ≤ r.0
    by true low later = later (sym (ap (λ b. first_number (cond b (from_number n es) (e ∷ es))) low) ∙ h)
    by false high later =
        let same : e.0 ≡ r.0 = (let it = sym (ap (λ b. first_number (cond b (from_number n es) (e ∷ es))) high) ∙ h in cc) in
        grind (arith, nat_tests)

behind_if : (after : Option RowNo) (es : Entries) (found : Option RowNo) → first_number (from_number (start after) es) ≡ found → IsBehind after found
behind_if after es None h = tt
behind_if after es (Some r) h = first_from (start after) r es h

pub next_is_behind : (rows : Rows) (after : Option RowNo) → IsBehind after (next_in rows after)
unfolding next_in
next_is_behind rows after = behind_if after (entries rows) _ refl
