-- A commit makes of the tables what its transaction saw, but for the numbers of the rows that it inserted.
use Rattle.std.proofs.Common.{◌≡◌, inl, inr, ℕ, zero, suc, ◌+◌, ◌^◌, ◌<◌, ◌≤◌, ◌==◌, ◌&&◌, ltb, Bool, true, false, cond, List, [], ◌∷◌, ◌++◌, map, length, Option, Some, None, slice_get, refl, sym, ap, ◌∙◌, subst, arith, eqb-true, eq-eqb, ltb-true, ltb-false}
use Rattle.std.specs.FinMap.{get}
use Rattle.std.proofs.lemmas.Option.{slice_get_within, slice_get-get_or, get_or_from_slice_get}
use Rattle.std.specs.Prelude.{slice_index_or}
use Rattle.hs_base.specs.declared.numbers.TableNo.{TableNo}
use Rattle.hs_values.specs.declared.value.Value.{Value}
use Rattle.hs_plan.specs.declared.change.Change.{Change}
use Rattle.hs_plan.specs.declared.change.Change.TheVariants as change
use Rattle.hs_changes.specs.Changes.{own_row, count_all_inserted, after_changes}
use Rattle.hs_changes.specs.Settings.{Maps, set_row}
use Rattle.hs_changes.proofs.Set.{get-set_row}
use Rattle.hs_turns.specs.Database.{Database, apply, make, committed, view, IsNumbered}
use Rattle.hs_turns.specs.Numbers.{numbers_from, final_row, final_change, IsKnown, NamesKnown}
use Rattle.hs_turns.proofs.NumberedRows.{between, own-final, old-final}

-- ---- the numbers

pub numbers-length : (number : ℕ) (cs : List Change) → length (numbers_from number cs) ≡ count_all_inserted cs
numbers-length number [] = refl
numbers-length number (change.Insert table values ∷ cs) = let rest = numbers-length (number + 1) cs in omega (arith, rest)
numbers-length number (change.Put table row values ∷ cs) = let rest = numbers-length (number + 1) cs in omega (arith, rest)
numbers-length number (change.Delete table row ∷ cs) = let rest = numbers-length (number + 1) cs in omega (arith, rest)
numbers-length number (change.Define definition ∷ cs) = let rest = numbers-length (number + 1) cs in omega (arith, rest)

pub number_at : (number i x : ℕ) (cs : List Change) → slice_get (numbers_from number cs) i ≡ Some x → (number ≤ x) × (x < number + length cs)
number_at number i x cs is = between number x cs (i, slice_get_within (numbers_from number cs) i x is, get_or_from_slice_get (numbers_from number cs) i x x is)

-- an insert behind others has the number of its change
pub insert_number : (table : TableNo) (values : List Value) (rest : List Change) → (front : List Change) (number : ℕ) → slice_get (numbers_from number (front ++ change.Insert table values ∷ rest)) (count_all_inserted front) ≡ Some (number + length front)
insert_number table values rest [] number = let same : number ≡ number + 0 = omega arith in ap (λ (n : ℕ). Some n) same
insert_number table values rest (change.Insert t v ∷ cs) number =
    let place : 1 + count_all_inserted cs ≡ suc (count_all_inserted cs) = omega arith in
    let same : number + 1 + length cs ≡ number + length (change.Insert t v ∷ cs) = omega arith in
    ap (λ (k : ℕ). slice_get (number ∷ numbers_from (number + 1) (cs ++ change.Insert table values ∷ rest)) k) place ∙ insert_number table values rest cs (number + 1) ∙ ap (λ (n : ℕ). Some n) same
insert_number table values rest (change.Put t row v ∷ cs) number =
    let place : 0 + count_all_inserted cs ≡ count_all_inserted cs = omega arith in
    let same : number + 1 + length cs ≡ number + length (change.Put t row v ∷ cs) = omega arith in
    ap (λ (k : ℕ). slice_get (numbers_from (number + 1) (cs ++ change.Insert table values ∷ rest)) k) place ∙ insert_number table values rest cs (number + 1) ∙ ap (λ (n : ℕ). Some n) same
insert_number table values rest (change.Delete t row ∷ cs) number =
    let place : 0 + count_all_inserted cs ≡ count_all_inserted cs = omega arith in
    let same : number + 1 + length cs ≡ number + length (change.Delete t row ∷ cs) = omega arith in
    ap (λ (k : ℕ). slice_get (numbers_from (number + 1) (cs ++ change.Insert table values ∷ rest)) k) place ∙ insert_number table values rest cs (number + 1) ∙ ap (λ (n : ℕ). Some n) same
insert_number table values rest (change.Define definition ∷ cs) number =
    let place : 0 + count_all_inserted cs ≡ count_all_inserted cs = omega arith in
    let same : number + 1 + length cs ≡ number + length (change.Define definition ∷ cs) = omega arith in
    ap (λ (k : ℕ). slice_get (numbers_from (number + 1) (cs ++ change.Insert table values ∷ rest)) k) place ∙ insert_number table values rest cs (number + 1) ∙ ap (λ (n : ℕ). Some n) same

same_some : (x y : ℕ) → Some x ≡ Some y → x ≡ y
same_some x y e = ap (λ (o : Option ℕ). elim o as (λ _. ℕ) [ None ↦ 0 | Some z ↦ z ]) e

pub rising : (number : ℕ) (cs : List Change) (i j x y : ℕ) → i < j → slice_get (numbers_from number cs) i ≡ Some x → slice_get (numbers_from number cs) j ≡ Some y → x < y
rising number [] i j x y lt at there = absurd cc
rising number (change.Insert table values ∷ cs) i zero x y lt at there = absurd (omega (arith, lt))
rising number (change.Insert table values ∷ cs) zero (suc j) x y lt at there =
    let first = same_some number x at in let later = number_at (number + 1) j y cs there in omega (arith, first, later.0)
rising number (change.Insert table values ∷ cs) (suc i) (suc j) x y lt at there = rising (number + 1) cs i j x y (omega (arith, lt)) at there
rising number (change.Put table row values ∷ cs) i j x y lt at there = rising (number + 1) cs i j x y lt at there
rising number (change.Delete table row ∷ cs) i j x y lt at there = rising (number + 1) cs i j x y lt at there
rising number (change.Define definition ∷ cs) i j x y lt at there = rising (number + 1) cs i j x y lt at there

-- the number at a place
pub inserted_at : (ns : List ℕ) (i : ℕ) → i < length ns → (x : ℕ) × (slice_get ns i ≡ Some x)
inserted_at ns i lt = (slice_index_or ns i 0, slice_get-get_or ns i 0 lt)

-- ---- no two rows get one number

module _ (n : ℕ) (ns : List ℕ) (few : n ≤ 2 ^ 48) (above : (i x : ℕ) → slice_get ns i ≡ Some x → n < x)
    (ascend : (i j x y : ℕ) → i < j → slice_get ns i ≡ Some x → slice_get ns j ≡ Some y → x < y) where
  abbrev Known : ℕ → Type 0
  Known row = IsKnown n (length ns) row

  abbrev final : ℕ → ℕ
  final row = final_row ns row

  -- the number of an inserted row
  inserted_final : (row i : ℕ) → i < length ns → row ≡ own_row (i + 1) → (x : ℕ) × (slice_get ns i ≡ Some x) × (final row ≡ x)
  inserted_final row i lt is =
      let at = slice_get-get_or ns i 0 lt in
      (slice_index_or ns i 0, at, ap final is ∙ own-final ns i (slice_index_or ns i 0) at)

  kept_final : (row : ℕ) → row ≤ n → final row ≡ row
  kept_final row old = old-final ns row (omega (arith, old, few))

  inserted_once : (r s i j x y : ℕ) → r ≡ own_row (i + 1) → s ≡ own_row (j + 1) → slice_get ns i ≡ Some x → slice_get ns j ≡ Some y → x ≡ y → r ≡ s
  inserted_once r s i j x y ri sj at there same = by (ltb i j) refl (ltb j i) refl
    where
      by : (a : Bool) → ltb i j ≡ a → (b : Bool) → ltb j i ≡ b → r ≡ s
      by true is b other = absurd (let less = ascend i j x y (ltb-true i j is) at there in omega (arith, less, same))
      by false is true other = absurd (let less = ascend j i y x (ltb-true j i other) there at in omega (arith, less, same))
      by false is false other = let one = ltb-false i j is in let two = ltb-false j i other in omega (arith, ri, sj, one, two)

  once : (r s : ℕ) → Known r → Known s → final r ≡ final s → r ≡ s
  once r s (inl a) (inl b) same = sym (kept_final r a) ∙ same ∙ kept_final s b
  once r s (inl a) (inr k) same =
      let f = inserted_final s k.0 k.1 k.2 in let more = above k.0 f.0 f.1 in let old = kept_final r a in let e = f.2 in absurd (omega (arith, a, more, old, e, same))
  once r s (inr k) (inl b) same =
      let f = inserted_final r k.0 k.1 k.2 in let more = above k.0 f.0 f.1 in let old = kept_final s b in let e = f.2 in absurd (omega (arith, b, more, old, e, same))
  once r s (inr k) (inr l) same =
      let f = inserted_final r k.0 k.1 k.2 in let g = inserted_final s l.0 l.1 l.2 in
      inserted_once r s k.0 l.0 f.0 g.0 k.2 l.2 f.1 g.1 (sym f.2 ∙ same ∙ g.2)

  same_row : (r s : ℕ) → Known r → Known s → (final r == final s) ≡ (r == s)
  same_row r s a b = by (r == s) refl (final r == final s) refl
    where
      by : (x : Bool) → (r == s) ≡ x → (y : Bool) → (final r == final s) ≡ y → y ≡ x
      by true is true at = refl
      by true is false at = absurd (let e = eq-eqb (final r) (final s) (ap final (eqb-true r s is)) in cc)
      by false is true at = absurd (let e = eq-eqb r s (once r s a b (eqb-true (final r) (final s) at)) in cc)
      by false is false at = refl

  -- ---- tables that are alike but for these numbers

  abbrev Alike : Maps → Maps → Type 0
  Alike a b = (table row : ℕ) → Known row → get (a table) (final row) ≡ get (b table) row

  set_both : (a b : Maps) (table row : ℕ) (values : Option (List Value)) → Known row → Alike a b
      → Alike (set_row a (record { table = table; row = final row; values = values })) (set_row b (record { table = table; row = row; values = values }))
  set_both a b table row values known h t r k =
      get-set_row a (record { table = table; row = final row; values = values }) t (final r)
      ∙ ap (λ (same : Bool). cond ((t == table) && same) values (get (a t) (final r))) (same_row r row k known)
      ∙ ap (λ (old : Option (List Value)). cond ((t == table) && (r == row)) values old) (h t r k)
      ∙ sym (get-set_row b (record { table = table; row = row; values = values }) t r)

  widened : (inserted row : ℕ) → inserted ≤ length ns → IsKnown n inserted row → Known row
  widened inserted row most (inl a) = inl a
  widened inserted row most (inr k) = let lt = k.1 in inr (k.0, omega (arith, lt, most), k.2)

  all : (cs : List Change) (db : Database) (b : Maps) (inserted : ℕ) → ((i : ℕ) → slice_get (numbers_from (db.count + 1) cs) i ≡ slice_get ns (inserted + i))
      → inserted + count_all_inserted cs ≤ length ns → NamesKnown n inserted cs → Alike db.rows b → Alike (apply db (map (final_change ns) cs)).rows (after_changes inserted b cs)
  all [] db b inserted at most known h = h
  all (change.Insert table values ∷ cs) db b inserted at most known h =
      let place : inserted ≡ inserted + 0 = omega arith in
      let here : slice_get ns inserted ≡ Some (db.count + 1) = ap (slice_get ns) place ∙ sym (at 0) in
      let number = own-final ns inserted (db.count + 1) here in
      let next : Database = make db (change.Insert table values) in
      all cs next (set_row b (record { table = table.0; row = own_row (inserted + 1); values = Some values })) (inserted + 1)
      (λ i. let later : inserted + suc i ≡ inserted + 1 + i = omega arith in at (suc i) ∙ ap (slice_get ns) later) (omega (arith, most)) known.1
      (subst (λ (r : ℕ). Alike (set_row db.rows (record { table = table.0; row = r; values = Some values })) (set_row b (record { table = table.0; row = own_row (inserted + 1); values = Some values }))) number
      (set_both db.rows b table.0 (own_row (inserted + 1)) (Some values) (inr (inserted, omega (arith, most), refl)) h))
  all (change.Put table row values ∷ cs) db b inserted at most known h =
      let next : Database = make db (change.Put table (record { 0 = final row.0 }) values) in
      all cs next (set_row b (record { table = table.0; row = row.0; values = Some values })) (inserted + 0)
      (λ i. let same : inserted + i ≡ inserted + 0 + i = omega arith in at i ∙ ap (slice_get ns) same) (omega (arith, most)) known.1
      (set_both db.rows b table.0 row.0 (Some values) (widened inserted row.0 (omega (arith, most)) known.0) h)
  all (change.Delete table row ∷ cs) db b inserted at most known h =
      let next : Database = make db (change.Delete table (record { 0 = final row.0 })) in
      all cs next (set_row b (record { table = table.0; row = row.0; values = None })) (inserted + 0)
      (λ i. let same : inserted + i ≡ inserted + 0 + i = omega arith in at i ∙ ap (slice_get ns) same) (omega (arith, most)) known.1
      (set_both db.rows b table.0 row.0 None (widened inserted row.0 (omega (arith, most)) known.0) h)
  all (change.Define definition ∷ cs) db b inserted at most known h = absurd known.0

  -- before the first change no inserted row is there
  none_yet : (maps : Maps) → ((table row : ℕ) → n < row → get (maps table) row ≡ None) → (table row : ℕ) → Known row → get (maps table) (final row) ≡ get (maps table) row
  none_yet maps none table row (inl a) = ap (get (maps table)) (kept_final row a)
  none_yet maps none table row (inr k) =
      let f = inserted_final row k.0 k.1 k.2 in let more = above k.0 f.0 f.1 in let e = f.2 in let own = k.2 in
      none table (final row) (omega (arith, more, e)) ∙ sym (none table row (omega (arith, own, few)))

pub seen_is_committed : (db : Database) (cs : List Change) (table row : ℕ) → IsNumbered db → NamesKnown db.count 0 cs → IsKnown db.count (count_all_inserted cs) row
    → get ((committed db cs).rows table) (final_row (numbers_from (db.count + 1) cs) row) ≡ get ((view db cs).rows table) row
seen_is_committed db cs table row numbered known at =
    let ns = numbers_from (db.count + 1) cs in
    let len = numbers-length (db.count + 1) cs in
    let above : (i x : ℕ) → slice_get ns i ≡ Some x → db.count < x = λ i x is. let b = number_at (db.count + 1) i x cs is in omega (arith, b.0) in
    let ascend : (i j x y : ℕ) → i < j → slice_get ns i ≡ Some x → slice_get ns j ≡ Some y → x < y = rising (db.count + 1) cs in
    all db.count ns numbered.few above ascend cs db db.rows 0 (λ i. let same : i ≡ 0 + i = omega arith in ap (slice_get ns) same) (omega (arith, len)) known
    (none_yet db.count ns numbered.few above ascend db.rows numbered.above) table row
    (subst (λ (k : ℕ). IsKnown db.count k row) (sym len) at)
