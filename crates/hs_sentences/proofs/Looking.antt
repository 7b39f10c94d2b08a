-- Rows that pass a test: what the test of a whole table says, and of some rows.
use Rattle.std.proofs.Common.{◌≡◌, ℕ, Bool, true, false, ◌&&◌, ◌||◌, cond, nat_eq, List, [], ◌∷◌, Option, Some, None, refl, sym, ap, ◌∙◌, T}
use Rattle.std.proofs.lemmas.Bool.{eqb-true, or_right}
use Rattle.std.proofs.lemmas.Cmp.{ranked}
use Rattle.std.specs.Cmp.{nat_cmp_total, tied_itself}
use Rattle.std.specs.FinMap.{entries, get, get-entries, entries_sorted, find, is_sorted}
use Rattle.std.specs.FinMap.Entries.{below_all}
use Rattle.std.specs.List.{list_any}
use Rattle.std.specs.Option.{unwrap_or}
use Rattle.std.specs.Ordering.{nat_cmp, eq_by_cmp, is_eq, is_lt}
use Rattle.std.specs.declared.cmp.Ordering.{Ordering}
use Rattle.std.specs.declared.cmp.Ordering.TheVariants.{Less, Equal, Greater}
use Rattle.hs_values.specs.declared.value.Value.{Value}
use Rattle.hs_index.specs.Table.{Rows}
use Rattle.hs_index.proofs.RowSets.{equal_from}
use Rattle.hs_sentences.specs.Asking.{Test, any_row, any_of, passes_at, is_one_of}

abbrev Entries : Type 0
Entries = List (ℕ × List Value)

-- a row that passes
pub record Found (test : Test) (rows : Rows) : Type 0 where
  pub number : ℕ
  pub row : List Value
  pub there : get rows number ≡ Some row
  pub passes : test number row ≡ true

record FoundIn (test : Test) (es : Entries) : Type 0 where
  number : ℕ
  row : List Value
  there : find nat_cmp number es ≡ Some row
  passes : test number row ≡ true

first_part : (a b : Bool) → T (a && b) → T a
first_part true b h = tt
first_part false b h = h

second_part : (a b : Bool) → T (a && b) → T b
second_part true b h = h
second_part false b h = absurd h

less_from : (o : Ordering) → T (is_lt o) → o ≡ Less
less_from Less h = refl
less_from Equal h = absurd h
less_from Greater h = absurd h

numbers_equal : (a b : ℕ) → eq_by_cmp nat_cmp a b ≡ true → a ≡ b
numbers_equal a b h = ranked a b Equal (sym (equal_from _ h))

numbers_below : (a b : ℕ) → T (is_lt (nat_cmp a b)) → a ≡ b → ⊥
numbers_below a b h e = let less : nat_cmp a a ≡ Less = ap (nat_cmp a) e ∙ less_from _ h in absurd (let both : Equal ≡ Less = sym (tied_itself nat_cmp_total a) ∙ less in cc)

-- a number that an entry behind the first has isn't the first's
not_first : (x q : ℕ) (row : List Value) (es : Entries) → T (below_all nat_cmp x es) → find nat_cmp q es ≡ Some row → eq_by_cmp nat_cmp q x ≡ false
not_first x q row [] below there = absurd (let none : None ≡ Some row = there in cc)
not_first x q row (e ∷ es) below there = by (λ is. not_first x q row es (second_part _ _ below) is) (eq_by_cmp nat_cmp q e.0) refl there
  where
    apart : q ≡ e.0 → (b : Bool) → eq_by_cmp nat_cmp q x ≡ b → b ≡ false
    apart same true h = absurd (numbers_below x e.0 (first_part _ _ below) (sym (numbers_equal q x h) ∙ same))
    apart same false h = refl

    by : (find nat_cmp q es ≡ Some row → eq_by_cmp nat_cmp q x ≡ false) → (b : Bool) → eq_by_cmp nat_cmp q e.0 ≡ b → cond b (Some e.1) (find nat_cmp q es) ≡ Some row → eq_by_cmp nat_cmp q x ≡ false
    by more true h is = apart (numbers_equal q e.0 h) (eq_by_cmp nat_cmp q x) refl
    by more false h is = more is

found_in : (test : Test) (es : Entries) → T (is_sorted nat_cmp es) → list_any (λ e. test e.0 e.1) es ≡ true → FoundIn test es
found_in test [] sorted h = absurd (let no : false ≡ true = h in cc)
found_in test (e ∷ es) sorted h = by (λ is. found_in test es (second_part _ _ sorted) is) (test e.0 e.1) refl h
  where
    by : (list_any (λ e. test e.0 e.1) es ≡ true → FoundIn test es) → (b : Bool) → test e.0 e.1 ≡ b → (b || list_any (λ e. test e.0 e.1) es) ≡ true → FoundIn test (e ∷ es)
    by more true passes is = record { number = e.0; row = e.1; there = ap (λ o. cond (is_eq o) (Some e.1) (find nat_cmp e.0 es)) (tied_itself nat_cmp_total e.0); passes = passes }
    by more false fails is =
        let f : FoundIn test es = more is in
        record { number = f.number; row = f.row; there = ap (λ b. cond b (Some e.1) (find nat_cmp f.number es)) (not_first e.0 f.number f.row es (first_part _ _ sorted) f.there) ∙ f.there; passes = f.passes }

pub any_row-found : (test : Test) (rows : Rows) → any_row test rows ≡ true → Found test rows
any_row-found test rows h =
    let f : FoundIn test (entries rows) = found_in test (entries rows) (entries_sorted rows) h in
    record { number = f.number; row = f.row; there = get-entries rows f.number ∙ f.there; passes = f.passes }

same_some : (x y : List Value) → Some x ≡ Some y → x ≡ y
same_some x y e = ap (λ o. unwrap_or o x) e

any_in : (test : Test) (es : Entries) (number : ℕ) (row : List Value) → find nat_cmp number es ≡ Some row → test number row ≡ true → list_any (λ e. test e.0 e.1) es ≡ true
any_in test [] number row there passes = absurd (let none : None ≡ Some row = there in cc)
any_in test (e ∷ es) number row there passes = by (λ is. any_in test es number row is passes) (eq_by_cmp nat_cmp number e.0) refl there
  where
    by : (find nat_cmp number es ≡ Some row → list_any (λ e. test e.0 e.1) es ≡ true) → (b : Bool) → eq_by_cmp nat_cmp number e.0 ≡ b → cond b (Some e.1) (find nat_cmp number es) ≡ Some row → list_any (λ e. test e.0 e.1) (e ∷ es) ≡ true
    by more true h is =
        let here : test e.0 e.1 ≡ true = ap (λ n. test n e.1) (sym (numbers_equal number e.0 h)) ∙ ap (test number) (same_some e.1 row is) ∙ passes in
        ap (λ b. b || list_any (λ e. test e.0 e.1) es) here
    by more false h is = or_right (test e.0 e.1) (list_any (λ e. test e.0 e.1) es) (more is)

pub any_row-from : (test : Test) (rows : Rows) (number : ℕ) (row : List Value) → get rows number ≡ Some row → test number row ≡ true → any_row test rows ≡ true
any_row-from test rows number row there passes = any_in test (entries rows) number row (sym (get-entries rows number) ∙ there) passes

-- ---- of some rows

pub any_of-found : (numbers : List ℕ) (test : Test) (rows : Rows) → any_of numbers test rows ≡ true → Found test rows
any_of-found [] test rows h = absurd (let no : false ≡ true = h in cc)
any_of-found (n ∷ ns) test rows h = by (λ is. any_of-found ns test rows is) (get rows n) refl h
  where
    here : (any_of ns test rows ≡ true → Found test rows) → (row : List Value) → get rows n ≡ Some row → (b : Bool) → test n row ≡ b → (b || any_of ns test rows) ≡ true → Found test rows
    here more row there true passes is = record { number = n; row = row; there = there; passes = passes }
    here more row there false fails is = more is

    by : (any_of ns test rows ≡ true → Found test rows) → (o : Option (List Value)) → get rows n ≡ o → (passes_at test n o || any_of ns test rows) ≡ true → Found test rows
    by more None none is = more is
    by more (Some row) there is = here more row there (test n row) refl is

pub any_of-from : (numbers : List ℕ) (test : Test) (rows : Rows) (number : ℕ) (row : List Value) → is_one_of numbers number ≡ true → get rows number ≡ Some row → test number row ≡ true → any_of numbers test rows ≡ true
any_of-from [] test rows number row one there passes = absurd (let no : false ≡ true = one in cc)
any_of-from (n ∷ ns) test rows number row one there passes = by (λ is. any_of-from ns test rows number row is there passes) (nat_eq number n) refl one
  where
    by : (is_one_of ns number ≡ true → any_of ns test rows ≡ true) → (b : Bool) → nat_eq number n ≡ b → (b || is_one_of ns number) ≡ true → any_of (n ∷ ns) test rows ≡ true
    by more true h is =
        let same : number ≡ n = eqb-true number n h in
        let here : passes_at test n (get rows n) ≡ true = ap (λ m. passes_at test m (get rows m)) (sym same) ∙ ap (passes_at test number) there ∙ passes in
        ap (λ b. b || any_of ns test rows) here
    by more false h is = or_right (passes_at test n (get rows n)) (any_of ns test rows) (more is)

-- tests that imply one another agree
pub same_tests : (a b : Bool) → (a ≡ true → b ≡ true) → (b ≡ true → a ≡ true) → a ≡ b
same_tests true b to from = sym (to refl)
same_tests false true to from = from refl
same_tests false false to from = refl
