-- Rows of a table that are changed one after another, by their numbers.
use Rattle.std.proofs.Common.{◌≡◌, inl, inr, ℕ, suc, ◌==◌, ◌<◌, ◌≤◌, Bool, true, false, cond, ltb, List, [], ◌∷◌, Option, Some, None, T, refl, sym, ap, ◌∙◌, arith, if◌then◌else◌}
use Rattle.std.specs.Cmp.{nat_cmp_total}
use Rattle.std.specs.FinMap.{entries, entries_sorted, find, get, get-entries, is_sorted, nat_cmp-IsAntisymmetric, same_map}
use Rattle.std.specs.Ordering.{nat_cmp}
use Rattle.std.proofs.lemmas.Bool.Decides.{eqb_tells, nat_tests}
use Rattle.hs_base.specs.declared.numbers.RowNo.{RowNo}
use Rattle.hs_values.specs.declared.value.Value.{Value}
use Rattle.hs_index.specs.Table.{Rows}
use Rattle.hs_changes.specs.Settings.{Maps, set_row, with_values}
use Rattle.hs_changes.proofs.Set.{get-with_values}
use Rattle.hs_turns.specs.Definitions.{with_rows}
use Rattle.hs_rows.specs.Numbers.{first_number, from_number, next_in, start}

abbrev Entries : Type 0
Entries = List (ℕ × List Value)

-- ---- the numbers between

-- below the first entry there is none
below_first : (k : ℕ) (e : ℕ × List Value) (es : Entries) → T (is_sorted nat_cmp (e ∷ es)) → k < e.0 → find nat_cmp k (e ∷ es) ≡ None
below_first k e [] h low = grind (arith, nat_tests)
below_first k e (f ∷ fs) h low =
    let next : e.0 < f.0 = grind (arith, nat_tests) in
    let rest = below_first k f fs (later h) (omega (arith, next, low)) in
    grind (arith, nat_tests, rest)
  where
    later : T (is_sorted nat_cmp (e ∷ f ∷ fs)) → T (is_sorted nat_cmp (f ∷ fs))
    later h = grind arith

-- what the first number from n on tells: it isn't below n, and no number between has a row
record First (n r : ℕ) (es : Entries) : Type 0 where
  above : n ≤ r
  between : (k : ℕ) → n ≤ k → k < r → find nat_cmp k es ≡ None

tail_sorted : (e : ℕ × List Value) (es : Entries) → T (is_sorted nat_cmp (e ∷ es)) → T (is_sorted nat_cmp es)
tail_sorted e es h = grind arith

at_front : (e : ℕ × List Value) (r : RowNo) → Some (record { 0 = e.0 }) ≡ Some r → e.0 ≡ r.0
at_front e r h = cc

first_tells : (n : ℕ) (r : RowNo) (es : Entries) → T (is_sorted nat_cmp es) → first_number (from_number n es) ≡ Some r → First n r.0 es
first_tells n r [] h f = cc
first_tells n r (e ∷ es) h f = elim (ltb e.0 n) as (λ b. ltb e.0 n ≡ b → First n r.0 (e ∷ es)) [
  | true ↦ (λ low.
      let later : from_number n (e ∷ es) ≡ from_number n es = ap (λ b. cond b (from_number n es) (e ∷ es)) low in
      let s = first_tells n r es (tail_sorted e es h) (sym (ap first_number later) ∙ f) in
      record {
        above = s.above;
        between = λ k from below. (let rest = s.between k from below in grind (arith, nat_tests, rest));
      })
  | false ↦ (λ high.
      let now : from_number n (e ∷ es) ≡ e ∷ es = ap (λ b. cond b (from_number n es) (e ∷ es)) high in
      let same : e.0 ≡ r.0 = at_front e r (sym (ap first_number now) ∙ f) in
      record {
        above = grind (arith, nat_tests);
        between = λ k from below. below_first k e es h (omega (arith, same, below));
      })
] refl

-- no number from n on has a row
none_tells : (n : ℕ) (es : Entries) → first_number (from_number n es) ≡ None → (k : ℕ) → n ≤ k → find nat_cmp k es ≡ None
none_tells n [] f k from = refl
none_tells n (e ∷ es) f k from = elim (ltb e.0 n) as (λ b. ltb e.0 n ≡ b → find nat_cmp k (e ∷ es) ≡ None) [
  | true ↦ (λ low.
      let later : from_number n (e ∷ es) ≡ from_number n es = ap (λ b. cond b (from_number n es) (e ∷ es)) low in
      let rest = none_tells n es (sym (ap first_number later) ∙ f) k from in
      grind (arith, nat_tests, rest))
  | false ↦ (λ high.
      let now : from_number n (e ∷ es) ≡ e ∷ es = ap (λ b. cond b (from_number n es) (e ∷ es)) high in
      let row : RowNo = record { 0 = e.0 } in
      let clash : Some row ≡ None = sym (ap first_number now) ∙ f in
      absurd (cc))
] refl

-- the row that comes next, and those between that aren't there
pub record Next (rows : Rows) (n r : ℕ) : Type 0 where
  pub above : n ≤ r
  pub between : (k : ℕ) → n ≤ k → k < r → get rows k ≡ None

pub next_tells : (rows : Rows) (last : Option RowNo) (r : RowNo) → Some r ≡ next_in rows last → Next rows (start last) r.0
unfolding next_in
next_tells rows last r next =
    let first = first_tells (start last) r (entries rows) (entries_sorted rows) (sym next) in
    record { above = first.above; between = λ k from below. get-entries rows k ∙ first.between k from below }

pub last_tells : (rows : Rows) (last : Option RowNo) → None ≡ next_in rows last → (k : ℕ) → start last ≤ k → get rows k ≡ None
unfolding next_in
last_tells rows last none k from = get-entries rows k ∙ none_tells (start last) (entries rows) (sym none) k from

-- ---- rows of which those below a number are changed

-- below the number these are as the first, from it on as the second
abbrev pub AreMixed : Rows → Rows → ℕ → Rows → Type 0
AreMixed target base n held = (k : ℕ) → get held k ≡ cond (ltb k n) (get target k) (get base k)

pub none_mixed : (target base : Rows) → AreMixed target base (start None) base
none_mixed target base k = sym (ap (λ b. cond b (get target k) (get base k)) (not_below k))
  where
    not_below : (k : ℕ) → ltb k 0 ≡ false
    not_below k = grind (arith, nat_tests)

-- where rows from a number on are gone, neither has one
abbrev pub Agree : Rows → Rows → Rows → ℕ → Type 0
Agree source target base n = (k : ℕ) → n ≤ k → get source k ≡ None → get target k ≡ get base k

pub one_above : (source target base held : Rows) (n r : ℕ) → Next source n r → Agree source target base n → AreMixed target base n held → AreMixed target base (suc r) (with_values held r (get target r))
one_above source target base held n r next agree mixed k =
    get-with_values held r (get target r) k
    ∙ elim (eqb_tells k r) [
      | inl both ↦
          let low : ltb k (suc r) ≡ true = grind (arith, nat_tests, both.1) in
          ap (λ b. cond b (get target r) (get held k)) both.0 ∙ ap (get target) (sym both.1) ∙ sym (ap (λ b. cond b (get target k) (get base k)) low)
      | inr other ↦
          ap (λ b. cond b (get target r) (get held k)) other.0 ∙ mixed k ∙ apart other.0 (ltb k n) refl
    ]
  where
    late : (k == r) ≡ false → ltb k n ≡ false → (b : Bool) → ltb k (suc r) ≡ b → get base k ≡ cond b (get target k) (get base k)
    late other high false behind = refl
    late other high true early =
        let from : n ≤ k = grind (arith, nat_tests, high) in
        let before : k < r = grind (arith, nat_tests, early, other) in
        sym (agree k from (next.between k from before))

    apart : (k == r) ≡ false → (b : Bool) → ltb k n ≡ b → cond b (get target k) (get base k) ≡ cond (ltb k (suc r)) (get target k) (get base k)
    apart other true low =
        let early : ltb k (suc r) ≡ true = (let a = next.above in grind (arith, nat_tests, a, low)) in
        sym (ap (λ b. cond b (get target k) (get base k)) early)
    apart other false high = late other high (ltb k (suc r)) refl

pub all_mixed : (source target base held : Rows) (n : ℕ) → ((k : ℕ) → n ≤ k → get source k ≡ None) → Agree source target base n → AreMixed target base n held → held ≡ target
all_mixed source target base held n none agree mixed = same_map nat_cmp_total nat_cmp-IsAntisymmetric held target (λ k. mixed k ∙ by k (ltb k n) refl)
  where
    by : (k : ℕ) (b : Bool) → ltb k n ≡ b → cond b (get target k) (get base k) ≡ get target k
    by k true low = refl
    by k false high = let from : n ≤ k = grind (arith, nat_tests, high) in sym (agree k from (none k from))

-- ---- one table among all

pub set_in : (table row : ℕ) (values : Option (List Value)) (held : Rows) (maps : Maps) → set_row (with_rows table held maps) (record { table = table; row = row; values = values }) ≡ with_rows table (with_values held row values) maps
set_in table row values held maps = λ i t. by t (t == table) i
  where
    by : (t : ℕ) (b : Bool) → (if b then with_values (if b then held else maps t) row values else (if b then held else maps t)) ≡ (if b then with_values held row values else maps t)
    by t true = refl
    by t false = refl

pub same_rows : (table : ℕ) (maps : Maps) → with_rows table (maps table) maps ≡ maps
same_rows table maps = λ i t. by t i
  where
    at : (t : ℕ) (b : Bool) → (t == table) ≡ b → (if b then maps table else maps t) ≡ maps t
    at t true same = elim (eqb_tells t table) [
      | inl both ↦ ap maps (sym both.1)
      | inr other ↦ absurd (let no : true ≡ false = sym same ∙ other.0 in cc)
    ]
    at t false same = refl

    by : (t : ℕ) → (if t == table then maps table else maps t) ≡ maps t
    by t = at t (t == table) refl
