-- The rows of a draft after a change, and those that it had before.
use Rattle.std.proofs.Common.{◌≡◌, ℕ, ◌<◌, suc, Bool, true, false, ◌==◌, ◌&&◌, ◌||◌, cond, if◌then◌else◌, List, [], ◌∷◌, ◌++◌, length, get_or, Option, Some, None, is_some, refl, sym, ap, ◌∙◌, arith, subst}
use Rattle.std.proofs.lemmas.Bool.{eqb-true}
use Rattle.std.specs.BTreeMap.{BTreeMap}
use Rattle.std.specs.Cmp.{nat_cmp_total, eq_by_cmp_equiv, tied_itself}
use Rattle.std.specs.FinMap.{empty, get, get-empty, insert, remove, same_map, nat_cmp-IsAntisymmetric}
use Rattle.std.specs.List.{All, list_any}
use Rattle.std.specs.List.Sorted.{IsStrictlySortedBy}
use Rattle.std.specs.Map.{lookup, keys_of}
use Rattle.std.specs.Option.{option_map_or, unwrap_or}
use Rattle.std.specs.Ordering.{nat_cmp, is_eq}
use Rattle.hs_values.specs.declared.value.Value.{Value}
use Rattle.hs_index.specs.Table.{Rows}
use Rattle.hs_changes.specs.Settings.{with_values}
use Rattle.hs_changes.proofs.Set.{ties_are_equal, get-with_values}
use Rattle.hs_keyed.specs.Kept.{moved}
use Rattle.hs_keyed.proofs.Stored.{not_among, remove-none}
use Rattle.hs_sentences.specs.Asking.{Test, passes_at, any_of, is_one_of}
use Rattle.hs_draft.specs.Drafted.{Olds, is, rows_at, olds_at, old_in, old_of, with_olds}

-- ---- numbers

pub is-turned : (a b : ℕ) → is a b ≡ (b == a)
is-turned a b = (eq_by_cmp_equiv nat_cmp_total).symm a b ∙ ties_are_equal b a

-- ---- tables of which one has other rows

abbrev pub Tables : Type 0
Tables = List (ℕ × Rows)

module _ (old new : Tables) (table : ℕ) (here : Rows) (sets : (q : ℕ) → lookup (is q) new ≡ cond (is table q) (Some here) (lookup (is q) old)) where
  pub rows_placed : (f : Rows → Rows) → here ≡ f (rows_at old table) → (t : ℕ) → rows_at new t ≡ (if t == table then f (rows_at old t) else rows_at old t)
  rows_placed f made t =
      ap (λ o. unwrap_or o empty) (sets t)
      ∙ ap (λ b. unwrap_or (cond b (Some here) (lookup (is t) old)) empty) (is-turned table t)
      ∙ by (t == table) refl
    where
      by : (b : Bool) → (t == table) ≡ b → unwrap_or (cond b (Some here) (lookup (is t) old)) empty ≡ (if b then f (rows_at old t) else rows_at old t)
      by true same = made ∙ ap (λ n. f (rows_at old n)) (sym (eqb-true t table same))
      by false other = refl

  pub rows_same : here ≡ rows_at old table → (t : ℕ) → rows_at new t ≡ rows_at old t
  rows_same made t = rows_placed (λ rows. rows) made t ∙ by (t == table)
    where
      by : (b : Bool) → (if b then rows_at old t else rows_at old t) ≡ rows_at old t
      by true = refl
      by false = refl

-- a table without rows loses none
pub rows_none : (tables : Tables) (table row : ℕ) → lookup (is table) tables ≡ None → (t : ℕ) → rows_at tables t ≡ (if t == table then with_values (rows_at tables t) row None else rows_at tables t)
rows_none tables table row none t = by (t == table) refl
  where
    by : (b : Bool) → (t == table) ≡ b → rows_at tables t ≡ (if b then with_values (rows_at tables t) row None else rows_at tables t)
    by true same =
        let nothing : rows_at tables t ≡ empty = ap (rows_at tables) (eqb-true t table same) ∙ ap (λ o. unwrap_or o empty) none in
        nothing ∙ sym (ap (λ rows. with_values rows row None) nothing ∙ remove-none empty row (get-empty nat_cmp row))
    by false other = refl

-- nor does one of them get another number
pub rows_unmoved : (tables : Tables) (table from to : ℕ) → lookup (is table) tables ≡ None → (t : ℕ) → rows_at tables t ≡ (if t == table then moved (rows_at tables t) from to else rows_at tables t)
rows_unmoved tables table from to none t = by (t == table) refl
  where
    by : (b : Bool) → (t == table) ≡ b → rows_at tables t ≡ (if b then moved (rows_at tables t) from to else rows_at tables t)
    by true same =
        let nothing : rows_at tables t ≡ empty = ap (rows_at tables) (eqb-true t table same) ∙ ap (λ o. unwrap_or o empty) none in
        nothing ∙ sym (ap (λ rows. moved rows from to) nothing ∙ ap (λ o. option_map_or (λ values. insert (remove empty from) to values) o empty) (get-empty nat_cmp from))
    by false other = refl

-- ---- tables that are copied one after another

-- a table behind others of which none has its number
behind_others : (front : Tables) (n : ℕ) (here : Rows) → lookup (is n) front ≡ None → (q : ℕ) → lookup (is q) (front ++ (n, here) ∷ []) ≡ cond (is n q) (Some here) (lookup (is q) front)
behind_others front n here none q = by (is n q) refl
  where
    own : (es : Tables) → lookup (is n) es ≡ None → lookup (is n) (es ++ (n, here) ∷ []) ≡ Some here
    own [] none = ap (λ b. cond b (Some here) None) (ap is_eq (tied_itself nat_cmp_total n))
    own (e ∷ es) none = at (is n e.0) (own es) none
      where
        at : (b : Bool) → (lookup (is n) es ≡ None → lookup (is n) (es ++ (n, here) ∷ []) ≡ Some here) → cond b (Some e.1) (lookup (is n) es) ≡ None → cond b (Some e.1) (lookup (is n) (es ++ (n, here) ∷ [])) ≡ Some here
        at true more none = absurd (cc)
        at false more none = more none

    other : is n q ≡ false → (es : Tables) → lookup (is q) (es ++ (n, here) ∷ []) ≡ lookup (is q) es
    other apart [] = ap (λ b. cond b (Some here) None) ((eq_by_cmp_equiv nat_cmp_total).symm q n ∙ apart)
    other apart (e ∷ es) = ap (cond (is q e.0) (Some e.1)) (other apart es)

    by : (b : Bool) → is n q ≡ b → lookup (is q) (front ++ (n, here) ∷ []) ≡ cond b (Some here) (lookup (is q) front)
    by true same = ap (λ k. lookup (is k) (front ++ (n, here) ∷ [])) (eqb-true q n (sym (is-turned n q) ∙ same)) ∙ own front none
    by false apart = other apart front

pub one_table_more : (made new front rest : Tables) (n : ℕ) (here : Rows) → IsStrictlySortedBy nat_cmp (keys_of (front ++ (n, here) ∷ rest))
    → ((q : ℕ) → lookup (is q) new ≡ cond (is n q) (Some here) (lookup (is q) made)) → ((q : ℕ) → lookup (is q) made ≡ lookup (is q) front)
    → (q : ℕ) → lookup (is q) new ≡ lookup (is q) (front ++ (n, here) ∷ [])
one_table_more made new front rest n here sorted sets so_far q =
    sets q ∙ ap (cond (is n q) (Some here)) (so_far q) ∙ sym (behind_others front n here (not_among n here rest front sorted) q)

-- ---- what rows were

pub get-with_olds : (olds : Olds) (rows : Rows) (n : ℕ) → get (with_olds olds rows) n ≡ unwrap_or (old_in olds n) (get rows n)
get-with_olds [] rows n = refl
get-with_olds (e ∷ es) rows n =
    get-with_values (with_olds es rows) e.0 e.1 n
    ∙ ap (λ b. if b then e.1 else get (with_olds es rows) n) (sym (ties_are_equal n e.0))
    ∙ by (is n e.0) (get-with_olds es rows n)
  where
    by : (b : Bool) → get (with_olds es rows) n ≡ unwrap_or (old_in es n) (get rows n) → (if b then e.1 else get (with_olds es rows) n) ≡ unwrap_or (cond b (Some e.1) (old_in es n)) (get rows n)
    by true more = refl
    by false more = more

-- the rows before are the same where each row was so
pub before_same : (olds more : Olds) (rows changed : Rows) → ((n : ℕ) → unwrap_or (old_in more n) (get changed n) ≡ unwrap_or (old_in olds n) (get rows n)) → with_olds more changed ≡ with_olds olds rows
before_same olds more rows changed h = same_map nat_cmp_total nat_cmp-IsAntisymmetric _ _ (λ n. get-with_olds more changed n ∙ h n ∙ sym (get-with_olds olds rows n))

pub touched_are_kept : (olds : Olds) (n : ℕ) → is_one_of (keys_of olds) n ≡ is_some (old_in olds n)
touched_are_kept [] n = refl
touched_are_kept (e ∷ es) n =
    ap (λ b. b || is_one_of (keys_of es) n) (sym (ties_are_equal n e.0)) ∙ by (is n e.0) (touched_are_kept es n)
  where
    by : (b : Bool) → is_one_of (keys_of es) n ≡ is_some (old_in es n) → (b || is_one_of (keys_of es) n) ≡ is_some (cond b (Some e.1) (old_in es n))
    by true more = refl
    by false more = more

-- ---- one row that is kept, and set

module _ (olds more : ℕ → ℕ → Option (Option (List Value))) (rows changed : ℕ → Rows) (table row : ℕ) (values : Option (List Value))
    (kept : (t n : ℕ) → more t n ≡ (if t == table && n == row then Some (unwrap_or (olds t n) (get (rows table) row)) else olds t n))
    (set : (t : ℕ) → changed t ≡ (if t == table then with_values (rows t) row values else rows t)) where
  pub was_still : (t n : ℕ) → unwrap_or (more t n) (get (changed t) n) ≡ unwrap_or (olds t n) (get (rows t) n)
  was_still t n =
      ap (λ o. unwrap_or o (get (changed t) n)) (kept t n)
      ∙ ap (λ r. unwrap_or (if t == table && n == row then Some (unwrap_or (olds t n) (get (rows table) row)) else olds t n) (get r n)) (set t)
      ∙ by (t == table) refl
    where
      at : (b : Bool) → (n == row) ≡ b → t ≡ table → unwrap_or (if b then Some (unwrap_or (olds t n) (get (rows table) row)) else olds t n) (get (with_values (rows t) row values) n) ≡ unwrap_or (olds t n) (get (rows t) n)
      at true same here = ap (λ k. unwrap_or (olds t n) (get (rows k) row)) (sym here) ∙ ap (λ k. unwrap_or (olds t n) (get (rows t) k)) (sym (eqb-true n row same))
      at false other here = ap (unwrap_or (olds t n)) (get-with_values (rows t) row values n ∙ ap (λ b. if b then values else get (rows t) n) other)

      by : (b : Bool) → (t == table) ≡ b → unwrap_or (if b && n == row then Some (unwrap_or (olds t n) (get (rows table) row)) else olds t n) (get (if b then with_values (rows t) row values else rows t) n) ≡ unwrap_or (olds t n) (get (rows t) n)
      by true here = at (n == row) refl (eqb-true t table here)
      by false elsewhere = refl

-- a row that is kept, and all rows as they are
module _ (olds more : ℕ → ℕ → Option (Option (List Value))) (rows : ℕ → Rows) (table row : ℕ)
    (kept : (t n : ℕ) → more t n ≡ (if t == table && n == row then Some (unwrap_or (olds t n) (get (rows table) row)) else olds t n)) where
  pub was_kept : (t n : ℕ) → unwrap_or (more t n) (get (rows t) n) ≡ unwrap_or (olds t n) (get (rows t) n)
  was_kept t n = ap (λ o. unwrap_or o (get (rows t) n)) (kept t n) ∙ by (t == table) refl
    where
      at : (b : Bool) → (n == row) ≡ b → t ≡ table → unwrap_or (if b then Some (unwrap_or (olds t n) (get (rows table) row)) else olds t n) (get (rows t) n) ≡ unwrap_or (olds t n) (get (rows t) n)
      at true same here = ap (λ k. unwrap_or (olds t n) (get (rows k) row)) (sym here) ∙ ap (λ k. unwrap_or (olds t n) (get (rows t) k)) (sym (eqb-true n row same))
      at false other here = refl

      by : (b : Bool) → (t == table) ≡ b → unwrap_or (if b && n == row then Some (unwrap_or (olds t n) (get (rows table) row)) else olds t n) (get (rows t) n) ≡ unwrap_or (olds t n) (get (rows t) n)
      by true here = at (n == row) refl (eqb-true t table here)
      by false elsewhere = refl

  -- the row counts as touched
  pub touched_then : (t n : ℕ) → is_some (more t n) ≡ ((t == table && n == row) || is_some (olds t n))
  touched_then t n = ap is_some (kept t n) ∙ by (t == table && n == row)
    where
      by : (b : Bool) → is_some (if b then Some (unwrap_or (olds t n) (get (rows table) row)) else olds t n) ≡ (b || is_some (olds t n))
      by true = refl
      by false = refl

-- ---- keeping a row

abbrev pub Lists : Type 0
Lists = List (ℕ × BTreeMap ℕ (Option (List Value)))

abbrev pub entries_of : Option (BTreeMap ℕ (Option (List Value))) → Olds
entries_of found = option_map_or (λ m. m.entries) found []

module _ (old new : Lists) (table : ℕ) (list : BTreeMap ℕ (Option (List Value)))
    (sets : (q : ℕ) → lookup (is q) new ≡ cond (is table q) (Some list) (lookup (is q) old)) where
  olds_there : (t : ℕ) → olds_at new t ≡ (if t == table then list.entries else olds_at old t)
  olds_there t =
      ap entries_of (sets t)
      ∙ ap (λ b. entries_of (cond b (Some list) (lookup (is t) old))) (is-turned table t)
      ∙ by (t == table)
    where
      by : (b : Bool) → entries_of (cond b (Some list) (lookup (is t) old)) ≡ (if b then list.entries else olds_at old t)
      by true = refl
      by false = refl

  pub forgotten : list.entries ≡ olds_at old table → (t n : ℕ) → old_of new t n ≡ old_of old t n
  forgotten same t n = ap (λ l. old_in l n) (olds_there t) ∙ by (t == table) refl
    where
      by : (b : Bool) → (t == table) ≡ b → old_in (if b then list.entries else olds_at old t) n ≡ old_of old t n
      by true here = ap (λ l. old_in l n) same ∙ ap (λ k. old_of old k n) (sym (eqb-true t table here))
      by false elsewhere = refl

  module _ (row : ℕ) (value : Option (List Value)) where
    pub remembered : ((n : ℕ) → old_in list.entries n ≡ (if n == row then Some (unwrap_or (old_in (olds_at old table) n) value) else old_in (olds_at old table) n))
        → (t n : ℕ) → old_of new t n ≡ (if t == table && n == row then Some (unwrap_or (old_of old t n) value) else old_of old t n)
    remembered first t n = ap (λ l. old_in l n) (olds_there t) ∙ by (t == table) refl
      where
        by : (b : Bool) → (t == table) ≡ b → old_in (if b then list.entries else olds_at old t) n ≡ (if b && n == row then Some (unwrap_or (old_of old t n) value) else old_of old t n)
        by true here = first n ∙ ap (λ k. if n == row then Some (unwrap_or (old_of old k n) value) else old_of old k n) (sym (eqb-true t table here))
        by false elsewhere = refl

-- a row of a table of which none was kept
pub first_kept : (old : Lists) (table row : ℕ) (value : Option (List Value)) (made : BTreeMap ℕ (Option (List Value))) → lookup (is table) old ≡ None
    → ((n : ℕ) → old_in made.entries n ≡ (if n == row then Some value else None))
    → (n : ℕ) → old_in made.entries n ≡ (if n == row then Some (unwrap_or (old_in (olds_at old table) n) value) else old_in (olds_at old table) n)
first_kept old table row value made none first n = first n ∙ sym (ap (λ o. if n == row then Some (unwrap_or (old_in (entries_of o) n) value) else old_in (entries_of o) n) none)

none_of : (o : Option (Option (List Value))) → is_some o ≡ false → o ≡ None
none_of None h = refl
none_of (Some x) h = absurd (let no : true ≡ false = h in cc)

-- a row that wasn't kept, and now is
pub first_in : (olds more : Olds) (row : ℕ) (value : Option (List Value)) → is_some (old_in olds row) ≡ false → ((q : ℕ) → old_in more q ≡ cond (is row q) (Some value) (old_in olds q))
    → (n : ℕ) → old_in more n ≡ (if n == row then Some (unwrap_or (old_in olds n) value) else old_in olds n)
first_in olds more row value none sets n = sets n ∙ ap (λ b. cond b (Some value) (old_in olds n)) (is-turned row n) ∙ by (n == row) refl
  where
    by : (b : Bool) → (n == row) ≡ b → cond b (Some value) (old_in olds n) ≡ (if b then Some (unwrap_or (old_in olds n) value) else old_in olds n)
    by true same = sym (ap (λ o. Some (unwrap_or o value)) (ap (old_in olds) (eqb-true n row same) ∙ none_of (old_in olds row) none))
    by false other = refl

-- ---- touched rows as they were

pub tested : (test : Test) (olds : Olds) (rows : Rows) (some : Olds) → ((k : ℕ) (d : ℕ × Option (List Value)) → k < length some → old_in olds (get_or some k d).0 ≡ Some (get_or some k d).1)
    → list_any (λ e. passes_at test e.0 e.1) some ≡ any_of (keys_of some) test (with_olds olds rows)
tested test olds rows [] found = refl
tested test olds rows (e ∷ es) found =
    let here : get (with_olds olds rows) e.0 ≡ e.1 = get-with_olds olds rows e.0 ∙ ap (λ o. unwrap_or o (get rows e.0)) (found 0 e (omega arith)) in
    ap (λ o. passes_at test e.0 o || list_any (λ e. passes_at test e.0 e.1) es) (sym here)
    ∙ ap (λ b. passes_at test e.0 (get (with_olds olds rows) e.0) || b) (tested test olds rows es (λ k d low. found (suc k) d (omega arith)))

-- ---- a row is kept and set

module _ (olds more : Lists) (tables changed : Tables) (table row : ℕ) (value : Option (List Value)) (same : value ≡ get (rows_at tables table) row)
    (kept : (t n : ℕ) → old_of more t n ≡ (if t == table && n == row then Some (unwrap_or (old_of olds t n) value) else old_of olds t n)) where
  kept_so : (t n : ℕ) → old_of more t n ≡ (if t == table && n == row then Some (unwrap_or (old_of olds t n) (get (rows_at tables table) row)) else old_of olds t n)
  kept_so t n = kept t n ∙ ap (λ v. if t == table && n == row then Some (unwrap_or (old_of olds t n) v) else old_of olds t n) same

  pub before_set : (values : Option (List Value)) → ((t : ℕ) → rows_at changed t ≡ (if t == table then with_values (rows_at tables t) row values else rows_at tables t))
      → (t : ℕ) → with_olds (olds_at more t) (rows_at changed t) ≡ with_olds (olds_at olds t) (rows_at tables t)
  before_set values set t = before_same (olds_at olds t) (olds_at more t) (rows_at tables t) (rows_at changed t) (λ n. was_still (old_of olds) (old_of more) (rows_at tables) (rows_at changed) table row values kept_so set t n)

  pub before_failed : ((t : ℕ) → rows_at changed t ≡ rows_at tables t) → (t : ℕ) → with_olds (olds_at more t) (rows_at changed t) ≡ with_olds (olds_at olds t) (rows_at tables t)
  before_failed still t = before_same (olds_at olds t) (olds_at more t) (rows_at tables t) (rows_at changed t) (λ n.
      ap (λ (r : Rows). unwrap_or (old_of more t n) (get r n)) (still t) ∙ was_kept (old_of olds) (old_of more) (rows_at tables) table row kept_so t n)

  pub touched_set : (t n : ℕ) → is_one_of (keys_of (olds_at more t)) n ≡ ((t == table && n == row) || is_one_of (keys_of (olds_at olds t)) n)
  touched_set t n =
      touched_are_kept (olds_at more t) n
      ∙ touched_then (old_of olds) (old_of more) (rows_at tables) table row kept_so t n
      ∙ ap (λ b. (t == table && n == row) || b) (sym (touched_are_kept (olds_at olds t) n))

pub before_forgotten : (olds more : Lists) (tables : Tables) → ((t n : ℕ) → old_of more t n ≡ old_of olds t n) → (t : ℕ) → with_olds (olds_at more t) (rows_at tables t) ≡ with_olds (olds_at olds t) (rows_at tables t)
before_forgotten olds more tables same t = before_same (olds_at olds t) (olds_at more t) (rows_at tables t) (rows_at tables t) (λ n. ap (λ o. unwrap_or o (get (rows_at tables t) n)) (same t n))
