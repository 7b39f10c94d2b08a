-- The rows that a map stands for.
use Rattle.std.proofs.Common.{◌≡◌, ℕ, Bool, true, false, ◌&&◌, cond, List, [], ◌∷◌, ◌++◌, Option, Some, None, refl, sym, ap, subst, ◌∙◌, T}
use Rattle.std.specs.Cmp.{nat_cmp_total, eq_by_cmp_equiv, tied_itself}
use Rattle.std.specs.FinMap.{entries, entries_sorted, get, insert, remove, find, is_sorted, get-entries, get-from_entries, get-insert, get-remove, get_tied, from_entries_push, same_map, nat_cmp-IsAntisymmetric}
use Rattle.std.specs.FinMap.Entries.{below_all, same_entries}
use Rattle.std.specs.List.{AllByRecursion, list_any}
use Rattle.std.specs.List.Sorted.{IsStrictlySortedBy}
use Rattle.std.specs.Map.{lookup, keys_of}
use Rattle.std.specs.Ordering.{nat_cmp, is_eq, is_lt}
use Rattle.std.specs.declared.cmp.Ordering.TheVariants.{Less}
use Rattle.hs_values.specs.declared.value.Value.{Value}
use Rattle.hs_index.specs.Table.{Rows}
use Rattle.hs_index.proofs.RowSets.{equal_from}
use Rattle.hs_sentences.specs.Asking.{Test, any_row}
use Rattle.hs_keyed.specs.Kept.{rows_of}

abbrev pub Entries : Type 0
Entries = List (ℕ × List Value)

-- the entry of a number
abbrev pub at : Entries → ℕ → Option (List Value)
at es n = lookup (λ k. is_eq (nat_cmp n k)) es

found : (n : ℕ) (es : Entries) → find nat_cmp n es ≡ at es n
found n [] = refl
found n (e ∷ es) = ap (cond (is_eq (nat_cmp n e.0)) (Some e.1)) (found n es)

pub get-rows_of : (es : Entries) (n : ℕ) → get (rows_of es) n ≡ at es n
get-rows_of es n = get-from_entries nat_cmp_total es n ∙ found n es

tied : (a b : ℕ) → is_eq (nat_cmp a b) ≡ is_eq (nat_cmp b a)
tied a b = (eq_by_cmp_equiv nat_cmp_total).symm a b

-- a row gets values
pub rows_put : (old new : Entries) (k : ℕ) (row : List Value) → ((q : ℕ) → at new q ≡ cond (is_eq (nat_cmp k q)) (Some row) (at old q)) → rows_of new ≡ insert (rows_of old) k row
rows_put old new k row is = same_map nat_cmp_total nat_cmp-IsAntisymmetric _ _ (λ q.
    get-rows_of new q ∙ is q
    ∙ ap (λ b. cond b (Some row) (at old q)) (tied k q)
    ∙ ap (cond (is_eq (nat_cmp q k)) (Some row)) (sym (get-rows_of old q))
    ∙ sym (get-insert nat_cmp_total (rows_of old) k row q))

-- a row goes
pub rows_taken : (old new : Entries) (k : ℕ) → ((q : ℕ) → at new q ≡ cond (is_eq (nat_cmp k q)) None (at old q)) → rows_of new ≡ remove (rows_of old) k
rows_taken old new k is = same_map nat_cmp_total nat_cmp-IsAntisymmetric _ _ (λ q.
    get-rows_of new q ∙ is q
    ∙ ap (λ b. cond b None (at old q)) (tied k q)
    ∙ ap (cond (is_eq (nat_cmp q k)) None) (sym (get-rows_of old q))
    ∙ sym (get-remove nat_cmp_total (rows_of old) k q))

-- a row that goes and comes back with other values just gets these
pub insert-remove : (rows : Rows) (k : ℕ) (row : List Value) → insert (remove rows k) k row ≡ insert rows k row
insert-remove rows k row = same_map nat_cmp_total nat_cmp-IsAntisymmetric _ _ (λ q.
    get-insert nat_cmp_total (remove rows k) k row q
    ∙ ap (cond (is_eq (nat_cmp q k)) (Some row)) (get-remove nat_cmp_total rows k q)
    ∙ shadowed (is_eq (nat_cmp q k)) (get rows q)
    ∙ sym (get-insert nat_cmp_total rows k row q))
  where
    shadowed : (b : Bool) (o : Option (List Value)) → cond b (Some row) (cond b None o) ≡ cond b (Some row) o
    shadowed true o = refl
    shadowed false o = refl

-- a row that isn't there can't go
pub remove-none : (rows : Rows) (k : ℕ) → get rows k ≡ None → remove rows k ≡ rows
remove-none rows k none = same_map nat_cmp_total nat_cmp-IsAntisymmetric _ _ (λ q. get-remove nat_cmp_total rows k q ∙ by q (is_eq (nat_cmp q k)) refl)
  where
    by : (q : ℕ) (b : Bool) → is_eq (nat_cmp q k) ≡ b → cond b None (get rows q) ≡ get rows q
    by q true same = sym (get_tied nat_cmp_total rows k q (equal_from (nat_cmp k q) (tied k q ∙ same)) ∙ none)
    by q false other = refl

-- ---- in order

less_from : (x : ℕ) (es : Entries) → AllByRecursion (λ y. nat_cmp x y ≡ Less) (keys_of es) → T (below_all nat_cmp x es)
less_from x [] h = tt
less_from x (e ∷ es) h = subst (λ o. T (is_lt o && below_all nat_cmp x es)) (sym h.0) (less_from x es h.1)

and_true : (a b : Bool) → T a → T b → T (a && b)
and_true true b p q = q
and_true false b p q = p

sorted_from : (es : Entries) → IsStrictlySortedBy nat_cmp (keys_of es) → T (is_sorted nat_cmp es)
unfolding IsStrictlySortedBy
sorted_from [] s = tt
sorted_from (e ∷ es) s = and_true (below_all nat_cmp e.0 es) (is_sorted nat_cmp es) (less_from e.0 es s.0) (sorted_from es s.1)

pub entries-rows_of : (es : Entries) → IsStrictlySortedBy nat_cmp (keys_of es) → entries (rows_of es) ≡ es
entries-rows_of es s = same_entries nat_cmp nat_cmp_total nat_cmp-IsAntisymmetric (entries (rows_of es)) es (entries_sorted (rows_of es)) (sorted_from es s) (λ q. sym (get-entries (rows_of es) q) ∙ get-from_entries nat_cmp_total es q)

pub any-rows_of : (test : Test) (es : Entries) → IsStrictlySortedBy nat_cmp (keys_of es) → list_any (λ e. test e.0 e.1) es ≡ any_row test (rows_of es)
any-rows_of test es s = ap (list_any (λ e. test e.0 e.1)) (sym (entries-rows_of es s))

-- a number that stands behind others isn't among them
module _ {X : Type 0} (n : ℕ) (x : X) (rest : List (ℕ × X)) where
  apart : (m : ℕ) (es : List (ℕ × X)) → AllByRecursion (λ y. nat_cmp m y ≡ Less) (keys_of (es ++ (n, x) ∷ rest)) → nat_cmp m n ≡ Less
  apart m [] h = h.0
  apart m (e ∷ es) h = apart m es h.1

  pub not_among : (es : List (ℕ × X)) → IsStrictlySortedBy nat_cmp (keys_of (es ++ (n, x) ∷ rest)) → lookup (λ k. is_eq (nat_cmp n k)) es ≡ None
  unfolding IsStrictlySortedBy
  not_among [] s = refl
  not_among (e ∷ es) s = ap (λ b. cond b (Some e.1) (lookup (λ k. is_eq (nat_cmp n k)) es)) (tied n e.0 ∙ ap is_eq (apart e.0 es s.0)) ∙ not_among es s.1

pub new_number : (front : Entries) (n : ℕ) (row : List Value) (rest : Entries) → IsStrictlySortedBy nat_cmp (keys_of (front ++ (n, row) ∷ rest)) → get (rows_of front) n ≡ None
new_number front n row rest s = get-rows_of front n ∙ not_among n row rest front s

-- a row that is put behind others
pub rows_pushed : (front : Entries) (n : ℕ) (row : List Value) → get (rows_of front) n ≡ None → rows_of (front ++ (n, row) ∷ []) ≡ insert (rows_of front) n row
rows_pushed front n row none = from_entries_push nat_cmp_total nat_cmp-IsAntisymmetric front n row (sym (get-from_entries nat_cmp_total front n) ∙ none)

-- a row that went isn't there
pub get-removed : (rows : Rows) (k : ℕ) → get (remove rows k) k ≡ None
get-removed rows k = get-remove nat_cmp_total rows k k ∙ ap (λ o. cond (is_eq o) None (get rows k)) (tied_itself nat_cmp_total k)
