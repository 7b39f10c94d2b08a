-- Lists of changes, one behind another.
use Rattle.std.proofs.Common.{◌≡◌, ℕ, ◌+◌, ◌<◌, ◌^◌, Bool, true, false, ◌&&◌, ◌||◌, ◌==◌, List, [], ◌∷◌, ◌++◌, refl, sym, ap, ◌∙◌, arith, append_assoc}
use Rattle.std.proofs.lemmas.Bool.{ne_eqb}
use Rattle.std.proofs.lemmas.List.Folds.{list_any-append}
use Rattle.std.proofs.lemmas.List.Sums.{fold-append}
use Rattle.std.specs.List.{list_any}
use Rattle.hs_plan.specs.declared.change.Change.{Change}
use Rattle.hs_plan.specs.declared.change.Change.TheVariants as change
use Rattle.hs_changes.specs.Settings.{Maps, set_row, set_rows, names, is_set}
use Rattle.hs_changes.specs.Changes.{own_row, count_inserted, count_all_inserted, setting_of, settings_of, after_changes, is_named}

pub settings_of-append : (inserted : ℕ) (xs ys : List Change) → settings_of inserted (xs ++ ys) ≡ settings_of inserted xs ++ settings_of (inserted + count_all_inserted xs) ys
settings_of-append inserted [] ys = let none : inserted + 0 ≡ inserted = omega arith in ap (λ n. settings_of n ys) (sym none)
settings_of-append inserted (x ∷ xs) ys =
    let n : inserted + count_inserted x + count_all_inserted xs ≡ inserted + (count_inserted x + count_all_inserted xs) = omega arith in
    ap (λ more. setting_of inserted x ++ more) (settings_of-append (inserted + count_inserted x) xs ys ∙ ap (λ k. settings_of (inserted + count_inserted x) xs ++ settings_of k ys) n)
    ∙ sym (append_assoc (setting_of inserted x) (settings_of (inserted + count_inserted x) xs) (settings_of (inserted + (count_inserted x + count_all_inserted xs)) ys))

pub after_changes-append : (inserted : ℕ) (maps : Maps) (xs ys : List Change) → after_changes inserted maps (xs ++ ys) ≡ after_changes (inserted + count_all_inserted xs) (after_changes inserted maps xs) ys
after_changes-append inserted maps xs ys =
    ap (set_rows maps) (settings_of-append inserted xs ys)
    ∙ fold-append set_row maps (settings_of inserted xs) (settings_of (inserted + count_all_inserted xs) ys)

-- a row that was there before the transaction is set exactly where a change names it
one_named : (inserted table row : ℕ) → row < 2 ^ 63 → (c : Change) → is_set table row (setting_of inserted c) ≡ is_named table row c
one_named inserted table row old (change.Insert t values) =
    let apart : (row == own_row (inserted + 1)) ≡ false = ne_eqb row (own_row (inserted + 1)) (λ e. omega arith) in
    ap (λ b. ((table == t.0) && b) || false) apart ∙ none (table == t.0)
  where
    none : (b : Bool) → ((b && false) || false) ≡ false
    none true = refl
    none false = refl
one_named inserted table row old (change.Put t r values) = alone ((table == t.0) && (row == r.0))
  where
    alone : (b : Bool) → (b || false) ≡ b
    alone true = refl
    alone false = refl
one_named inserted table row old (change.Delete t r) = alone ((table == t.0) && (row == r.0))
  where
    alone : (b : Bool) → (b || false) ≡ b
    alone true = refl
    alone false = refl
one_named inserted table row old (change.Define definition) = refl

pub old_rows_set : (inserted table row : ℕ) (changes : List Change) → row < 2 ^ 63 → is_set table row (settings_of inserted changes) ≡ list_any (is_named table row) changes
old_rows_set inserted table row [] old = refl
old_rows_set inserted table row (c ∷ cs) old =
    list_any-append (names table row) (setting_of inserted c) (settings_of (inserted + count_inserted c) cs)
    ∙ ap (λ b. b || is_set table row (settings_of (inserted + count_inserted c) cs)) (one_named inserted table row old c)
    ∙ ap (λ b. is_named table row c || b) (old_rows_set (inserted + count_inserted c) table row cs old)
