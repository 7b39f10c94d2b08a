-- Rows of a draft that are set, one after another.
use Rattle.std.proofs.Common.{◌≡◌, ◌⊎◌, inl, inr, ℕ, ◌+◌, ◌<◌, Bool, true, false, ◌||◌, ◌&&◌, ◌==◌, List, [], ◌∷◌, ◌++◌, get_or, length, take, refl, sym, ap, subst, ◌∙◌, add-one, arith}
use Rattle.std.proofs.Math.Seq.{take-suc}
use Rattle.std.proofs.lemmas.List.{append-nil}
use Rattle.std.proofs.lemmas.List.Folds.{list_any-append}
use Rattle.std.proofs.lemmas.List.Sums.{fold-append}
use Rattle.std.specs.Prelude.{Result, Ok, Err, OnErr, OnOk}
use Rattle.hs_plan.specs.declared.change.Change.{Change}
use Rattle.hs_changes.specs.Changes.{count_all_inserted, count_inserted, setting_of, settings_of}
use Rattle.hs_changes.specs.Settings.{Setting, is_set, names, set_row, set_rows}
use Rattle.hs_changes.proofs.Applied.{settings_of-append}
use Rattle.hs_sentences.specs.Asking.{is_one_of}
use Rattle.hs_draft.specs.declared.draft.Draft.{Draft}
use Rattle.hs_draft.specs.Drafted.{after, touched}
use Rattle.hs_applied.specs.Applied.{AreSet, Keeps}

-- two facts of one answer
pub both_ok : {T E P Q R : Type 0} (r : Result T E) → (P → Q → R) → OnOk r P → OnOk r Q → OnOk r R
both_ok (Ok x) f p q = f p q
both_ok (Err e) f p q = tt

-- ---- rows that are set

or_assoc : (a b c : Bool) → (b || (a || c)) ≡ ((a || b) || c)
or_assoc true true c = refl
or_assoc true false c = refl
or_assoc false b c = refl

or_false : (a b : Bool) → (a || b) ≡ ((a || false) || b)
or_false true b = refl
or_false false b = refl

pub set_one : (old new : Draft) (s : Setting) → ((table : ℕ) → after new table ≡ set_row (after old) s table)
    → ((table row : ℕ) → is_one_of (touched new table) row ≡ (((table == s.table) && (row == s.row)) || is_one_of (touched old table) row)) → AreSet (s ∷ []) old new
set_one old new s set touches = record {
  after = λ i table. set table i;
  touched = λ table row. touches table row ∙ or_false (names table row s) (is_one_of (touched old table) row);
}

pub set_none : (draft : Draft) → AreSet [] draft draft
set_none draft = record { after = refl; touched = λ table row. refl }

pub set_on : (a b c : Draft) (xs ys : List Setting) → AreSet xs a b → AreSet ys b c → AreSet (xs ++ ys) a c
set_on a b c xs ys first next = record {
  after = next.after ∙ ap (λ maps. set_rows maps ys) first.after ∙ sym (fold-append set_row (after a) xs ys);
  touched = λ table row.
      next.touched table row
      ∙ ap (λ t. is_set table row ys || t) (first.touched table row)
      ∙ or_assoc (is_set table row xs) (is_set table row ys) (is_one_of (touched a table) row)
      ∙ ap (λ t. t || is_one_of (touched a table) row) (sym (list_any-append (names table row) xs ys));
}

-- ---- changes, one after another

pub changes_on : (inserted : ℕ) (changes : List Change) (i : ℕ) (c : Change) → i < length changes → c ≡ get_or changes i c
    → settings_of inserted (take (i + 1) changes) ≡ settings_of inserted (take i changes) ++ setting_of (inserted + count_all_inserted (take i changes)) c
changes_on inserted changes i c low is =
    ap (λ n. settings_of inserted (take n changes)) (add-one i)
    ∙ ap (settings_of inserted) (take-suc changes i c low)
    ∙ settings_of-append inserted (take i changes) (get_or changes i c ∷ [])
    ∙ ap (λ (x : Change). settings_of inserted (take i changes) ++ (setting_of (inserted + count_all_inserted (take i changes)) x ++ [])) (sym is)
    ∙ ap (λ l. settings_of inserted (take i changes) ++ l) (append-nil (setting_of (inserted + count_all_inserted (take i changes)) c))

count_behind : (xs : List Change) (c : Change) → count_all_inserted (xs ++ c ∷ []) ≡ count_all_inserted xs + count_inserted c
count_behind [] c = omega arith
count_behind (x ∷ xs) c = let rest = count_behind xs c in omega (arith, rest)

pub count_on : (inserted : ℕ) (changes : List Change) (i : ℕ) (c : Change) → i < length changes → c ≡ get_or changes i c → (count next : ℕ) → count ≡ inserted + count_all_inserted (take i changes) → next ≡ count + count_inserted c
    → next ≡ inserted + count_all_inserted (take (i + 1) changes)
count_on inserted changes i c low is count next was then =
    let more : count_all_inserted (take (i + 1) changes) ≡ count_all_inserted (take i changes) + count_inserted c =
    ap (λ n. count_all_inserted (take n changes)) (add-one i)
    ∙ ap count_all_inserted (take-suc changes i c low)
    ∙ count_behind (take i changes) (get_or changes i c)
    ∙ ap (λ (x : Change). count_all_inserted (take i changes) + count_inserted x) (sym is) in
    omega (arith, was, then, more)

pub changes_set : (inserted : ℕ) (changes : List Change) (i : ℕ) (c : Change) → i < length changes → c ≡ get_or changes i c → (count : ℕ) → count ≡ inserted + count_all_inserted (take i changes)
    → (a b d : Draft) → AreSet (settings_of inserted (take i changes)) a b → AreSet (setting_of count c) b d → AreSet (settings_of inserted (take (i + 1) changes)) a d
changes_set inserted changes i c low is count was a b d first next =
    subst (λ (ss : List Setting). AreSet ss a d) (sym (changes_on inserted changes i c low is))
    (set_on a b d (settings_of inserted (take i changes)) (setting_of (inserted + count_all_inserted (take i changes)) c) first (subst (λ n. AreSet (setting_of n c) b d) was next))

-- ---- what is kept

pub keeps_on : (a b c : Draft) (xs ys zs : List Setting) → Keeps a b xs ys → Keeps b c ys zs → Keeps a c xs zs
keeps_on a b c xs ys zs first next = record { before = next.before ∙ first.before; back = next.back ∙ first.back }

pub keeps_none : (draft : Draft) (olds : List Setting) → Keeps draft draft olds olds
keeps_none draft olds = record { before = refl; back = refl }

-- ---- answers

pub ok_or_err : {T E P Q : Type 0} (r : Result T E) → OnOk r P → OnErr r Q → P ⊎ Q
ok_or_err (Ok x) p q = inl p
ok_or_err (Err e) p q = inr q
