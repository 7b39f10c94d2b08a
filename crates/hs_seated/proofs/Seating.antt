-- Changes that are made on rows one after another, and taken back.
use Rattle.std.proofs.Common.{◌≡◌, ℕ, zero, suc, ◌+◌, ◌<◌, ◌≤◌, Bool, true, false, ◌||◌, List, [], ◌∷◌, ◌++◌, get_or, length, take, refl, sym, ap, subst, ◌∙◌, add-one, append_assoc, arith}
use Rattle.std.proofs.Math.Seq.{take-length, take-suc}
use Rattle.std.proofs.lemmas.List.{append-nil, length-append, length-take-le, take_all}
use Rattle.std.proofs.lemmas.List.Folds.{list_any-append}
use Rattle.std.proofs.lemmas.Option.{slice_get_read}
use Rattle.std.specs.FinMap.{get}
use Rattle.std.specs.List.{list_any}
use Rattle.hs_changes.specs.Changes.{after_changes, count_all_inserted, count_inserted, setting_of, settings_of}
use Rattle.hs_changes.specs.Settings.{Maps, Setting, is_set, names, set_row, set_rows}
use Rattle.hs_changes.proofs.Applied.{after_changes-append, settings_of-append}
use Rattle.hs_turns.specs.Database.{is_definition}
use Rattle.hs_draft.specs.Drafted.{after, touched}
use Rattle.hs_plan.specs.declared.change.Change.{Change}
use Rattle.hs_sentences.specs.Asking.{is_one_of}
use Rattle.hs_seated.specs.declared.seated_rows.SeatedRows.{SeatedRows}
use Rattle.hs_seated.specs.declared.seated.Seated.{Seated}
use Rattle.hs_seated.specs.declared.step.Step.{Step}
use Rattle.hs_seated.specs.Listed.{AreOver}
use Rattle.hs_seated.specs.Rows.{AreRows}
use Rattle.hs_seated.specs.Seated.{IsSeated, IsStep, Touches, setting_back}
use Rattle.hs_seated.specs.Steps.{Makes}
use Rattle.hs_seated.proofs.Listed.{over_front, over_on, take_take}
use Rattle.hs_seated.proofs.SetBack.{set_back}

-- ---- one change more

count_behind : (xs : List Change) (c : Change) → count_all_inserted (xs ++ c ∷ []) ≡ count_all_inserted xs + count_inserted c
count_behind [] c = omega arith
count_behind (x ∷ xs) c = let rest = count_behind xs c in omega (arith, rest)

-- what a row is before it is set
abbrev pub kept : Seated → Setting → Step
kept old s = record { table = record { 0 = s.table }; row = record { 0 = s.row }; old = get (after old.rows.draft s.table) s.row; inserted = old.inserted }

module _ (maps : Maps) (changes : List Change) (c : Change) (old new : Seated) (makes : Makes c old new) (seated : IsSeated maps changes old) where
  more : after_changes 0 maps (changes ++ c ∷ []) ≡ set_row (after_changes 0 maps changes) makes.s
  more =
      let its : 0 + count_all_inserted changes ≡ old.inserted = omega (arith, seated.inserted) in
      after_changes-append 0 maps changes (c ∷ [])
      ∙ ap (λ n. set_rows (after_changes 0 maps changes) (setting_of n c ++ [])) its
      ∙ ap (λ (l : List Setting). set_rows (after_changes 0 maps changes) (l ++ [])) makes.sets

  its_step : IsStep maps changes (changes ++ c ∷ []) (kept old makes.s)
  its_step = record {
    inserted = seated.inserted;
    back = ap (λ (m : Maps). set_row m (setting_back (kept old makes.s))) more
        ∙ ap (λ (r : _). set_row (set_row (after_changes 0 maps changes) makes.s) (record { table = makes.s.table; row = makes.s.row; values = get r makes.s.row })) (seated.rows.draft makes.s.table)
        ∙ set_back (after_changes 0 maps changes) makes.s;
  }

  pub seated_on : IsSeated maps (changes ++ c ∷ []) new
  seated_on = record {
    rows = subst (λ (m : Maps). AreRows m new.rows) (sym more) (makes.is.rows (after_changes 0 maps changes) seated.rows);
    of_rows = list_any-append is_definition changes (c ∷ []) ∙ ap (λ b. b || (is_definition c || false)) seated.of_rows ∙ ap (λ b. b || false) makes.of_row;
    inserted = makes.count ∙ ap (λ n. n + count_inserted c) seated.inserted ∙ sym (count_behind changes c);
    count = ap length makes.is.step ∙ length-append old.steps.items (kept old makes.s ∷ []) ∙ ap (λ n. n + 1) seated.count ∙ sym (length-append changes (c ∷ []));
    steps = subst (AreOver (IsStep maps) (changes ++ c ∷ [])) (sym makes.is.step) (over_on (IsStep maps) changes c old.steps.items (kept old makes.s) seated.count seated.steps its_step);
  }

-- ---- rows that are touched

or_assoc : (a b c : Bool) → (b || (a || c)) ≡ ((a || b) || c)
or_assoc true true c = refl
or_assoc true false c = refl
or_assoc false b c = refl

or_false : (a b : Bool) → (a || b) ≡ ((a || false) || b)
or_false true b = refl
or_false false b = refl

pub touches_one : (c : Change) (old new : Seated) → Makes c old new → Touches old.inserted (c ∷ []) old.rows new.rows
touches_one c old new makes = record {
  before = makes.is.before;
  touched = λ table row.
      makes.is.touched table row
      ∙ or_false (names table row makes.s) (is_one_of (touched old.rows.draft table) row)
      ∙ ap (λ (l : List Setting). is_set table row (l ++ []) || is_one_of (touched old.rows.draft table) row) (sym makes.sets);
}

pub touches_none : (inserted : ℕ) (rows : SeatedRows) → Touches inserted [] rows rows
touches_none inserted rows = record { before = λ table. refl; touched = λ table row. refl }

pub touches_on : (inserted : ℕ) (xs : List Change) (c : Change) (a b d : SeatedRows) (n : ℕ) → n ≡ inserted + count_all_inserted xs
    → Touches inserted xs a b → Touches n (c ∷ []) b d → Touches inserted (xs ++ c ∷ []) a d
touches_on inserted xs c a b d n is first next = record {
  before = λ table. next.before table ∙ first.before table;
  touched = λ table row.
      next.touched table row
      ∙ ap (λ t. is_set table row (settings_of n (c ∷ [])) || t) (first.touched table row)
      ∙ or_assoc (is_set table row (settings_of inserted xs)) (is_set table row (settings_of n (c ∷ []))) (is_one_of (touched a.draft table) row)
      ∙ ap (λ k. (is_set table row (settings_of inserted xs) || is_set table row (settings_of k (c ∷ []))) || is_one_of (touched a.draft table) row) is
      ∙ ap (λ t. t || is_one_of (touched a.draft table) row) (sym (list_any-append (names table row) (settings_of inserted xs) (settings_of (inserted + count_all_inserted xs) (c ∷ []))))
      ∙ ap (λ (l : List Setting). is_set table row l || is_one_of (touched a.draft table) row) (sym (settings_of-append inserted xs (c ∷ [])));
}

-- ---- many changes

-- these changes were made behind those of an earlier moment
pub record Advances (changes : List Change) (old new : Seated) : Type 0 where
  pub seated : (maps : Maps) (seated : List Change) → IsSeated maps seated old → IsSeated maps (seated ++ changes) new
  pub touches : Touches old.inserted changes old.rows new.rows
  pub count : new.inserted ≡ old.inserted + count_all_inserted changes

pub advances_none : (s : Seated) → Advances [] s s
advances_none s = record {
  seated = λ maps seated is. subst (λ (l : List Change). IsSeated maps l s) (sym (append-nil seated)) is;
  touches = touches_none s.inserted s.rows;
  count = omega arith;
}

pub advances_on : (changes : List Change) (i : ℕ) (c : Change) → i < length changes → c ≡ get_or changes i c → (old mid new : Seated)
    → Advances (take i changes) old mid → Makes c mid new → Advances (take (i + 1) changes) old new
advances_on changes i c low is old mid new first next =
    subst (λ (l : List Change). Advances l old new) (sym (ap (λ n. take n changes) (add-one i) ∙ take-suc changes i c low ∙ ap (λ (x : Change). take i changes ++ x ∷ []) (sym is)))
    (record {
      seated = λ maps seated at. subst (λ (l : List Change). IsSeated maps l new) (append_assoc seated (take i changes) (c ∷ [])) (seated_on maps (seated ++ take i changes) c mid new next (first.seated maps seated at));
      touches = touches_on old.inserted (take i changes) c old.rows mid.rows new.rows mid.inserted first.count first.touches (touches_one c mid new next);
      count = next.count ∙ ap (λ n. n + count_inserted c) first.count ∙ assoc old.inserted (count_all_inserted (take i changes)) (count_inserted c) ∙ ap (λ n. old.inserted + n) (sym (count_behind (take i changes) c));
    })
  where
    assoc : (a b d : ℕ) → a + b + d ≡ a + (b + d)
    assoc a b d = omega arith

-- ---- changes that are taken back

none_in_front : (xs : List Change) (n : ℕ) → list_any is_definition xs ≡ false → list_any is_definition (take n xs) ≡ false
none_in_front xs zero none = refl
none_in_front [] (suc n) none = refl
none_in_front (x ∷ xs) (suc n) none = by (none_in_front xs n) (is_definition x) refl none
  where
    by : (list_any is_definition xs ≡ false → list_any is_definition (take n xs) ≡ false) → (b : Bool) → is_definition x ≡ b → (b || list_any is_definition xs) ≡ false → (is_definition x || list_any is_definition (take n xs)) ≡ false
    by more true is rest = absurd (cc)
    by more false is rest = ap (λ b. b || list_any is_definition (take n xs)) is ∙ more rest

pub back_on : (maps : Maps) (changes : List Change) (old new : Seated) (step : Step) (n : ℕ) → n + 1 ≡ length old.steps.items → step ≡ get_or old.steps.items n step
    → new.steps.items ≡ take n old.steps.items → new.inserted ≡ step.inserted
    → (AreRows (after_changes 0 maps changes) old.rows → AreRows (set_row (after_changes 0 maps changes) (setting_back step)) new.rows)
    → IsSeated maps changes old → IsSeated maps (take n changes) new
back_on maps changes old new step n last is left inserted back seated =
    let its : IsStep maps (take n changes) (take (n + 1) changes) step = seated.steps n step (slice_get_read old.steps.items (length old.steps.items) n step refl (omega (arith, last)) is) in
    let whole : take (n + 1) changes ≡ changes = ap (λ k. take k changes) (last ∙ seated.count) ∙ take-length changes in
    let below : n ≤ length changes = omega (arith, last, seated.count) in
    let below_too : n ≤ length old.steps.items = omega (arith, last) in
    record {
      rows = subst (λ (m : Maps). AreRows m new.rows) (ap (λ (l : List Change). set_row (after_changes 0 maps l) (setting_back step)) (sym whole) ∙ its.back) (back seated.rows);
      of_rows = none_in_front changes n seated.of_rows;
      inserted = inserted ∙ its.inserted;
      count = ap length left ∙ length-take-le n old.steps.items below_too ∙ sym (length-take-le n changes below);
      steps = subst (AreOver (IsStep maps) (take n changes)) (sym left) (over_front (IsStep maps) changes old.steps.items n seated.steps);
    }

-- taken back to changes of which the first so many are the same
pub record IsDown (maps : Maps) (len : ℕ) (changes : List Change) (s : Seated) : Type 0 where
  pub front : List Change
  pub is : IsSeated maps front s
  pub same : take len front ≡ take len changes

pub down_none : (maps : Maps) (len : ℕ) (changes : List Change) (s : Seated) → IsSeated maps changes s → IsDown maps len changes s
down_none maps len changes s is = record { front = changes; is = is; same = refl }

pub down_on : (maps : Maps) (len : ℕ) (changes : List Change) (old new : Seated) (n : ℕ) → len ≤ n → ((front : List Change) → IsSeated maps front old → IsSeated maps (take n front) new)
    → IsDown maps len changes old → IsDown maps len changes new
down_on maps len changes old new n low back down = record { front = take n down.front; is = back down.front down.is; same = take_take down.front n len low ∙ down.same }

pub down_all : (maps : Maps) (len : ℕ) (changes : List Change) (s : Seated) → length s.steps.items ≤ len → IsDown maps len changes s → IsSeated maps (take len changes) s
down_all maps len changes s low down =
    let short : length down.front ≤ len = omega (arith, low, down.is.count) in
    subst (λ (l : List Change). IsSeated maps l s) (sym (take_all len down.front short) ∙ down.same) down.is
