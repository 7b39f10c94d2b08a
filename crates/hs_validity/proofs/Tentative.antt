-- The changes of a statement are of rows that stand before it, and what they put fits.
use Rattle.std.proofs.Common.{◌≡◌, ℕ, true, List, [], map, Option, None, Some, is_some, Result, Ok, Err, refl, sym, ap, subst, ◌∙◌}
use Rattle.std.specs.FinMap.{entries, get}
use Rattle.std.specs.List.{Contains, list_all}
use Rattle.std.proofs.lemmas.Option.{none-some, same_Some}
use Rattle.hs_base.specs.declared.numbers.RowName.{RowName}
use Rattle.hs_plan.specs.declared.change.Change.{Change}
use Rattle.hs_plan.specs.declared.change.Change.TheVariants as change
use Rattle.hs_plan.specs.declared.plan.Assignment.{Assignment}
use Rattle.hs_plan.specs.declared.plan.Delete.{Delete}
use Rattle.hs_plan.specs.declared.plan.Insert.{Insert}
use Rattle.hs_plan.specs.declared.plan.InsertSource.{InsertSource}
use Rattle.hs_plan.specs.declared.plan.InsertSource.TheVariants as source
use Rattle.hs_plan.specs.declared.plan.Plan.{Plan}
use Rattle.hs_plan.specs.declared.plan.Plan.TheVariants as plan
use Rattle.hs_plan.specs.declared.plan.Update.{Update}
use Rattle.hs_values.specs.declared.fault.EvalFault.{EvalFault}
use Rattle.hs_values.specs.declared.value.Value.{Value}
use Rattle.hs_values.specs.Outcome.{◌>>=◌}
use Rattle.hs_values.specs.SqlType.{row_fits}
use Rattle.hs_rowtext.specs.Rows.{types_of}
use Rattle.hs_rel.proofs.Selecting.{nothing_in}
use Rattle.hs_actions.specs.Referencing.{keys_on}
use Rattle.hs_actions.specs.Work.{Edits, change_of, with_actions}
use Rattle.hs_actions.specs.declared.reference.Reference.{Reference}
use Rattle.hs_answer_laws.proofs.Outcomes.{all_given, source_of}
use Rattle.hs_dml.specs.Told.{tentative}
use Rattle.hs_dml.proofs.Choosing.{AreChosen, are_chosen}
use Rattle.hs_expression.specs.Outcomes.{all_or_least}
use Rattle.hs_tentative.specs.NewRows.{inserted, taken_in, updated}
use Rattle.hs_tentative.specs.Statements.{Around, Numbered, for_which, name_in, of_delete, of_insert, of_update, one_updated, rows_from, with_those_of_actions}
use Rattle.hs_language.specs.Sound.{has_fitting_default}
use Rattle.hs_validity.proofs.Acted.{AreGood, FitsIn, IsGood, stands_at, with_actions_good}
use Rattle.hs_validity.proofs.Fitting.{IsTyped, assigned_row_fits, inserted_fits, same_given, taken_fits}
use Rattle.hs_validity.proofs.Lists.{in_mapped}

module _ (a : Around) (Own : ℕ → Type 0) (fitting : (table : ℕ) → list_all has_fitting_default (a.columns table) ≡ true)
    (fits : (table number : ℕ) (row : List Value) → Own table → get (a.before table) number ≡ Some row → row_fits (types_of (a.columns table)) row ≡ true)
    (typed : (table : ℕ) (key : Reference) → Contains (keys_on a.keys table) key → IsTyped (a.columns key.child.0) key) where
  -- it names a row that stands, and what it puts fits
  abbrev pub IsStanding : Change → Type 0
  IsStanding (change.Insert table values) = FitsIn a.before a.columns Own fitting fits table.0 values
  IsStanding (change.Put table row values) = (is_some (get (a.before table.0) row.0) ≡ true) × FitsIn a.before a.columns Own fitting fits table.0 values
  IsStanding (change.Delete table row) = is_some (get (a.before table.0) row.0) ≡ true
  IsStanding (change.Define definition) = ⊥

  abbrev pub AreStanding : List Change → Type 0
  AreStanding cs = (c : Change) → Contains cs c → IsStanding c

  abbrev Good : RowName × Option (List Value) → Type 0
  Good = IsGood a.before a.columns Own fitting fits

  -- ---- INSERT

  rows_fit : (table : ℕ) (places : List ℕ) (x : InsertSource) (rows : List (List Value)) → rows_from a (a.columns table) places x ≡ Ok rows → (row : List Value) → Contains rows row → row_fits (types_of (a.columns table)) row ≡ true
  rows_fit table places (source.Tuples tuples) rows h row found =
      let f = inserted a.evaluate (a.columns table) places in
      let s = source_of f tuples rows (all_given (map f tuples) rows h) row found in
      inserted_fits a.evaluate (a.columns table) (fitting table) places s.0 row s.2
  rows_fit table places (source.Query query) rows h row found = by (a.answer query) h
    where
      by : (r : Result (List (List Value)) EvalFault) → (r >>= λ given. all_or_least (map (taken_in (a.columns table) places) given)) ≡ Ok rows → row_fits (types_of (a.columns table)) row ≡ true
      by (Ok given) h =
          let f = taken_in (a.columns table) places in
          let s = source_of f given rows (all_given (map f given) rows h) row found in
          taken_fits a.evaluate (a.columns table) (fitting table) places s.0 row s.2
      by (Err fault) h = absurd (let no : ◌≡◌ {A = Result (List (List Value)) EvalFault} (Err fault) (Ok rows) = h in cc)

  insert_standing : (insert : Insert) (cs : List Change) → of_insert a insert ≡ Ok cs → AreStanding cs
  insert_standing insert cs = by (rows_from a (a.columns insert.table.0) insert.columns insert.source) refl
    where
      by : (r : Result (List (List Value)) EvalFault) → rows_from a (a.columns insert.table.0) insert.columns insert.source ≡ r → (r >>= λ rows. Ok (map (change.Insert insert.table) rows)) ≡ Ok cs → AreStanding cs
      by (Ok rows) is h c found =
          let its : Contains (map (change.Insert insert.table) rows) c = subst (λ (l : List Change). Contains l c) (sym (same_given (map (change.Insert insert.table) rows) cs h)) found in
          let row = in_mapped (change.Insert insert.table) rows c its in
          subst IsStanding row.2 (λ own. rows_fit insert.table.0 insert.columns insert.source rows is row.0 row.1)
      by (Err fault) is h c found = absurd (let no : ◌≡◌ {A = Result (List Change) EvalFault} (Err fault) (Ok cs) = h in cc)

  -- ---- changes with those of actions

  change_standing : (e : RowName × Option (List Value)) → Good e → IsStanding (change_of e)
  change_standing (name, Some values) good = (good.stands, good.puts values refl)
  change_standing (name, None) good = good.stands

  acted_standing : (edits : Edits) (cs : List Change) → AreGood a.before a.columns Own fitting fits edits → with_those_of_actions a edits ≡ Ok cs → AreStanding cs
  acted_standing edits cs good = by (with_actions a.before a.keys edits) refl
    where
      by : (r : Result Edits EvalFault) → with_actions a.before a.keys edits ≡ r → (r >>= λ all. Ok (map change_of all)) ≡ Ok cs → AreStanding cs
      by (Ok all) is h c found =
          let its : Contains (map change_of all) c = subst (λ (l : List Change). Contains l c) (sym (same_given (map change_of all) cs h)) found in
          let e = in_mapped change_of all c its in
          subst IsStanding e.2 (change_standing e.0 (with_actions_good a.before a.columns Own fitting fits a.keys typed edits all good is e.0 e.1))
      by (Err fault) is h c found = absurd (let no : ◌≡◌ {A = Result (List Change) EvalFault} (Err fault) (Ok cs) = h in cc)

  -- ---- UPDATE

  one_good : (update : Update) (x : ℕ × List Value) (e : RowName × Option (List Value)) → get (a.before update.table.0) x.0 ≡ Some x.1 → one_updated a update x ≡ Ok e → Good e
  one_good update x e there = by (updated a.evaluate (a.columns update.table.0) update.assignments x.1) refl
    where
      by : (r : Result (List Value) EvalFault) → updated a.evaluate (a.columns update.table.0) update.assignments x.1 ≡ r → ◌≡◌ {A = Result (RowName × Option (List Value)) EvalFault} (r >>= λ row. Ok (name_in update.table x.0, Some row)) (Ok e) → Good e
      by (Ok row) is h =
          let good : Good (name_in update.table x.0, Some row) = record {
            stands = ap is_some there;
            puts = λ values some own.
                ap (row_fits (types_of (a.columns update.table.0))) (sym (same_Some row values some))
                ∙ assigned_row_fits a.evaluate (a.columns update.table.0) (fitting update.table.0) (map (λ (s : Assignment). s.column) update.assignments) (map (λ (s : Assignment). s.value) update.assignments) x.1 row (fits update.table.0 x.0 x.1 own there) is;
          } in
          subst Good (same_given (name_in update.table x.0, Some row) e h) good
      by (Err fault) is h = absurd (let no : ◌≡◌ {A = Result (RowName × Option (List Value)) EvalFault} (Err fault) (Ok e) = h in cc)

  update_standing : (update : Update) (cs : List Change) → of_update a update ≡ Ok cs → AreStanding cs
  update_standing update cs = by (for_which a.evaluate update.filter (entries (a.before update.table.0))) refl
    where
      edited : (rows : Numbered) → AreChosen (a.before update.table.0) rows → (r : Result Edits EvalFault) → all_or_least (map (one_updated a update) rows) ≡ r → (r >>= with_those_of_actions a) ≡ Ok cs → AreStanding cs
      edited rows chosen (Ok edits) is h =
          acted_standing edits cs (λ e found.
          let s = source_of (one_updated a update) rows edits (all_given (map (one_updated a update) rows) edits is) e found in
          one_good update s.0 e (stands_at (a.before update.table.0) rows chosen.stand s.0 s.1) s.2) h
      edited rows chosen (Err fault) is h = absurd (let no : ◌≡◌ {A = Result (List Change) EvalFault} (Err fault) (Ok cs) = h in cc)

      by : (r : Result Numbered EvalFault) → for_which a.evaluate update.filter (entries (a.before update.table.0)) ≡ r → (r >>= λ rows. all_or_least (map (one_updated a update) rows) >>= with_those_of_actions a) ≡ Ok cs → AreStanding cs
      by (Ok rows) is h = edited rows (are_chosen a.evaluate update.filter (a.before update.table.0) rows is) (all_or_least (map (one_updated a update) rows)) refl h
      by (Err fault) is h = absurd (let no : ◌≡◌ {A = Result (List Change) EvalFault} (Err fault) (Ok cs) = h in cc)

  -- ---- DELETE

  delete_standing : (delete : Delete) (cs : List Change) → of_delete a delete ≡ Ok cs → AreStanding cs
  delete_standing delete cs = by (for_which a.evaluate delete.filter (entries (a.before delete.table.0))) refl
    where
      by : (r : Result Numbered EvalFault) → for_which a.evaluate delete.filter (entries (a.before delete.table.0)) ≡ r → (r >>= λ rows. with_those_of_actions a (map (λ e. (name_in delete.table e.0, None)) rows)) ≡ Ok cs → AreStanding cs
      by (Ok rows) is h =
          acted_standing (map (λ e. (name_in delete.table e.0, None)) rows) cs (λ e found.
          let x = in_mapped (λ (e : ℕ × List Value). (name_in delete.table e.0, None)) rows e found in
          let good : Good (name_in delete.table x.0.0, None) = record {
            stands = ap is_some (stands_at (a.before delete.table.0) rows (are_chosen a.evaluate delete.filter (a.before delete.table.0) rows is).stand x.0 x.1);
            puts = λ values some own. absurd (none-some values some);
          } in
          subst Good x.2 good) h
      by (Err fault) is h = absurd (let no : ◌≡◌ {A = Result (List Change) EvalFault} (Err fault) (Ok cs) = h in cc)

  -- ---- every statement

  none_standing : (cs : List Change) → ◌≡◌ {A = Result (List Change) EvalFault} (Ok []) (Ok cs) → AreStanding cs
  none_standing cs h c found = absurd (nothing_in c (subst (λ (l : List Change). Contains l c) (sym (same_given [] cs h)) found))

  pub all_standing : (p : Plan) (cs : List Change) → tentative a p ≡ Ok cs → AreStanding cs
  all_standing (plan.Insert insert) cs h = insert_standing insert cs h
  all_standing (plan.Update update) cs h = update_standing update cs h
  all_standing (plan.Delete delete) cs h = delete_standing delete cs h
  all_standing (plan.Query query) cs h = none_standing cs h
  all_standing (plan.LockTable locked) cs h = none_standing cs h
  all_standing (plan.Define definition) cs h = none_standing cs h
  all_standing (plan.Session statement) cs h = none_standing cs h
