-- The rows that a statement and the actions of foreign keys put or delete stand before it, and what is put fits.
use Rattle.std.proofs.Common.{◌≡◌, inl, inr, ℕ, zero, suc, Bool, true, false, List, [], ◌∷◌, filter, fold, Option, None, Some, is_some, Result, Ok, Err, refl, sym, ap, subst, ◌∙◌}
use Rattle.std.specs.Prelude.{if◌then◌else◌}
use Rattle.std.specs.BTreeMap.{insert_entry}
use Rattle.std.specs.FinMap.{entries, get}
use Rattle.std.specs.List.{Contains, list_all}
use Rattle.std.specs.Option.{option_map_or, unwrap_or}
use Rattle.std.proofs.lemmas.Bool.{or_parts}
use Rattle.std.proofs.lemmas.Map.Views.{Contains-from_lookup}
use Rattle.hs_base.specs.declared.numbers.RowName.{RowName}
use Rattle.hs_plan.specs.declared.definition.Column.{Column}
use Rattle.hs_values.specs.declared.fault.EvalFault.{EvalFault}
use Rattle.hs_values.specs.declared.value.Value.{Value}
use Rattle.hs_values.specs.SqlType.{row_fits}
use Rattle.hs_rowtext.specs.Rows.{types_of}
use Rattle.hs_index.specs.Keys.{key_in}
use Rattle.hs_index.specs.Table.{Rows, has_key}
use Rattle.hs_changes.specs.Settings.{Maps}
use Rattle.hs_rel.specs.Selection.{unless}
use Rattle.hs_rel.proofs.Selecting.{at_head, from_filter, head_or_tail, in_tail, nothing_in}
use Rattle.hs_actions.specs.declared.reference.Reference.{Reference}
use Rattle.hs_actions.specs.Acting.{acts_at, effect}
use Rattle.hs_actions.specs.Referencing.{Keys, keys_on}
use Rattle.hs_actions.specs.Work.{Edits, Work, act, begun, child_name, children_of, edit_of, enough, has_acted, is_deleted, is_left_out, is_now, name_cmp, now_acted, settled, step, step_on, steps, take_key, take_keys, was, with_actions, worked}
use Rattle.hs_dml.proofs.Standing.{Entries, Stand, all_stand}
use Rattle.hs_effects.proofs.Names.{from_put, named_alike}
use Rattle.hs_validity.proofs.Fitting.{IsTyped, effect_fits, same_given}
use Rattle.hs_validity.proofs.Lists.{in_mapped}
use Rattle.hs_language.specs.Sound.{has_fitting_default}

-- ---- rows by their numbers

pub stands_at : (rows : Rows) (es : Entries) → Stand rows es → (e : ℕ × List Value) → Contains es e → get rows e.0 ≡ Some e.1
stands_at rows [] h e found = absurd (nothing_in e found)
stands_at rows (d ∷ ds) h e found = elim (head_or_tail d ds e found) [
  | inl is ↦ subst (λ (x : ℕ × List Value). get rows x.0 ≡ Some x.1) is h.0
  | inr later ↦ stands_at rows ds h.1 e later
]

-- a child row stands
child_stands : (before : Maps) (key : Reference) (old : List Value) (row : ℕ) → Contains (children_of before key old) row → is_some (get (before key.child.0) row) ≡ true
child_stands before key old row found =
    let rows = before key.child.0 in
    let test = λ (e : ℕ × List Value). has_key key.columns (key_in key.parent_columns old) (Some e.1) in
    let e = in_mapped (λ (e : ℕ × List Value). e.0) (filter test (entries rows)) row found in
    let kept = from_filter test (entries rows) e.0 e.1 in
    ap (λ (n : ℕ). is_some (get rows n)) (sym e.2) ∙ ap is_some (stands_at rows (entries rows) (all_stand rows) e.0 kept.0)

-- `columns` are those of each table, and `Own` says of which tables rows are known to fit
module _ (before : Maps) (columns : ℕ → List Column) (Own : ℕ → Type 0) (fitting : (table : ℕ) → list_all has_fitting_default (columns table) ≡ true)
    (fits : (table number : ℕ) (row : List Value) → Own table → get (before table) number ≡ Some row → row_fits (types_of (columns table)) row ≡ true) where
  abbrev pub FitsIn : ℕ → List Value → Type 0
  FitsIn table row = Own table → row_fits (types_of (columns table)) row ≡ true

  -- a row that is edited stands, and what it gets fits
  pub record IsGood (e : RowName × Option (List Value)) : Type 0 where
    pub stands : is_some (get (before e.0.table.0) e.0.row.0) ≡ true
    pub puts : (row : List Value) → e.1 ≡ Some row → FitsIn e.0.table.0 row

  abbrev pub AreGood : Edits → Type 0
  AreGood edits = (e : RowName × Option (List Value)) → Contains edits e → IsGood e

  good_more : (edits : Edits) (name : RowName) (values : Option (List Value)) → IsGood (name, values) → AreGood edits → AreGood (insert_entry name_cmp edits name values)
  good_more edits name values here good e found = elim (from_put name values edits e found) [
    | inl is ↦ subst IsGood (sym is) here
    | inr earlier ↦ good e earlier
  ]

  settled_good : (name : RowName) (work : Work) (r : Result (Option (List Value)) EvalFault) → ((o : Option (List Value)) → r ≡ Ok o → IsGood (name, o)) → AreGood work.edits → AreGood (settled name work r).edits
  settled_good name work (Ok values) here good = good_more work.edits name values (here values refl) good
  settled_good name work (Err fault) here good = good

  -- a row that isn't left out fits as it is now
  now_fits : (work : Work) (name : RowName) → is_deleted (edit_of work.edits name) ≡ false → is_some (get (before name.table.0) name.row.0) ≡ true → AreGood work.edits → FitsIn name.table.0 (unwrap_or (is_now before work.edits name) [])
  now_fits work name left stands good own = by (edit_of work.edits name) refl left
    where
      was_there : (o : Option (List Value)) → get (before name.table.0) name.row.0 ≡ o → is_some o ≡ true → row_fits (types_of (columns name.table.0)) (unwrap_or o []) ≡ true
      was_there None is some = absurd (let no : false ≡ true = some in cc)
      was_there (Some row) is some = fits name.table.0 name.row.0 row own is

      by : (o : Option (Option (List Value))) → edit_of work.edits name ≡ o → is_deleted o ≡ false → row_fits (types_of (columns name.table.0)) (unwrap_or (unwrap_or o (was before name)) []) ≡ true
      by None is not_gone = was_there (get (before name.table.0) name.row.0) refl stands
      by (Some None) is not_gone = absurd (let no : true ≡ false = not_gone in cc)
      by (Some (Some row)) is not_gone = (good (name, Some row) (Contains-from_lookup named_alike name (Some row) work.edits is)).puts row refl own

  act_good : (key : Reference) (new : Option (List Value)) (work : Work) (row : ℕ) → IsTyped (columns key.child.0) key → is_some (get (before key.child.0) row) ≡ true → AreGood work.edits → AreGood (act before key new work row).edits
  act_good key new work row typed stands good = by (is_left_out key work row) refl
    where
      name : RowName
      name = child_name key row

      old : List Value
      old = unwrap_or (is_now before work.edits (child_name key row)) []

      noted : Work
      noted = record work { acted = now_acted work.acted key.place row }

      by : (out : Bool) → is_left_out key work row ≡ out → AreGood (if out then work else settled (child_name key row) noted (effect key new old)).edits
      by true is = good
      by false is =
          settled_good (child_name key row) noted (effect key new old) (λ o given. record {
            stands = stands;
            puts = λ values some own.
                effect_fits (columns key.child.0) (fitting key.child.0) key typed new old o
                (now_fits work (child_name key row) (or_parts (is_deleted (edit_of work.edits (child_name key row))) (has_acted work.acted key.place row) is).0 stands good own) given values some;
          }) good

  acts_good : (key : Reference) (new : Option (List Value)) (rows : List ℕ) (work : Work) → IsTyped (columns key.child.0) key → ((row : ℕ) → Contains rows row → is_some (get (before key.child.0) row) ≡ true) → AreGood work.edits → AreGood (fold (act before key new) work rows).edits
  acts_good key new [] work typed stand good = good
  acts_good key new (row ∷ rows) work typed stand good =
      acts_good key new rows (act before key new work row) typed (λ other found. stand other (in_tail row rows other found)) (act_good key new work row typed (stand row (at_head row rows)) good)

  key_good : (name : RowName) (old : List Value) (work : Work) (key : Reference) → IsTyped (columns key.child.0) key → AreGood work.edits → AreGood (take_key before name old work key).edits
  key_good name old work key typed good = by (acts_at key old (is_now before work.edits name))
    where
      by : (acts : Bool) → AreGood (if acts then fold (act before key (is_now before work.edits name)) work (children_of before key old) else work).edits
      by true = acts_good key (is_now before work.edits name) (children_of before key old) work typed (child_stands before key old) good
      by false = good

  keys_good : (name : RowName) (old : List Value) (list : List Reference) (work : Work) → ((key : Reference) → Contains list key → IsTyped (columns key.child.0) key) → AreGood work.edits → AreGood (fold (take_key before name old) work list).edits
  keys_good name old [] work typed good = good
  keys_good name old (key ∷ list) work typed good =
      keys_good name old list (take_key before name old work key) (λ other found. typed other (in_tail key list other found)) (key_good name old work key (typed key (at_head key list)) good)

  module _ (keys : Keys) (typed : (table : ℕ) (key : Reference) → Contains (keys_on keys table) key → IsTyped (columns key.child.0) key) where
    taken_good : (name : RowName) (work : Work) → AreGood work.edits → AreGood (take_keys before keys name work).edits
    taken_good name work good = by (was before name)
      where
        by : (old : Option (List Value)) → AreGood (option_map_or (λ old. fold (take_key before name old) work (keys_on keys name.table.0)) old work).edits
        by None = good
        by (Some old) = keys_good name old (keys_on keys name.table.0) work (typed name.table.0) good

    step_good : (work : Work) (list : List RowName) → AreGood work.edits → AreGood (step_on before keys work list).edits
    step_good work [] good = good
    step_good work (name ∷ rest) good = taken_good name (record work { list = rest }) good

    steps_good : (n : ℕ) (work : Work) → AreGood work.edits → AreGood (steps n before keys work).edits
    steps_good zero work good = good
    steps_good (suc n) work good = steps_good n (step before keys work) (step_good work work.list good)

    -- so are those that actions change
    pub with_actions_good : (edits all : Edits) → AreGood edits → with_actions before keys edits ≡ Ok all → AreGood all
    with_actions_good edits all good is = by (worked before keys (begun edits)) (steps_good (enough before keys (begun edits)) (begun edits) good) is
      where
        from : (fault : Option EvalFault) (made : Edits) → AreGood made → unless fault made ≡ Ok all → AreGood all
        from None made at is = subst AreGood (same_given made all is) at
        from (Some fault) made at is = absurd (let no : ◌≡◌ {A = Result Edits EvalFault} (Err fault) (Ok all) = is in cc)

        by : (work : Work) → AreGood work.edits → unless work.fault work.edits ≡ Ok all → AreGood all
        by work at is = from work.fault work.edits at is
