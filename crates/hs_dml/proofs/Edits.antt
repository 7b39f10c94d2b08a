-- The rows that a statement changes itself.
use Rattle.std.proofs.Common.{◌≡◌, ℕ, List, [], ◌∷◌, ◌++◌, fold, map, Option, Some, None, Result, Ok, Err, refl, sym, ap, ◌∙◌, append_assoc, append-nil}
use Rattle.std.specs.BTreeMap.{insert_entry}
use Rattle.std.specs.Cmp.{nat_cmp_total, tied_itself}
use Rattle.std.specs.FinMap.{entries, get}
use Rattle.std.specs.List.{filter_map}
use Rattle.std.specs.Option.{option_map_or}
use Rattle.std.specs.Ordering.{nat_cmp, match_ordering, ordering_then}
use Rattle.std.specs.declared.cmp.Ordering.{Ordering}
use Rattle.std.specs.declared.cmp.Ordering.TheVariants.{Greater}
use Rattle.hs_base.specs.declared.numbers.RowName.{RowName}
use Rattle.hs_base.specs.declared.numbers.RowNo.{RowNo}
use Rattle.hs_base.specs.declared.numbers.TableNo.{TableNo}
use Rattle.hs_plan.specs.declared.change.Change.{Change}
use Rattle.hs_plan.specs.declared.plan.Delete.{Delete}
use Rattle.hs_plan.specs.declared.plan.Update.{Update}
use Rattle.hs_values.specs.declared.fault.EvalFault.{EvalFault}
use Rattle.hs_values.specs.declared.value.Value.{Value}
use Rattle.hs_values.specs.Outcome.{◌>>=◌}
use Rattle.hs_index.specs.Table.{Rows}
use Rattle.hs_rel.specs.Selection.{least, lesser_of, unless}
use Rattle.hs_actions.specs.Work.{Edits, name_cmp}
use Rattle.hs_expression.specs.Outcomes.{all_or_least, fault_in, value_in}
use Rattle.hs_tentative.specs.NewRows.{updated}
use Rattle.hs_tentative.specs.Statements.{Around, Numbered, for_which, name_in, of_delete, of_update, one_updated, with_those_of_actions}
use Rattle.hs_dml.specs.Rows.{Becoming, Edited, edited_at, edited_by_delete, edited_by_update, name_of, none_edited, number_of, numbers_for, with_edit}
use Rattle.hs_dml.proofs.Standing.{Above, Entries, Rise, Stand}
use Rattle.hs_dml.proofs.Choosing.{AreChosen, HasNumbers, are_chosen, has_fault, has_numbers}

abbrev pub Edit : Type 0
Edit = RowName × Option (List Value)

abbrev edit : TableNo → ℕ → Option (List Value) → Edit
edit table n values = (name_in table n, values)

module _ (table : TableNo) where
  -- ---- a row behind others

  -- the name of a number is above these
  abbrev Tops : ℕ → Edits → Type 0
  Tops n [] = Unit {0}
  Tops n (d ∷ ds) = (name_cmp (name_in table n) d.0 ≡ Greater) × Tops n ds

  -- those of all these are
  abbrev AllTop : Edits → Entries → Type 0
  AllTop edits [] = Unit {0}
  AllTop edits (e ∷ es) = Tops e.0 edits × AllTop edits es

  put_last : (n : ℕ) (values : Option (List Value)) (edits : Edits) → Tops n edits → insert_entry name_cmp edits (name_in table n) values ≡ edits ++ (name_in table n, values) ∷ []
  put_last n values [] h = refl
  put_last n values (d ∷ ds) h =
      ap (λ o. match_ordering o ((name_in table n, values) ∷ d ∷ ds) ((d.0, values) ∷ ds) (d ∷ insert_entry name_cmp ds (name_in table n) values)) h.0
      ∙ ap (λ es. d ∷ es) (put_last n values ds h.1)

  name_above : (a b : ℕ) → nat_cmp a b ≡ Greater → name_cmp (name_in table a) (name_in table b) ≡ Greater
  name_above a b h = ap (λ o. ordering_then o (nat_cmp a b)) (tied_itself nat_cmp_total table.0) ∙ h

  tops_more : (n m : ℕ) (values : Option (List Value)) (edits : Edits) → Tops n edits → nat_cmp n m ≡ Greater → Tops n (edits ++ (name_in table m, values) ∷ [])
  tops_more n m values [] h above = (name_above n m above, tt)
  tops_more n m values (d ∷ ds) h above = (h.0, tops_more n m values ds h.1 above)

  all_top_more : (m : ℕ) (values : Option (List Value)) (edits : Edits) (es : Entries) → AllTop edits es → Above m es → AllTop (edits ++ (name_in table m, values) ∷ []) es
  all_top_more m values edits [] h above = tt
  all_top_more m values edits (e ∷ es) h above = (tops_more e.0 m values edits h.0 above.0, all_top_more m values edits es h.1 above.1)

  none_topped : (es : Entries) → AllTop [] es
  none_topped [] = tt
  none_topped (e ∷ es) = (tt, none_topped es)

  -- ---- one row after another

  module _ (outcome : (ℕ × List Value) → Becoming) where
    abbrev one : (ℕ × List Value) → Result Edit EvalFault
    one e = outcome e >>= λ values. Ok (name_in table e.0, values)

    abbrev step : Edited → (ℕ × List Value) → Edited
    step so_far e = with_edit so_far (name_in table e.0) (outcome e)

    abbrev with_more : Edited → List (Result Edit EvalFault) → Edited
    with_more so_far all = record { edits = so_far.edits ++ filter_map value_in all; fault = fold lesser_of so_far.fault (filter_map fault_in all) }

    all_edited : (es : Entries) (so_far : Edited) → AllTop so_far.edits es → Rise es → fold step so_far es ≡ with_more so_far (map one es)
    all_edited [] so_far top rise = λ i. record { edits = sym (append-nil so_far.edits) i; fault = so_far.fault }
    all_edited (e ∷ es) so_far top rise = by (λ now above. all_edited es now above rise.1) (outcome e)
      where
        by : ((now : Edited) → AllTop now.edits es → fold step now es ≡ with_more now (map one es)) → (o : Becoming) → fold step (with_edit so_far (name_in table e.0) o) es ≡ with_more so_far ((o >>= λ values. Ok (name_in table e.0, values)) ∷ map one es)
        by more (Ok values) =
            let last : Edits = (name_in table e.0, values) ∷ [] in
            ap (λ (edits : Edits). fold step (record { edits = edits; fault = so_far.fault }) es) (put_last e.0 values so_far.edits top.0)
            ∙ more (record { edits = so_far.edits ++ last; fault = so_far.fault }) (all_top_more e.0 values so_far.edits es top.1 rise.0)
            ∙ (λ i. record { edits = append_assoc so_far.edits last (filter_map value_in (map one es)) i; fault = fold lesser_of so_far.fault (filter_map fault_in (map one es)) })
        by more (Err fault) = more (record so_far { fault = lesser_of so_far.fault fault }) top.1

    pub edited_told : (es : Entries) → Rise es → unless (fold step none_edited es).fault (fold step none_edited es).edits ≡ all_or_least (map one es)
    edited_told es rise = ap (λ (m : Edited). unless m.fault m.edits) (all_edited es none_edited (none_topped es) rise)

  -- the same by numbers
  by_numbers : (becomes : List Value → Becoming) (rows : Rows) (es : Entries) (so_far : Edited) → Stand rows es → fold (edited_at becomes table rows) so_far (map number_of es) ≡ fold (step (λ e. becomes e.1)) so_far es
  by_numbers becomes rows [] so_far h = refl
  by_numbers becomes rows (e ∷ es) so_far h =
      ap (λ (o : Option (List Value)). fold (edited_at becomes table rows) (option_map_or (λ values. with_edit so_far (name_in table e.0) (becomes values)) o so_far) (map number_of es)) h.0
      ∙ by_numbers becomes rows es (with_edit so_far (name_in table e.0) (becomes e.1)) h.1

  by_numbers_alone : (es : Entries) (so_far : Edited) → fold (λ so_far row. with_edit so_far (name_of table row) (Ok None)) so_far (map number_of es) ≡ fold (step (λ e. Ok None)) so_far es
  by_numbers_alone [] so_far = refl
  by_numbers_alone (e ∷ es) so_far = by_numbers_alone es (with_edit so_far (name_in table e.0) (Ok None))

-- ---- UPDATE

module _ (around : Around) (update : Update) where
  abbrev rows : Rows
  rows = around.before update.table.0

  abbrev becomes : List Value → Becoming
  becomes old = updated around.evaluate (around.columns update.table.0) update.assignments old >>= λ made. Ok (Some made)

  same_outcome : (e : ℕ × List Value) → one update.table (λ e. becomes e.1) e ≡ one_updated around update e
  same_outcome e = by (updated around.evaluate (around.columns update.table.0) update.assignments e.1)
    where
      by : (made : Result (List Value) EvalFault) → ((made >>= λ row. Ok (Some row)) >>= λ values. Ok (edit update.table e.0 values)) ≡ (made >>= λ row. Ok (edit update.table e.0 (Some row)))
      by (Ok row) = refl
      by (Err fault) = refl

  pub updated_told : (numbers : List RowNo) (made : Edited) → numbers_for around.evaluate update.filter (around.before update.table.0) ≡ Ok numbers → made ≡ fold (edited_at (λ old. updated around.evaluate (around.columns update.table.0) update.assignments old >>= λ made. Ok (Some made)) update.table (around.before update.table.0)) none_edited numbers → unless made.fault made.edits ≡ edited_by_update around update
  updated_told numbers made chosen folded =
      let has : HasNumbers around.evaluate update.filter rows numbers = has_numbers around.evaluate update.filter rows numbers chosen in
      let are : AreChosen rows has.es = are_chosen around.evaluate update.filter rows has.es has.chosen in
      ap (λ (m : Edited). unless m.fault m.edits) (folded ∙ ap (fold (edited_at becomes update.table rows) none_edited) has.numbers_are ∙ by_numbers update.table becomes rows has.es none_edited are.stand)
      ∙ edited_told update.table (λ e. becomes e.1) has.es are.rise
      ∙ (λ i. all_or_least (map (λ e. same_outcome e i) has.es))
      ∙ sym (ap (λ (w : Result Numbered EvalFault). w >>= λ es. all_or_least (map (one_updated around update) es)) has.chosen)

  pub update_failed : (fault : EvalFault) → numbers_for around.evaluate update.filter (around.before update.table.0) ≡ Err fault → edited_by_update around update ≡ Err fault
  update_failed fault is = ap (λ (w : Result Numbered EvalFault). w >>= λ es. all_or_least (map (one_updated around update) es)) (has_fault around.evaluate update.filter rows fault is)

-- ---- DELETE

module _ (around : Around) (delete : Delete) where
  abbrev gone : (ℕ × List Value) → Edit
  gone e = (name_in delete.table e.0, None)

  all_gone : (es : Entries) → filter_map value_in (map (one delete.table (λ e. Ok None)) es) ≡ map gone es
  all_gone [] = refl
  all_gone (e ∷ es) = ap (λ ds. gone e ∷ ds) (all_gone es)

  none_fails : (es : Entries) → filter_map fault_in (map (one delete.table (λ e. Ok None)) es) ≡ []
  none_fails [] = refl
  none_fails (e ∷ es) = none_fails es

  pub deleted_told : (numbers : List RowNo) (made : Edited) → numbers_for around.evaluate delete.filter (around.before delete.table.0) ≡ Ok numbers → made ≡ fold (λ so_far row. with_edit so_far (name_of delete.table row) (Ok None)) none_edited numbers → unless made.fault made.edits ≡ edited_by_delete around delete
  deleted_told numbers made chosen folded =
      let all : Rows = around.before delete.table.0 in
      let has : HasNumbers around.evaluate delete.filter all numbers = has_numbers around.evaluate delete.filter all numbers chosen in
      let are : AreChosen all has.es = are_chosen around.evaluate delete.filter all has.es has.chosen in
      ap (λ (m : Edited). unless m.fault m.edits)
      (folded
      ∙ ap (fold (λ so_far row. with_edit so_far (name_of delete.table row) (Ok None)) none_edited) has.numbers_are
      ∙ by_numbers_alone delete.table has.es none_edited
      ∙ all_edited delete.table (λ e. Ok None) has.es none_edited (none_topped delete.table has.es) are.rise)
      ∙ (λ i. unless (fold lesser_of None (none_fails has.es i)) (all_gone has.es i))
      ∙ sym (ap (λ (w : Result Numbered EvalFault). w >>= λ es. Ok (map (λ e. (name_in delete.table e.0, None)) es)) has.chosen)

  pub delete_failed : (fault : EvalFault) → numbers_for around.evaluate delete.filter (around.before delete.table.0) ≡ Err fault → edited_by_delete around delete ≡ Err fault
  delete_failed fault is = ap (λ (w : Result Numbered EvalFault). w >>= λ es. Ok (map (λ e. (name_in delete.table e.0, None)) es)) (has_fault around.evaluate delete.filter (around.before delete.table.0) fault is)

-- ---- with the actions

apart : {A B C : Type 0} (w : Result A EvalFault) (f : A → Result B EvalFault) (g : B → Result C EvalFault) → (w >>= λ x. f x >>= g) ≡ ((w >>= f) >>= g)
apart (Ok x) f g = refl
apart (Err fault) f g = refl

pub update_apart : (around : Around) (update : Update) → of_update around update ≡ (edited_by_update around update >>= with_those_of_actions around)
update_apart around update = apart (for_which around.evaluate update.filter (entries (around.before update.table.0))) (λ es. all_or_least (map (one_updated around update) es)) (with_those_of_actions around)

pub delete_apart : (around : Around) (delete : Delete) → of_delete around delete ≡ (edited_by_delete around delete >>= with_those_of_actions around)
delete_apart around delete = apart (for_which around.evaluate delete.filter (entries (around.before delete.table.0))) (λ es. Ok (map (λ e. (name_in delete.table e.0, None)) es)) (with_those_of_actions around)
