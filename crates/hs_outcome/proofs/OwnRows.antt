-- How many rows an UPDATE or a DELETE changes itself.
use Rattle.std.proofs.Common.{◌≡◌, ℕ, zero, suc, List, [], ◌∷◌, length, map, fold, Option, Some, None, Result, Ok, Err, refl, sym, ap, subst, ◌∙◌}
use Rattle.std.specs.FinMap.{entries}
use Rattle.std.proofs.lemmas.List.{length-map}
use Rattle.std.specs.Option.{option_map_or}
use Rattle.hs_base.specs.declared.numbers.RowName.{RowName}
use Rattle.hs_base.specs.declared.numbers.TableNo.{TableNo}
use Rattle.hs_plan.specs.declared.change.Change.{Change}
use Rattle.hs_plan.specs.declared.definition.Column.{Column}
use Rattle.hs_plan.specs.declared.plan.Delete.{Delete}
use Rattle.hs_plan.specs.declared.plan.Plan.{Plan}
use Rattle.hs_plan.specs.declared.plan.Plan.TheVariants as p
use Rattle.hs_plan.specs.declared.plan.Update.{Update}
use Rattle.hs_values.specs.declared.fault.EvalFault.{EvalFault}
use Rattle.hs_values.specs.declared.value.Value.{Value}
use Rattle.hs_values.specs.Outcome.{◌>>=◌}
use Rattle.hs_rel.specs.Selection.{unless}
use Rattle.hs_changes.specs.Settings.{Maps}
use Rattle.hs_actions.specs.Referencing.{Keys, keys_on}
use Rattle.hs_actions.specs.Work.{Edits, Work, begun, change_of, enough, step_on, steps, take_key, take_keys, was, with_actions}
use Rattle.hs_answer.specs.Answer.{evaluated}
use Rattle.hs_answer_laws.proofs.Outcomes.{all_given}
use Rattle.hs_dml.specs.Told.{tentative}
use Rattle.hs_effects.specs.Effects.{around_in}
use Rattle.hs_expression.specs.Outcomes.{all_or_least}
use Rattle.hs_language.specs.Outcomes.{count_of, own_count}
use Rattle.hs_tentative.specs.NewRows.{updated}
use Rattle.hs_tentative.specs.Statements.{Numbered, for_which, name_in, of_delete, of_update, one_updated, with_those_of_actions}
use Rattle.hs_outcome.specs.Counted.{acting_table}

-- ---- rows on which no foreign key acts

-- all these rows are of one table
abbrev pub AreOfTable : ℕ → List RowName → Type 0
AreOfTable t [] = Unit {0}
AreOfTable t (name ∷ names) = (name.table.0 ≡ t) × AreOfTable t names

abbrev pub names_of : Edits → List RowName
names_of edits = map (λ e. e.0) edits

module _ (before : Maps) (keys : Keys) (t : ℕ) (none : keys_on keys t ≡ []) where
  nothing_taken : (name : RowName) (w : Work) → name.table.0 ≡ t → take_keys before keys name w ≡ w
  nothing_taken name w own = by (was before name)
    where
      by : (o : Option (List Value)) → option_map_or (λ old. fold (take_key before name old) w (keys_on keys name.table.0)) o w ≡ w
      by None = refl
      by (Some old) = ap (fold (take_key before name old) w) (ap (keys_on keys) own ∙ none)

  -- the list is worked, and no row is changed more
  idle : (n : ℕ) (list : List RowName) (w : Work) → w.list ≡ list → AreOfTable t list → ((steps n before keys w).edits ≡ w.edits) × ((steps n before keys w).fault ≡ w.fault)
  idle zero list w is own = (refl, refl)
  idle (suc n) [] w is own = subst (λ (v : Work). ((steps n before keys v).edits ≡ w.edits) × ((steps n before keys v).fault ≡ w.fault)) (sym (ap (step_on before keys w) is)) (idle n [] w is own)
  idle (suc n) (name ∷ rest) w is own =
      subst (λ (v : Work). ((steps n before keys v).edits ≡ w.edits) × ((steps n before keys v).fault ≡ w.fault))
      (sym (ap (step_on before keys w) is ∙ nothing_taken name (record w { list = rest }) own.0))
      (idle n rest (record w { list = rest }) refl own.1)

  pub no_actions : (edits : Edits) → AreOfTable t (names_of edits) → with_actions before keys edits ≡ Ok edits
  no_actions edits own =
      let done = idle (enough before keys (begun edits)) (names_of edits) (begun edits) refl own in
      λ i. unless (done.1 i) (done.0 i)

-- ---- its own rows

-- the rows that a statement changes itself: with no foreign key on their table they are all
pub record Own (tables : Maps) (columns : ℕ → List Column) (keys : Keys) (p : Plan) (table : TableNo) (changes : List Change) : Type 0 where
  pub edits : Edits
  pub alone : (others : Keys) → keys_on others table.0 ≡ [] → tentative (around_in tables columns others) p ≡ Ok (map change_of edits)
  pub count : length edits ≡ own_count (around_in tables columns keys) p changes

abbrev values_or : {A : Type 0} → A → Result A EvalFault → A
values_or a (Ok x) = x
values_or a (Err fault) = a

abbrev head_or : {A : Type 0} → A → List A → A
head_or a [] = a
head_or a (x ∷ xs) = x

abbrev tail_of : {A : Type 0} → List A → List A
tail_of [] = []
tail_of (x ∷ xs) = xs

module _ (tables : Maps) (columns : ℕ → List Column) (keys : Keys) where
  -- ---- UPDATE

  one_of_table : (update : Update) (e : ℕ × List Value) (x : RowName × Option (List Value)) → one_updated (around_in tables columns keys) update e ≡ Ok x → x.0.table.0 ≡ update.table.0
  one_of_table update e x h = by (updated (evaluated tables) (columns update.table.0) update.assignments e.1) h
    where
      by : (r : Result (List Value) EvalFault) → (r >>= λ row. Ok (name_in update.table e.0, Some row)) ≡ Ok x → x.0.table.0 ≡ update.table.0
      by (Ok row) is = ap (λ (r : Result (RowName × Option (List Value)) EvalFault). (values_or x r).0.table.0) (sym is)
      by (Err fault) is = absurd (let no : Err fault ≡ Ok x = is in cc)

  updated_of_table : (update : Update) (rows : Numbered) (edits : Edits) → map (one_updated (around_in tables columns keys) update) rows ≡ map Ok edits → AreOfTable update.table.0 (names_of edits)
  updated_of_table update rows [] h = tt
  updated_of_table update [] (x ∷ xs) h = absurd (let no : [] ≡ Ok x ∷ map Ok xs = h in cc)
  updated_of_table update (e ∷ es) (x ∷ xs) h = (one_of_table update e x (ap (head_or (Ok x)) h), updated_of_table update es xs (ap tail_of h))

  update_alone : (update : Update) (table : TableNo) (changes : List Change) → update.table ≡ table → of_update (around_in tables columns keys) update ≡ Ok changes → Own tables columns keys (p.Update update) table changes
  update_alone update table changes same h = by (for_which (evaluated tables) update.filter (entries (tables update.table.0))) refl h
    where
      at : (rows : Numbered) → for_which (evaluated tables) update.filter (entries (tables update.table.0)) ≡ Ok rows
          → (r : Result Edits EvalFault) → all_or_least (map (one_updated (around_in tables columns keys) update) rows) ≡ r → (r >>= with_those_of_actions (around_in tables columns keys)) ≡ Ok changes → Own tables columns keys (p.Update update) table changes
      at rows chosen (Err fault) made is = absurd (let no : Err fault ≡ Ok changes = is in cc)
      at rows chosen (Ok edits) made is =
          let each = all_given (map (one_updated (around_in tables columns keys) update) rows) edits made in
          record {
            edits = edits;
            alone = λ others none.
                ap (λ (w : Result Numbered EvalFault). w >>= λ rows. all_or_least (map (one_updated (around_in tables columns others) update) rows) >>= with_those_of_actions (around_in tables columns others)) chosen
                ∙ ap (λ (r : Result Edits EvalFault). r >>= with_those_of_actions (around_in tables columns others)) made
                ∙ ap (λ (r : Result Edits EvalFault). r >>= λ all. Ok (map change_of all)) (no_actions tables others update.table.0 (ap (λ (t : TableNo). keys_on others t.0) same ∙ none) edits (updated_of_table update rows edits each));
            count = sym (length-map edits Ok) ∙ sym (ap length each) ∙ length-map rows (one_updated (around_in tables columns keys) update) ∙ sym (ap count_of chosen);
          }

      by : (w : Result Numbered EvalFault) → for_which (evaluated tables) update.filter (entries (tables update.table.0)) ≡ w
          → (w >>= λ rows. all_or_least (map (one_updated (around_in tables columns keys) update) rows) >>= with_those_of_actions (around_in tables columns keys)) ≡ Ok changes → Own tables columns keys (p.Update update) table changes
      by (Err fault) chosen is = absurd (let no : Err fault ≡ Ok changes = is in cc)
      by (Ok rows) chosen is = at rows chosen (all_or_least (map (one_updated (around_in tables columns keys) update) rows)) refl is

  -- ---- DELETE

  abbrev gone : Delete → (ℕ × List Value) → RowName × Option (List Value)
  gone delete e = (name_in delete.table e.0, None)

  deleted_of_table : (delete : Delete) (rows : Numbered) → AreOfTable delete.table.0 (names_of (map (gone delete) rows))
  deleted_of_table delete [] = tt
  deleted_of_table delete (e ∷ es) = (refl, deleted_of_table delete es)

  delete_alone : (delete : Delete) (table : TableNo) (changes : List Change) → delete.table ≡ table → of_delete (around_in tables columns keys) delete ≡ Ok changes → Own tables columns keys (p.Delete delete) table changes
  delete_alone delete table changes same h = by (for_which (evaluated tables) delete.filter (entries (tables delete.table.0))) refl h
    where
      by : (w : Result Numbered EvalFault) → for_which (evaluated tables) delete.filter (entries (tables delete.table.0)) ≡ w
          → (w >>= λ rows. with_those_of_actions (around_in tables columns keys) (map (gone delete) rows)) ≡ Ok changes → Own tables columns keys (p.Delete delete) table changes
      by (Err fault) chosen is = absurd (let no : Err fault ≡ Ok changes = is in cc)
      by (Ok rows) chosen is = record {
        edits = map (gone delete) rows;
        alone = λ others none.
            ap (λ (w : Result Numbered EvalFault). w >>= λ rows. with_those_of_actions (around_in tables columns others) (map (gone delete) rows)) chosen
            ∙ ap (λ (r : Result Edits EvalFault). r >>= λ all. Ok (map change_of all)) (no_actions tables others delete.table.0 (ap (λ (t : TableNo). keys_on others t.0) same ∙ none) (map (gone delete) rows) (deleted_of_table delete rows));
        count = length-map rows (gone delete) ∙ sym (ap count_of chosen);
      }

  -- ---- both

  pub own_of : (p : Plan) (table : TableNo) (changes : List Change) → acting_table p ≡ Some table → tentative (around_in tables columns keys) p ≡ Ok changes → Own tables columns keys p table changes
  own_of (p.Update update) table changes acts h = update_alone update table changes (ap (λ (o : Option TableNo). option_map_or (λ t. t) o table) acts) h
  own_of (p.Delete delete) table changes acts h = delete_alone delete table changes (ap (λ (o : Option TableNo). option_map_or (λ t. t) o table) acts) h
  own_of (p.Query query) table changes acts h = absurd (let no : None ≡ Some table = acts in cc)
  own_of (p.Insert insert) table changes acts h = absurd (let no : None ≡ Some table = acts in cc)
  own_of (p.LockTable locked) table changes acts h = absurd (let no : None ≡ Some table = acts in cc)
  own_of (p.Define definition) table changes acts h = absurd (let no : None ≡ Some table = acts in cc)
  own_of (p.Session statement) table changes acts h = absurd (let no : None ≡ Some table = acts in cc)

  -- where no foreign key is on its table, its changes are of its own rows
  pub all_own : (p : Plan) (table : TableNo) (changes : List Change) → acting_table p ≡ Some table → keys_on keys table.0 ≡ [] → tentative (around_in tables columns keys) p ≡ Ok changes
      → length changes ≡ own_count (around_in tables columns keys) p changes
  all_own p table changes acts none h =
      let own = own_of p table changes acts h in
      ap (λ (r : Result (List Change) EvalFault). length (values_or [] r)) (sym h ∙ own.alone keys none) ∙ length-map own.edits change_of ∙ own.count

  -- any other statement has no rows but those that it puts
  pub none_act : (p : Plan) (changes : List Change) → acting_table p ≡ None → tentative (around_in tables columns keys) p ≡ Ok changes → length changes ≡ own_count (around_in tables columns keys) p changes
  none_act (p.Insert insert) changes acts h = refl
  none_act (p.Query query) changes acts h = sym (ap (λ (r : Result (List Change) EvalFault). length (values_or [] r)) h)
  none_act (p.LockTable locked) changes acts h = sym (ap (λ (r : Result (List Change) EvalFault). length (values_or [] r)) h)
  none_act (p.Define definition) changes acts h = sym (ap (λ (r : Result (List Change) EvalFault). length (values_or [] r)) h)
  none_act (p.Session statement) changes acts h = sym (ap (λ (r : Result (List Change) EvalFault). length (values_or [] r)) h)
  none_act (p.Update update) changes acts h = absurd (let no : Some update.table ≡ None = acts in cc)
  none_act (p.Delete delete) changes acts h = absurd (let no : Some delete.table ≡ None = acts in cc)
