-- What the rows of a statement come to, one row after another.
use Rattle.std.specs.Prelude.{ℕ, List, [], ◌∷◌, ◌++◌, map, Option, None, Some, Result, Ok, Err, if◌then◌else◌}
use Rattle.std.specs.BTreeMap.{BTreeMap, insert_entry}
use Rattle.std.specs.FinMap.{entries, get}
use Rattle.std.specs.Option.{option_map_or}
use Rattle.hs_base.specs.declared.numbers.RowName.{RowName}
use Rattle.hs_base.specs.declared.numbers.RowNo.{RowNo}
use Rattle.hs_base.specs.declared.numbers.TableNo.{TableNo}
use Rattle.hs_plan.specs.declared.change.Change.{Change}
use Rattle.hs_plan.specs.declared.change.Change.TheVariants as change
use Rattle.hs_plan.specs.declared.definition.Column.{Column}
use Rattle.hs_plan.specs.declared.expression.Expr.{Expr}
use Rattle.hs_plan.specs.declared.plan.Delete.{Delete}
use Rattle.hs_plan.specs.declared.plan.Update.{Update}
use Rattle.hs_values.specs.declared.fault.EvalFault.{EvalFault}
use Rattle.hs_values.specs.declared.value.Value.{Value}
use Rattle.hs_values.specs.Outcome.{◌>>=◌}
use Rattle.hs_index.specs.Table.{Rows}
use Rattle.hs_rel.specs.Selection.{Verdict, is_true, lesser_of}
use Rattle.hs_actions.specs.Work.{Edits, name_cmp}
use Rattle.hs_expression.specs.Outcomes.{all_or_least}
use Rattle.hs_tentative.specs.NewRows.{Evaluate, taken_in, updated}
use Rattle.hs_tentative.specs.Statements.{Around, for_which, name_in, one_updated}
use Rattle.hs_dml.specs.declared.chosen.Chosen.{Chosen}
use Rattle.hs_dml.specs.declared.editing.Editing.{Editing}
use Rattle.hs_dml.specs.declared.inserting.Inserting.{Inserting}

abbrev pub number_of : (ℕ × List Value) → RowNo
number_of e = record { 0 = e.0 }

abbrev pub name_of : TableNo → RowNo → RowName
name_of table row = record { table = table; row = row }

-- ---- the rows for which a condition is TRUE

abbrev pub none_chosen : Chosen
none_chosen = record { rows = []; fault = None }

-- a row is chosen where the condition is TRUE for it
abbrev pub with_verdict : Chosen → RowNo → Result Value EvalFault → Chosen
with_verdict so_far row (Ok value) = if is_true (Ok value) then record so_far { rows = so_far.rows ++ row ∷ [] } else so_far
with_verdict so_far row (Err fault) = record so_far { fault = lesser_of so_far.fault fault }

abbrev pub judged_at : Rows → Verdict → Chosen → RowNo → Chosen
judged_at rows verdict so_far row = option_map_or (λ values. with_verdict so_far row (verdict values)) (get rows row.0) so_far

-- the numbers of the rows for which a condition is TRUE, or the least of its faults
abbrev pub numbers_for : Evaluate → Option Expr → Rows → Result (List RowNo) EvalFault
numbers_for evaluate condition rows = for_which evaluate condition (entries rows) >>= λ found. Ok (map number_of found)

-- ---- the rows that are changed

-- what a row becomes: None where it is deleted
abbrev pub Becoming : Type 0
Becoming = Result (Option (List Value)) EvalFault

-- what a row becomes by an UPDATE
abbrev pub becomes : Evaluate → List Column → Update → List Value → Becoming
becomes evaluate columns update old = updated evaluate columns update.assignments old >>= λ made. Ok (Some made)

-- the edits so far, and the least fault so far
pub record Edited : Type 0 where
  pub edits : Edits
  pub fault : Option EvalFault

abbrev pub none_edited : Edited
none_edited = record { edits = []; fault = None }

abbrev pub edited_by : Editing → Edited
edited_by e = record { edits = e.rows.entries; fault = e.fault }

abbrev pub with_edit : Edited → RowName → Becoming → Edited
with_edit so_far name (Ok values) = record so_far { edits = insert_entry name_cmp so_far.edits name values }
with_edit so_far name (Err fault) = record so_far { fault = lesser_of so_far.fault fault }

abbrev pub edited_at : (List Value → Becoming) → TableNo → Rows → Edited → RowNo → Edited
edited_at becomes table rows so_far row = option_map_or (λ values. with_edit so_far (name_of table row) (becomes values)) (get rows row.0) so_far

abbrev pub entries_in : Result (BTreeMap RowName (Option (List Value))) EvalFault → Result Edits EvalFault
entries_in (Ok edits) = Ok edits.entries
entries_in (Err fault) = Err fault

-- the rows that an UPDATE changes itself, or its least fault
abbrev pub edited_by_update : Around → Update → Result Edits EvalFault
edited_by_update around update =
    for_which around.evaluate update.filter (entries (around.before update.table.0)) >>= λ rows. all_or_least (map (one_updated around update) rows)

-- the rows that a DELETE deletes itself, or the least fault of its condition
abbrev pub edited_by_delete : Around → Delete → Result Edits EvalFault
edited_by_delete around delete =
    for_which around.evaluate delete.filter (entries (around.before delete.table.0)) >>= λ rows. Ok (map (λ e. (name_in delete.table e.0, None)) rows)

-- ---- the rows that are inserted

-- the rows that a query gives, as columns at these places take them in
abbrev pub taken : List Column → List ℕ → Result (List (List Value)) EvalFault → Result (List (List Value)) EvalFault
taken columns places given = given >>= λ rows. all_or_least (map (taken_in columns places) rows)

-- the changes that insert these rows
abbrev pub inserts : TableNo → Result (List (List Value)) EvalFault → Result (List Change) EvalFault
inserts table given = given >>= λ rows. Ok (map (change.Insert table) rows)

abbrev pub none_inserted : Inserting
none_inserted = record { changes = []; fault = None }

abbrev pub with_row : TableNo → Inserting → Result (List Value) EvalFault → Inserting
with_row table so_far (Ok row) = record so_far { changes = so_far.changes ++ change.Insert table row ∷ [] }
with_row table so_far (Err fault) = record so_far { fault = lesser_of so_far.fault fault }
