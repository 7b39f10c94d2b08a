-- Data statements define nothing.
use Rattle.std.proofs.Common.{◌≡◌, false, List, [], ◌∷◌, map, None, Some, Result, Ok, Err, refl}
use Rattle.std.specs.FinMap.{entries}
use Rattle.std.specs.List.{list_any}
use Rattle.hs_base.specs.declared.numbers.TableNo.{TableNo}
use Rattle.hs_plan.specs.declared.change.Change.{Change}
use Rattle.hs_plan.specs.declared.change.Change.TheVariants as change
use Rattle.hs_plan.specs.declared.plan.Delete.{Delete}
use Rattle.hs_plan.specs.declared.plan.Insert.{Insert}
use Rattle.hs_plan.specs.declared.plan.Update.{Update}
use Rattle.hs_values.specs.declared.fault.EvalFault.{EvalFault}
use Rattle.hs_values.specs.declared.value.Value.{Value}
use Rattle.hs_values.specs.Outcome.{◌>>=◌}
use Rattle.hs_actions.specs.Work.{Edits, change_of, with_actions}
use Rattle.hs_expression.specs.Outcomes.{all_or_least}
use Rattle.hs_tentative.specs.Statements.{Around, Numbered, for_which, name_in, of_delete, of_insert, of_update, one_updated, rows_from, with_those_of_actions}
use Rattle.hs_turns.specs.Database.{is_definition}

abbrev pub DefineNothing : Result (List Change) EvalFault → Type 0
DefineNothing (Ok changes) = list_any is_definition changes ≡ false
DefineNothing (Err fault) = Unit {0}

edits_define : (edits : Edits) → list_any is_definition (map change_of edits) ≡ false
edits_define [] = refl
edits_define ((name, Some values) ∷ edits) = edits_define edits
edits_define ((name, None) ∷ edits) = edits_define edits

rows_define : (table : TableNo) (rows : List (List Value)) → list_any is_definition (map (change.Insert table) rows) ≡ false
rows_define table [] = refl
rows_define table (row ∷ rows) = rows_define table rows

module _ (around : Around) where
  acted : (edits : Edits) → DefineNothing (with_those_of_actions around edits)
  acted edits = by (with_actions around.before around.keys edits)
    where
      by : (given : Result Edits EvalFault) → DefineNothing (given >>= λ done. Ok (map change_of done))
      by (Ok done) = edits_define done
      by (Err fault) = tt

  pub insert_defines : (insert : Insert) → DefineNothing (of_insert around insert)
  insert_defines insert = by (rows_from around (around.columns insert.table.0) insert.columns insert.source)
    where
      by : (given : Result (List (List Value)) EvalFault) → DefineNothing (given >>= λ rows. Ok (map (change.Insert insert.table) rows))
      by (Ok rows) = rows_define insert.table rows
      by (Err fault) = tt

  pub update_defines : (update : Update) → DefineNothing (of_update around update)
  update_defines update = chosen (for_which around.evaluate update.filter (entries (around.before update.table.0)))
    where
      edited : (given : Result Edits EvalFault) → DefineNothing (given >>= with_those_of_actions around)
      edited (Ok edits) = acted edits
      edited (Err fault) = tt

      chosen : (given : Result Numbered EvalFault) → DefineNothing (given >>= λ rows. all_or_least (map (one_updated around update) rows) >>= with_those_of_actions around)
      chosen (Ok rows) = edited (all_or_least (map (one_updated around update) rows))
      chosen (Err fault) = tt

  pub delete_defines : (delete : Delete) → DefineNothing (of_delete around delete)
  delete_defines delete = by (for_which around.evaluate delete.filter (entries (around.before delete.table.0)))
    where
      by : (given : Result Numbered EvalFault) → DefineNothing (given >>= λ rows. with_those_of_actions around (map (λ e. (name_in delete.table e.0, None)) rows))
      by (Ok rows) = acted (map (λ e. (name_in delete.table e.0, None)) rows)
      by (Err fault) = tt
