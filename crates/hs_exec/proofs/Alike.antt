-- Foreign keys by the tables that they reference, told by another list.
use Rattle.std.proofs.Common.{◌≡◌, ℕ, true, List, map, None, Result, Ok, refl, sym, ap, ◌∙◌}
use Rattle.std.specs.FinMap.{entries}
use Rattle.hs_base.specs.declared.numbers.TableNo.{TableNo}
use Rattle.hs_plan.specs.declared.change.Change.{Change}
use Rattle.hs_plan.specs.declared.plan.Delete.{Delete}
use Rattle.hs_plan.specs.declared.plan.Plan.{Plan}
use Rattle.hs_plan.specs.declared.plan.Plan.TheVariants as p
use Rattle.hs_plan.specs.declared.plan.Update.{Update}
use Rattle.hs_values.specs.declared.fault.EvalFault.{EvalFault}
use Rattle.hs_values.specs.Outcome.{◌>>=◌}
use Rattle.hs_schema.specs.Catalogue.{Things}
use Rattle.hs_changes.specs.Settings.{Maps}
use Rattle.hs_actions.specs.Referencing.{Keys, keys_on}
use Rattle.hs_actions.specs.Work.{change_of}
use Rattle.hs_answer.specs.Answer.{evaluated}
use Rattle.hs_dml.specs.Told.{columns_in}
use Rattle.hs_effects.specs.Effects.{around_in}
use Rattle.hs_expression.specs.Outcomes.{all_or_least}
use Rattle.hs_references.specs.Referenced.{AreOf}
use Rattle.hs_tentative.specs.Statements.{for_which, name_in, of_delete, of_update, one_updated}
use Rattle.hs_exec.specs.declared.answer.Answer.TheVariants as a
use Rattle.hs_exec.specs.Executed.{executed}
use Rattle.hs_exec.specs.Needed.{needs_keys}
use Rattle.hs_exec.proofs.Worked.{told_alike}

module _ (tables : Maps) (things : Things) (k l : Keys) (alike : (t : ℕ) → keys_on k t ≡ keys_on l t) where
  update_alike : (update : Update) → of_update (around_in tables (columns_in things) k) update ≡ of_update (around_in tables (columns_in things) l) update
  update_alike update =
      λ i. for_which (evaluated tables) update.filter (entries (tables update.table.0)) >>= λ rows.
      all_or_least (map (one_updated (around_in tables (columns_in things) k) update) rows) >>= λ edits.
      told_alike tables k l alike edits i >>= λ all. Ok (map change_of all)

  delete_alike : (delete : Delete) → of_delete (around_in tables (columns_in things) k) delete ≡ of_delete (around_in tables (columns_in things) l) delete
  delete_alike delete =
      λ i. for_which (evaluated tables) delete.filter (entries (tables delete.table.0)) >>= λ rows.
      told_alike tables k l alike (map (λ e. (name_in delete.table e.0, None)) rows) i >>= λ all. Ok (map change_of all)

-- what a statement gives is told by the foreign keys of the catalogue, however they are listed
pub executed_alike : (tables : Maps) (things : Things) (k l : Keys) (plan : Plan) → (needs_keys plan ≡ true → AreOf things k) → AreOf things l → executed tables things k plan ≡ executed tables things l plan
executed_alike tables things k l (p.Query query) needs are = refl
executed_alike tables things k l (p.Insert insert) needs are = refl
executed_alike tables things k l (p.Update update) needs are =
    ap (λ (given : Result (List Change) EvalFault). given >>= λ changes. Ok (a.Changes changes)) (update_alike tables things k l (λ t. let table : TableNo = record { 0 = t } in needs refl table ∙ sym (are table)) update)
executed_alike tables things k l (p.Delete delete) needs are =
    ap (λ (given : Result (List Change) EvalFault). given >>= λ changes. Ok (a.Changes changes)) (delete_alike tables things k l (λ t. let table : TableNo = record { 0 = t } in needs refl table ∙ sym (are table)) delete)
executed_alike tables things k l (p.LockTable all) needs are = refl
executed_alike tables things k l (p.Define definition) needs are = refl
executed_alike tables things k l (p.Session statement) needs are = refl
