-- What a statement means is no want of memory.
use Rattle.std.proofs.Common.{◌≡◌, ℕ, ◌+◌, ◌-◌, ◌^◌, ◌<◌, ◌≤◌, true, List, [], ◌∷◌, ◌++◌, length, map, Option, Some, None, Result, Ok, Err, refl, sym, ap, ◌∙◌, subst, arith, length-append}
use Rattle.std.proofs.lemmas.List.{length-map}
use Rattle.hs_ast.specs.declared.definition.AlterAction.{AlterAction}
use Rattle.hs_ast.specs.declared.definition.AlterAction.TheVariants as action
use Rattle.hs_ast.specs.declared.definition.CreateIndex.{CreateIndex}
use Rattle.hs_ast.specs.declared.definition.TableConstraint.{TableConstraint}
use Rattle.hs_ast.specs.declared.definition.TableElement.{TableElement}
use Rattle.hs_ast.specs.declared.statement.Stmt.{Stmt}
use Rattle.hs_ast.specs.declared.statement.Stmt.TheVariants as s
use Rattle.hs_ast.specs.declared.word.Identifier.{Identifier}
use Rattle.hs_statements.specs.Answers.{answer, answer_by, answer_of}
use Rattle.hs_statements.specs.Bound.{HasFreeNames, altered, bound, by_names, constraints_added, index_on, named}
use Rattle.hs_statements.specs.Naming.{all_numbers, free_from, name_by, named_first, names_from}
use Rattle.hs_statements.proofs.KnownChanges.{delete_met, insert_met, locks_met, update_met}
use Rattle.hs_statements.proofs.KnownDefinitions.{HasFirst, column_added_met, constraint_added_met, constraint_dropped_met, index_created_met, index_dropped_met, no_table_met, table_created_met, table_dropped_met}
use Rattle.hs_statements.proofs.KnownParts.{IsKnown, IsMet, known_map}
use Rattle.hs_statements.proofs.KnownTrees.{query_known}
use Rattle.hs_statements.proofs.Naming.{all_taken, mapped}
use Rattle.hs_statements.proofs.Numbers.{one_number}
use Rattle.hs_statements.proofs.Taken.{no_fewer, taken_among}
use Rattle.hs_drops.specs.Definitions.{constraint_dropped, index_created, index_dropped, no_table, table_dropped}
use Rattle.hs_elements.specs.Faults.{Text, is_among}
use Rattle.hs_elements.specs.Names.{numbered}
use Rattle.hs_elements.specs.declared.names.ConstraintKind.{ConstraintKind}
use Rattle.hs_meaning.specs.Parts.{Meaning}
use Rattle.hs_meaning.specs.Statements.{query_meaning}
use Rattle.hs_meaning.specs.Surroundings.{outermost}
use Rattle.hs_outlines.specs.Named.{is_taken, kind_of_table, written}
use Rattle.hs_outlines.specs.declared.written.Written.{Written}
use Rattle.hs_plan.specs.Fault.{answer_at}
use Rattle.hs_plan.specs.declared.fault.BindFault.{BindFault}
use Rattle.hs_plan.specs.declared.fault.BindFault.TheVariants.{NoMemory}
use Rattle.hs_plan.specs.declared.fault.Cause.{Cause}
use Rattle.hs_plan.specs.declared.fault.Cause.TheVariants as c
use Rattle.hs_plan.specs.declared.fault.PlacedFault.{PlacedFault}
use Rattle.hs_plan.specs.declared.plan.Plan.{Plan}
use Rattle.hs_plan.specs.declared.plan.Plan.TheVariants as plan
use Rattle.hs_schema.specs.Catalogue.{Things, owned, table_named}
use Rattle.hs_schema.specs.declared.table.Table.{Table}
use Rattle.hs_statements.specs.Statements.{Answer, as_plan}
use Rattle.hs_tables.specs.Answers.{ByNames}
use Rattle.hs_tables.specs.Definitions.{by_column, by_constraint, column_added, constraint_added, table_created}
use Rattle.hs_typed.specs.Faults.{least}
use Rattle.hs_typed.proofs.Least.{no_fault}
use Rattle.hs_writing.specs.Statements.{delete_meaning, insert_meaning, locks_meaning, update_meaning}

abbrev IsThere : {A : Type 0} → Result A BindFault → Type 0
IsThere {A} r = r ≡ Err NoMemory → ⊥

-- ---- answers

reason : (at : ℕ) (why : Cause) → answer_at at why ≡ NoMemory → ⊥
reason at (c.NoSuchTable name) e = cc
reason at (c.NoSuchColumn name) e = cc
reason at (c.Exists name) e = cc
reason at (c.Ambiguous name) e = cc
reason at c.Types e = cc
reason at c.Count e = cc
reason at (c.Limit which) e = cc

same_fault : {A : Type 0} (f : BindFault) (r : Result A BindFault) → r ≡ Err f → r ≡ Err NoMemory → f ≡ NoMemory
same_fault f r is e = cc

module _ {A : Type 0} where
  part_there : (part : Option A) → IsKnown part → IsThere (answer_by None part)
  part_there (Some a) h = λ e. cc
  part_there None h = absurd h

  answer_there : (faults : List PlacedFault) (o : Option PlacedFault) (part : Option A) → least faults ≡ o → (faults ≡ [] → IsKnown part) → IsThere (answer_by o part)
  answer_there faults (Some fault) part is h = λ e. reason fault.at fault.cause (same_fault (answer_at fault.at fault.cause) (answer_by (Some fault) part) refl e)
  answer_there faults None part is h = part_there part (h ((no_fault faults).0 is))

  meaning_there : (m : Meaning A) → IsMet m → IsThere (answer m)
  meaning_there m h = answer_there m.faults (least m.faults) m.part refl h

  as_plan_there : (make : A → Plan) (r : Result A BindFault) → IsThere r → IsThere (as_plan make r)
  as_plan_there make (Ok a) h = λ e. cc
  as_plan_there make (Err f) h = λ e. h (let same : f ≡ NoMemory = same_fault f (as_plan make (Err f)) refl e in ap (λ z. Err z) same)

-- ---- a name is free

module _ (things : Things) (table : Text) where
  free_found : (given : List Text) (kind : ConstraintKind) → length given + length (owned things) + 1 < 10 ^ 64 → IsKnown (free_from (is_taken things given) table kind all_numbers 1)
  free_found given kind few =
      (elim (free_from (is_taken things given) table kind all_numbers 1) as (λ o. free_from (is_taken things given) table kind all_numbers 1 ≡ o → IsKnown o) [
        | Some n ↦ λ e. tt
        | None ↦ λ e.
            let names : List Text = given ++ map (λ x. x.0) (owned things) in
            let among : (m : ℕ) → 1 ≤ m → m < 1 + (10 ^ 64 - 1) → is_among names (numbered table kind m) ≡ true = λ m low high. sym (taken_among given (owned things) (numbered table kind m)) ∙ all_taken (is_taken things given) table kind e m m (omega arith) low in
            let apart : (m n : ℕ) → 1 ≤ m → m < n → n < 1 + (10 ^ 64 - 1) → numbered table kind m ≡ numbered table kind n → ⊥ = λ m n low mid high same. omega (arith, mid, one_number table kind m n (omega (arith, mid, high)) (omega (arith, high)) same) in
            let many : 10 ^ 64 - 1 ≤ length names = no_fewer (numbered table kind) (10 ^ 64 - 1) 1 names apart among in
            absurd (omega (arith, few, many, length-append given (map (λ x. x.0) (owned things)), length-map (owned things) (λ x. x.0)))
      ]) refl

  name_found : (o : Option Identifier) (given : List Text) (kind : ConstraintKind) → length given + length (owned things) + 1 < 10 ^ 64 → IsKnown (name_by o things table given kind)
  name_found (Some own) given kind few = tt
  name_found None given kind few = known_map (numbered table kind) (free_from (is_taken things given) table kind all_numbers 1) (free_found given kind few)

  first_found : (o : Option Text) (others : Text → Option (List Text)) → IsKnown o → ((name : Text) → IsKnown (others name)) → IsKnown (named_first o others)
  first_found (Some name) others h k = known_map (λ names. name ∷ names) (others name) (k name)
  first_found None others h k = absurd h

  names_found : (given : List Text) (ws : List Written) → length given + length ws + length (owned things) < 10 ^ 64 → IsKnown (names_from things table given ws)
  names_found given [] few = tt
  names_found given (w ∷ ws) few =
      first_found (name_by w.name things table given w.kind) (λ name. names_from things table (given ++ name ∷ []) ws) (name_found w.name given w.kind (omega (arith, few)))
      (λ name. names_found (given ++ name ∷ []) ws (omega (arith, few, length-append given (name ∷ []))))

  named_there : (elements : List TableElement) (means : ByNames) → length (owned things) + length (written elements) < 10 ^ 64
      → ((names : List Text) → names_from things table [] (written elements) ≡ Some names → IsMet (means names)) → IsThere (named things table elements means)
  named_there elements means few h =
      (elim (names_from things table [] (written elements)) as (λ o. names_from things table [] (written elements) ≡ o → IsThere (by_names means o)) [
        | Some names ↦ λ e. meaning_there (means names) (h names e)
        | None ↦ λ e. absurd (subst (λ o. IsKnown o) e (names_found [] (written elements) (omega (arith, few))))
      ]) refl

  one_first : (o : Option Text) (others : Text → Option (List Text)) (names : List Text) → named_first o others ≡ Some names → HasFirst names
  one_first None others names is = absurd (let no : None ≡ Some names = is in cc)
  one_first (Some name) others names is = let x = mapped (λ ns. name ∷ ns) (others name) names is in subst HasFirst (sym x.2) tt

  constraint_first : (k : TableConstraint) (names : List Text) → names_from things table [] (written (by_constraint k)) ≡ Some names → HasFirst names
  constraint_first k names is = one_first (name_by k.name things table [] (kind_of_table k.rule)) (λ name. names_from things table ([] ++ name ∷ []) []) names is

-- ---- statements

index_there : (things : Things) (i : CreateIndex) (o : Option Table) → IsThere (index_on things i o)
index_there things i (Some t) = meaning_there (index_created things i t) (index_created_met things i t)
index_there things i None = meaning_there (no_table i.table) (no_table_met i.table)

altered_there : (things : Things) (table : Identifier) (a : AlterAction) (o : Option Table) → length (owned things) + length (constraints_added a) < 10 ^ 64 → IsThere (altered things table a o)
altered_there things table (action.AddColumn x) (Some t) few = named_there things table.name (by_column x) (column_added things table x t) few (λ names is. column_added_met things table x t names)
altered_there things table (action.AddColumn x) None few = meaning_there (no_table table) (no_table_met table)
altered_there things table (action.AddConstraint k) (Some t) few =
    named_there things table.name (by_constraint k) (constraint_added things table k t) few (λ names is. constraint_added_met things table k t names (constraint_first things table.name k names is))
altered_there things table (action.AddConstraint k) None few = meaning_there (no_table table) (no_table_met table)
altered_there things table (action.DropConstraint name) (Some t) few = meaning_there (constraint_dropped t table name) (constraint_dropped_met t table name)
altered_there things table (action.DropConstraint name) None few = meaning_there (no_table table) (no_table_met table)

ok_there : (p : Plan) (r : Answer) → r ≡ Ok p → IsThere r
ok_there p r is = λ e. cc

pub bound_there : (things : Things) (statement : Stmt) → HasFreeNames things statement → IsThere (bound things statement)
unfolding bound
bound_there things (s.Query q) few =
    let m = query_meaning things q in
    as_plan_there plan.Query (answer_of m.faults m.plan) (answer_there m.faults (least m.faults) m.plan refl (λ none. (query_known things q outermost tt none).plan))
bound_there things (s.Insert i) few = as_plan_there plan.Insert (answer (insert_meaning things i)) (meaning_there (insert_meaning things i) (insert_met things i))
bound_there things (s.Update u) few = as_plan_there plan.Update (answer (update_meaning things u)) (meaning_there (update_meaning things u) (update_met things u))
bound_there things (s.Delete x) few = as_plan_there plan.Delete (answer (delete_meaning things x)) (meaning_there (delete_meaning things x) (delete_met things x))
bound_there things (s.LockTable locks) few = as_plan_there plan.LockTable (answer (locks_meaning things locks)) (meaning_there (locks_meaning things locks) (locks_met things locks))
bound_there things (s.CreateTable x) few =
    as_plan_there plan.Define (named things x.name.name x.elements (table_created things x)) (named_there things x.name.name x.elements (table_created things x) few (λ names is. table_created_met things x names))
bound_there things (s.CreateIndex x) few = as_plan_there plan.Define (index_on things x (table_named things x.table.name)) (index_there things x (table_named things x.table.name))
bound_there things (s.AlterTable a) few =
    as_plan_there plan.Define (altered things a.table a.action (table_named things a.table.name)) (altered_there things a.table a.action (table_named things a.table.name) few)
bound_there things (s.DropTable name) few = as_plan_there plan.Define (answer (table_dropped things name)) (meaning_there (table_dropped things name) (table_dropped_met things name))
bound_there things (s.DropIndex name) few = as_plan_there plan.Define (answer (index_dropped things name)) (meaning_there (index_dropped things name) (index_dropped_met things name))
bound_there things (s.SetControl control) few = ok_there _ _ refl
bound_there things (s.SetDefaultLevel isolation) few = ok_there _ _ refl
bound_there things (s.SetAutocommit on) few = ok_there _ _ refl
bound_there things (s.SetCharacteristics modes) few = ok_there _ _ refl
bound_there things (s.SetTransaction modes) few = ok_there _ _ refl
bound_there things (s.StartTransaction modes) few = ok_there _ _ refl
bound_there things s.Commit few = ok_there _ _ refl
bound_there things s.Rollback few = ok_there _ _ refl
bound_there things (s.Savepoint name) few = ok_there _ _ refl
bound_there things (s.RollbackTo name) few = ok_there _ _ refl
bound_there things (s.ReleaseSavepoint name) few = ok_there _ _ refl
bound_there things s.WriteDelayFalse few = ok_there _ _ refl
bound_there things s.Checkpoint few = ok_there _ _ refl
bound_there things s.Shutdown few = ok_there _ _ refl
