-- What a statement gives, told by the foreign keys that are at hand or by those that the language lists.
use Rattle.std.proofs.Common.{◌≡◌, ℕ, true, false, List, [], None, Some, Result, Ok, Err, sym, ap, ◌∙◌}
use Rattle.hs_base.specs.declared.numbers.TableNo.{TableNo}
use Rattle.hs_plan.specs.declared.change.Change.{Change}
use Rattle.hs_plan.specs.declared.plan.Plan.{Plan}
use Rattle.hs_plan.specs.declared.plan.Plan.TheVariants as p
use Rattle.hs_values.specs.declared.fault.EvalFault.{EvalFault}
use Rattle.hs_values.specs.declared.value.Value.{Value}
use Rattle.hs_values.specs.Outcome.{◌>>=◌}
use Rattle.hs_changes.specs.Settings.{Maps}
use Rattle.hs_schema.specs.Catalogue.{Things}
use Rattle.hs_actions.specs.Referencing.{Keys}
use Rattle.hs_answer.specs.Answer.{answer}
use Rattle.hs_turns.specs.Database.{Database}
use Rattle.hs_dml.specs.Told.{columns_in, tentative}
use Rattle.hs_effects.specs.Effects.{around_in}
use Rattle.hs_exec.specs.declared.answer.Answer.{Answer}
use Rattle.hs_exec.specs.declared.answer.Answer.TheVariants as a
use Rattle.hs_exec.specs.Executed.{changes_answered, executed, rows_answered}
use Rattle.hs_exec.proofs.Alike.{executed_alike}
use Rattle.hs_references.specs.Referenced.{AreOf}
use Rattle.hs_language.specs.Outcomes.{answered, around, changed, keys_in, of_plan, of_tables, own_count}
use Rattle.hs_language.specs.Reading.{Reading}
use Rattle.hs_outcome.specs.declared.given.Given.TheVariants as g
use Rattle.hs_outcome.specs.Counted.{acting_table, is_evaluated}
use Rattle.hs_outcome.specs.Given.{outcome_of}
use Rattle.hs_outcome.proofs.Keyed.{keys_are}

-- ---- answers that are given

abbrev rows_or : List (List Value) → Result Answer EvalFault → List (List Value)
rows_or rows (Ok (a.Rows others)) = others
rows_or rows _ = rows

abbrev changes_or : List Change → Result Answer EvalFault → List Change
changes_or changes (Ok (a.Changes others)) = others
changes_or changes _ = changes

rows_given : (given : Result (List (List Value)) EvalFault) (rows : List (List Value)) → rows_answered given ≡ Ok (a.Rows rows) → given ≡ Ok rows
rows_given (Ok others) rows h = ap (λ (r : Result Answer EvalFault). Ok (rows_or rows r)) h
rows_given (Err fault) rows h = absurd (let no : Err fault ≡ Ok (a.Rows rows) = h in cc)

no_changes_given : (given : Result (List (List Value)) EvalFault) (changes : List Change) → rows_answered given ≡ Ok (a.Changes changes) → ⊥
no_changes_given (Ok others) changes h = let no : Ok (a.Rows others) ≡ Ok (a.Changes changes) = h in cc
no_changes_given (Err fault) changes h = let no : Err fault ≡ Ok (a.Changes changes) = h in cc

row_fault_given : (given : Result (List (List Value)) EvalFault) (fault : EvalFault) → rows_answered given ≡ Err fault → given ≡ Err fault
row_fault_given (Ok others) fault h = absurd (let no : Ok (a.Rows others) ≡ Err fault = h in cc)
row_fault_given (Err other) fault h = ap (λ (r : Result Answer EvalFault). r >>= λ x. Ok []) h

pub changes_given : (given : Result (List Change) EvalFault) (changes : List Change) → changes_answered given ≡ Ok (a.Changes changes) → given ≡ Ok changes
changes_given (Ok others) changes h = ap (λ (r : Result Answer EvalFault). Ok (changes_or changes r)) h
changes_given (Err fault) changes h = absurd (let no : Err fault ≡ Ok (a.Changes changes) = h in cc)

no_rows_given : (given : Result (List Change) EvalFault) (rows : List (List Value)) → changes_answered given ≡ Ok (a.Rows rows) → ⊥
no_rows_given (Ok others) rows h = let no : Ok (a.Changes others) ≡ Ok (a.Rows rows) = h in cc
no_rows_given (Err fault) rows h = let no : Err fault ≡ Ok (a.Rows rows) = h in cc

fault_given : (given : Result (List Change) EvalFault) (fault : EvalFault) → changes_answered given ≡ Err fault → given ≡ Err fault
fault_given (Ok others) fault h = absurd (let no : Ok (a.Changes others) ≡ Err fault = h in cc)
fault_given (Err other) fault h = ap (λ (r : Result Answer EvalFault). r >>= λ x. Ok []) h

-- a changing statement that makes these changes
pub made_by : (tables : Maps) (things : Things) (keys : Keys) (p : Plan) (changes : List Change) → executed tables things keys p ≡ Ok (a.Changes changes) → tentative (around_in tables (columns_in things) keys) p ≡ Ok changes
made_by tables things keys (p.Query query) changes h = absurd (no_changes_given (answer tables query) changes h)
made_by tables things keys (p.Insert insert) changes h = changes_given _ changes h
made_by tables things keys (p.Update update) changes h = changes_given _ changes h
made_by tables things keys (p.Delete delete) changes h = changes_given _ changes h
made_by tables things keys (p.LockTable locked) changes h = changes_given _ changes h
made_by tables things keys (p.Define definition) changes h = changes_given _ changes h
made_by tables things keys (p.Session statement) changes h = changes_given _ changes h

-- and the other way round, of one of which actions may come
pub made_acting : (tables : Maps) (things : Things) (keys : Keys) (p : Plan) (table : TableNo) (changes : List Change) → acting_table p ≡ Some table → tentative (around_in tables (columns_in things) keys) p ≡ Ok changes → executed tables things keys p ≡ Ok (a.Changes changes)
made_acting tables things keys (p.Update update) table changes acts h = ap changes_answered h
made_acting tables things keys (p.Delete delete) table changes acts h = ap changes_answered h
made_acting tables things keys (p.Query query) table changes acts h = absurd (let no : None ≡ Some table = acts in cc)
made_acting tables things keys (p.Insert insert) table changes acts h = ap changes_answered h
made_acting tables things keys (p.LockTable locked) table changes acts h = ap changes_answered h
made_acting tables things keys (p.Define definition) table changes acts h = ap changes_answered h
made_acting tables things keys (p.Session statement) table changes acts h = ap changes_answered h

-- ---- what it comes to

module _ (r : Reading) (inserted : ℕ) (db : Database) (keys : Keys) (are : AreOf db.things keys) where
  -- as the language lists the foreign keys
  listed : (p : Plan) → executed db.rows db.things (keys_in db.things) p ≡ executed db.rows db.things keys p
  listed p = sym (executed_alike db.rows db.things keys (keys_in db.things) p (λ needs. are) (keys_are db.things))

  pub rows_finish : (p : Plan) (rows : List (List Value)) → executed db.rows db.things keys p ≡ Ok (a.Rows rows) → is_evaluated p ≡ true → of_plan r inserted db p ≡ outcome_of r inserted db p (g.Rows rows)
  rows_finish (p.Query query) rows h is = ap (λ given. answered given (of_tables r db (p.Query query))) (rows_given (answer db.rows query) rows h)
  rows_finish (p.Insert insert) rows h is = absurd (no_rows_given _ rows h)
  rows_finish (p.Update update) rows h is = absurd (no_rows_given _ rows h)
  rows_finish (p.Delete delete) rows h is = absurd (no_rows_given _ rows h)
  rows_finish (p.LockTable locked) rows h is = absurd (let no : false ≡ true = is in cc)
  rows_finish (p.Define definition) rows h is = absurd (let no : false ≡ true = is in cc)
  rows_finish (p.Session statement) rows h is = absurd (let no : false ≡ true = is in cc)

  pub fault_finish : (p : Plan) (fault : EvalFault) → executed db.rows db.things keys p ≡ Err fault → is_evaluated p ≡ true → of_plan r inserted db p ≡ outcome_of r inserted db p (g.Fault fault)
  fault_finish (p.Query query) fault h is = ap (λ given. answered given (of_tables r db (p.Query query))) (row_fault_given (answer db.rows query) fault h)
  fault_finish (p.Insert insert) fault h is = ap (changed r inserted db (p.Insert insert)) (fault_given (tentative (around db) (p.Insert insert)) fault (listed (p.Insert insert) ∙ h))
  fault_finish (p.Update update) fault h is = ap (changed r inserted db (p.Update update)) (fault_given (tentative (around db) (p.Update update)) fault (listed (p.Update update) ∙ h))
  fault_finish (p.Delete delete) fault h is = ap (changed r inserted db (p.Delete delete)) (fault_given (tentative (around db) (p.Delete delete)) fault (listed (p.Delete delete) ∙ h))
  fault_finish (p.LockTable locked) fault h is = absurd (let no : false ≡ true = is in cc)
  fault_finish (p.Define definition) fault h is = absurd (let no : false ≡ true = is in cc)
  fault_finish (p.Session statement) fault h is = absurd (let no : false ≡ true = is in cc)

  -- so many rows of its own are told
  numbered : (p : Plan) (changes : List Change) (n : ℕ) → n ≡ own_count (around db) p changes → outcome_of r inserted db p (g.Changes changes (own_count (around db) p changes)) ≡ outcome_of r inserted db p (g.Changes changes n)
  numbered p changes n is = ap (λ m. outcome_of r inserted db p (g.Changes changes m)) (sym is)

  pub changes_finish : (p : Plan) (changes : List Change) (n : ℕ) → executed db.rows db.things keys p ≡ Ok (a.Changes changes) → n ≡ own_count (around_in db.rows (columns_in db.things) keys) p changes → is_evaluated p ≡ true
      → of_plan r inserted db p ≡ outcome_of r inserted db p (g.Changes changes n)
  changes_finish (p.Query query) changes n h count is = absurd (no_changes_given (answer db.rows query) changes h)
  changes_finish (p.Insert insert) changes n h count is =
      ap (changed r inserted db (p.Insert insert)) (changes_given (tentative (around db) (p.Insert insert)) changes (listed (p.Insert insert) ∙ h)) ∙ numbered (p.Insert insert) changes n count
  changes_finish (p.Update update) changes n h count is =
      ap (changed r inserted db (p.Update update)) (changes_given (tentative (around db) (p.Update update)) changes (listed (p.Update update) ∙ h)) ∙ numbered (p.Update update) changes n count
  changes_finish (p.Delete delete) changes n h count is =
      ap (changed r inserted db (p.Delete delete)) (changes_given (tentative (around db) (p.Delete delete)) changes (listed (p.Delete delete) ∙ h)) ∙ numbered (p.Delete delete) changes n count
  changes_finish (p.LockTable locked) changes n h count is = absurd (let no : false ≡ true = is in cc)
  changes_finish (p.Define definition) changes n h count is = absurd (let no : false ≡ true = is in cc)
  changes_finish (p.Session statement) changes n h count is = absurd (let no : false ≡ true = is in cc)
