-- What SQL tells of its data statements begins with `ok` or `refused`.
use Rattle.std.proofs.Common.{◌≡◌, ℕ, Bool, true, false, List, length, codes, ◌++◌, refl}
use Rattle.std.specs.Prelude.{◌==◌, Option, None, Some, Result, Ok, Err}
use Rattle.std.specs.Fmt.{decimal}
use Rattle.std.specs.List.{list_any}
use Rattle.std.proofs.lemmas.Bool.{cond_both}
use Rattle.hs_claims.specs.declared.footprint.Footprint.{Footprint}
use Rattle.hs_plan.specs.declared.change.Change.{Change}
use Rattle.hs_plan.specs.declared.plan.Plan.{Plan}
use Rattle.hs_plan.specs.declared.plan.Plan.TheVariants as plan
use Rattle.hs_values.specs.declared.fault.EvalFault.{EvalFault}
use Rattle.hs_values.specs.declared.value.Value.{Value}
use Rattle.hs_schema.specs.Catalogue.{Text, Things}
use Rattle.hs_sentences.specs.declared.violation.Violation.{Violation}
use Rattle.hs_answer.specs.Answer.{answer}
use Rattle.hs_dml.specs.Told.{tentative}
use Rattle.hs_turns.specs.Database.{Database}
use Rattle.hs_turns.specs.Language.{Outcome}
use Rattle.hs_language.specs.Outcomes.{answered, around, changed, kept_unless_long, kept_unless_violated, of_changes, of_plan, of_tables, own_count, violated_by as first_of}
use Rattle.hs_language.specs.Reading.{Reading}
use Rattle.hs_language.specs.Sql.{outcome_by, refused_by}
use Rattle.hs_language.specs.Validity.{puts_long}
use Rattle.hs_language.specs.Words.{count_words}
use Rattle.hs_plainwords.specs.Answers.{is_final}
use Rattle.hs_plainsql.specs.Readings.{is_data}

abbrev Ends : Outcome → Type 0
Ends outcome = is_final outcome.reply ≡ true

count_ends : (n : ℕ) → is_final (count_words n) ≡ true
count_ends n = cond_both (n == 1) (codes "ok 1 row") (codes "ok " ++ decimal n ++ codes " rows") (λ (l : Text). is_final l ≡ true) (λ _. refl) (λ _. refl)

answered_ends : (given : Result (List (List Value)) EvalFault) (foot : Footprint) → Ends (answered given foot)
answered_ends (Ok rows) foot = count_ends (length rows)
answered_ends (Err fault) foot = refl

long_ends : (long : Bool) (count : ℕ) (changes : List Change) (foot : Footprint) → Ends (kept_unless_long long count changes foot)
long_ends true count changes foot = refl
long_ends false count changes foot = count_ends count

kept_ends : (found : Option Violation) (things : Things) (count : ℕ) (changes : List Change) (foot : Footprint) → Ends (kept_unless_violated found things count changes foot)
kept_ends (Some violation) things count changes foot = refl
kept_ends None things count changes foot = long_ends (list_any (puts_long things) changes) count changes foot

module _ (r : Reading) (inserted : ℕ) (db : Database) where
  changed_ends : (p : Plan) (given : Result (List Change) EvalFault) → Ends (changed r inserted db p given)
  changed_ends p (Ok changes) = kept_ends (first_of inserted db changes) db.things (own_count (around db) p changes) changes (of_changes r db p changes)
  changed_ends p (Err fault) = refl

  plan_ends : (p : Plan) → is_data p ≡ true → Ends (of_plan r inserted db p)
  plan_ends (plan.Query query) is = answered_ends (answer db.rows query) (of_tables r db (plan.Query query))
  plan_ends (plan.LockTable locked) is = refl
  plan_ends (plan.Insert insert) is = changed_ends (plan.Insert insert) (tentative (around db) (plan.Insert insert))
  plan_ends (plan.Update update) is = changed_ends (plan.Update update) (tentative (around db) (plan.Update update))
  plan_ends (plan.Delete delete) is = changed_ends (plan.Delete delete) (tentative (around db) (plan.Delete delete))
  plan_ends (plan.Define definition) is = absurd cc
  plan_ends (plan.Session statement) is = absurd cc

  pub given_ends : (read_only : Bool) (given : Result Plan Text) → ((p : Plan) → given ≡ Ok p → is_data p ≡ true) → refused_by read_only given ≡ None → Ends (outcome_by r inserted db given)
  given_ends read_only (Ok p) kind none = plan_ends p (kind p refl)
  given_ends read_only (Err why) kind none = absurd cc
