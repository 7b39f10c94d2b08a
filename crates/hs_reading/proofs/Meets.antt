-- SQL meets the laws of a language.
use Rattle.std.proofs.Common.{◌≡◌, Bool, true, false, [], ◌∷◌, Option, None, Some, Result, Ok, Err, refl, sym, ap, subst, ◌∙◌}
use Rattle.hs_plan.specs.declared.change.Change.TheVariants as change
use Rattle.hs_plan.specs.declared.definition.Definition.{Definition}
use Rattle.hs_plan.specs.declared.plan.Plan.{Plan}
use Rattle.hs_plan.specs.declared.plan.Plan.TheVariants as plan
use Rattle.hs_schema.specs.Catalogue.{Text}
use Rattle.hs_sentences.specs.declared.violation.Violation.{Violation}
use Rattle.hs_turns.specs.Database.{Database, committed}
use Rattle.hs_turns.specs.Language.{Laws, Stands}
use Rattle.hs_turns.specs.Dialect.{accepted, language_of}
use Rattle.hs_language.specs.Definitions.{judged, makes_long, still_referenced, unless_long, unless_referenced, unless_violated, violated_by}
use Rattle.hs_language.specs.Reading.{Reading}
use Rattle.hs_language.specs.Sql.{definition_by, definition_in, is_valid, sql}
use Rattle.hs_language_laws.proofs.Frame.{valid_from}
use Rattle.hs_language_laws.proofs.Sql.{frame, lawful, reader, within}
use Rattle.hs_reading.proofs.Bound.{proper_by}
use Rattle.hs_language.proofs.Accepted.{valid_after}
use Rattle.hs_validity.proofs.Behind.{more_sql}
use Rattle.hs_validity.proofs.Moved.{moved}
use Rattle.hs_validity.proofs.Numbered.{numbers}
use Rattle.hs_validity.proofs.Wider.{none, wider}
use Rattle.hs_reading.specs.BoundReading.{IsBound}

-- ---- what isn't refused is the definition itself

same_long : (long : Bool) (d e : Definition) → unless_long long d ≡ Ok e → e ≡ d
same_long true d e h = absurd cc
same_long false d e h = cc

same_violated : (v : Option Violation) (long : Bool) (d e : Definition) → unless_violated v long d ≡ Ok e → e ≡ d
same_violated (Some v) long d e h = absurd cc
same_violated None long d e h = same_long long d e h

same_referenced : (name : Option Text) (db : Database) (d e : Definition) → unless_referenced name db d ≡ Ok e → e ≡ d
same_referenced (Some name) db d e h = absurd cc
same_referenced None db d e h = same_violated (violated_by db d) (makes_long db d) d e h

same_judged : (db : Database) (d e : Definition) → judged db d ≡ Ok e → e ≡ d
same_judged db d e h = same_referenced (still_referenced db.things d) db d e h

given : (result : Result Definition Text) (e : Definition) → accepted result ≡ Some e → result ≡ Ok e
given (Ok d) e h = let same : d ≡ e = cc in ap Ok same
given (Err why) e h = absurd cc

-- ---- definitions

module _ (r : Reading) (bound : IsBound r) (db : Database) (stands : Stands (language_of (sql r)) db) (text : Text) (e : Definition) where
  after_definition : (d : Definition) → r.plan db.things text ≡ Ok (plan.Define d) → judged db d ≡ Ok e → is_valid (committed db (change.Define e ∷ [])) ≡ true
  after_definition d is judged_ =
      let same = same_judged db d e judged_ in
      let statement = bound.definitions db.things text d is in
      let proper = proper_by db.things statement.0 d (valid_from db stands.0).whole statement.1 statement.2 in
      subst (λ (x : Definition). is_valid (committed db (change.Define x ∷ [])) ≡ true) (sym same)
      (valid_after db d stands.0 proper (judged_ ∙ ap Ok same))

  by_plan : (p : Plan) → r.plan db.things text ≡ Ok p → definition_in db p ≡ Ok e → is_valid (committed db (change.Define e ∷ [])) ≡ true
  by_plan (plan.Define d) is h = after_definition d is h
  by_plan (plan.Query query) is h = absurd cc
  by_plan (plan.Insert insert) is h = absurd cc
  by_plan (plan.Update update) is h = absurd cc
  by_plan (plan.Delete delete) is h = absurd cc
  by_plan (plan.LockTable locked) is h = absurd cc
  by_plan (plan.Session statement) is h = absurd cc

  by_reading : (found : Result Plan Text) → r.plan db.things text ≡ found → definition_by db found ≡ Ok e → is_valid (committed db (change.Define e ∷ [])) ≡ true
  by_reading (Ok p) is h = by_plan p is h
  by_reading (Err why) is h = absurd cc

  defined_valid : accepted (definition_by db (r.plan db.things text)) ≡ Some e → is_valid (committed db (change.Define e ∷ [])) ≡ true
  defined_valid h = by_reading (r.plan db.things text) refl (given (definition_by db (r.plan db.things text)) e h)

-- ---- the whole

pub meets : (r : Reading) → IsBound r → Laws (language_of (sql r))
meets r bound = record {
  frame = frame r bound.tables;
  within = within r bound.tables;
  lawful = lawful r bound.tables;
  reader = reader r bound.tables;
  none = λ db stands. none db;
  more = λ read_only db changes feet text stands fine. more_sql r (within r bound.tables) read_only db changes feet text stands fine;
  wider = wider;
  numbers = λ db changes feet stands fine room. numbers db changes feet stands fine room;
  moved = λ db changes others feet other_feet stands fine others_fine room clear. moved db changes others feet other_feet stands fine others_fine room clear;
  accepted = λ db text e stands h. defined_valid r bound db stands text e h;
}
