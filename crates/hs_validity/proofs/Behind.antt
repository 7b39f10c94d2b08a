-- SQL meets the law of one statement more.
use Rattle.std.proofs.Common.{ℕ, Bool, List, ◌∷◌, ◌++◌, Option, None, Some, Result, Ok, Err}
use Rattle.hs_claims.specs.declared.footprint.Footprint.{Footprint}
use Rattle.hs_plan.specs.declared.change.Change.{Change}
use Rattle.hs_plan.specs.declared.plan.Plan.{Plan}
use Rattle.hs_changes.specs.Changes.{count_all_inserted}
use Rattle.hs_schema.specs.Catalogue.{Text}
use Rattle.hs_turns.specs.Database.{Database, view}
use Rattle.hs_turns.specs.Language.{IsFine, Stands}
use Rattle.hs_turns.specs.Dialect.{Request, language_of, nothing, outcome_of, unless_refused, untouched}
use Rattle.hs_turns.specs.Dialect.Request.{Faulty, OfData, OfDefinition, Starts, Commits, RollsBack, OnSettings}
use Rattle.hs_language.specs.Reading.{Reading}
use Rattle.hs_language.specs.Sql.{outcome_by, refused_by, sql}
use Rattle.hs_validity.specs.Inside.{AreInside, IsInside}
use Rattle.hs_validity.proofs.More.{IsFineBehind, more, unchanged}

module _ (r : Reading) (read_only : Bool) (db : Database) (changes : List Change) (feet : List Footprint) (text : Text) (stands : Stands (language_of (sql r)) db) (fine : IsFine (language_of (sql r)) db feet changes) where
  abbrev seen : Database
  seen = view db changes

  abbrev n : ℕ
  n = count_all_inserted changes

  by_plan : (p : Result Plan Text) → IsInside (outcome_by r n seen p) → IsFineBehind r db changes feet stands.1 fine.0 fine.1 (outcome_by r n seen p)
  by_plan (Ok p) inside = more r db changes feet stands.1 fine.0 fine.1 p inside
  by_plan (Err why) inside = unchanged r db changes feet stands.1 fine.0 fine.1 untouched

  by_refusal : (why : Option Text) → IsInside (unless_refused why (outcome_by r n seen (r.plan seen.things text))) → IsFineBehind r db changes feet stands.1 fine.0 fine.1 (unless_refused why (outcome_by r n seen (r.plan seen.things text)))
  by_refusal None inside = by_plan (r.plan seen.things text) inside
  by_refusal (Some why) inside = unchanged r db changes feet stands.1 fine.0 fine.1 untouched

  by_defined : (why : Option Text) → IsFineBehind r db changes feet stands.1 fine.0 fine.1 (unless_refused why nothing)
  by_defined None = unchanged r db changes feet stands.1 fine.0 fine.1 untouched
  by_defined (Some why) = unchanged r db changes feet stands.1 fine.0 fine.1 untouched

  by_request : (q : Request) → IsInside (outcome_of (sql r) read_only n seen text q) → IsFineBehind r db changes feet stands.1 fine.0 fine.1 (outcome_of (sql r) read_only n seen text q)
  by_request (Faulty why) inside = unchanged r db changes feet stands.1 fine.0 fine.1 untouched
  by_request OfData inside = by_refusal (refused_by read_only (r.plan seen.things text)) inside
  by_request OfDefinition inside = by_defined (refused_by read_only (r.plan seen.things text))
  by_request (Starts modes) inside = unchanged r db changes feet stands.1 fine.0 fine.1 untouched
  by_request Commits inside = unchanged r db changes feet stands.1 fine.0 fine.1 untouched
  by_request RollsBack inside = unchanged r db changes feet stands.1 fine.0 fine.1 untouched
  by_request (OnSettings control) inside = unchanged r db changes feet stands.1 fine.0 fine.1 untouched

pub more_sql : (r : Reading) → AreInside r → (read_only : Bool) (db : Database) (changes : List Change) (feet : List Footprint) (text : Text) → Stands (language_of (sql r)) db → IsFine (language_of (sql r)) db feet changes
    → IsFine (language_of (sql r)) db (((language_of (sql r)).outcome read_only (count_all_inserted changes) (view db changes) text).foot ∷ feet) (changes ++ ((language_of (sql r)).outcome read_only (count_all_inserted changes) (view db changes) text).changes)
more_sql r inside read_only db changes feet text stands fine = by_request r read_only db changes feet text stands fine (r.request text) (inside read_only (count_all_inserted changes) (view db changes) text fine.1)
