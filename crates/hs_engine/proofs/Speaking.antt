-- What the dialect of a world of SQL is.
use Rattle.std.proofs.Common.{◌≡◌, ℕ, Bool, ap}
use Rattle.hs_turns.specs.Database.{Database}
use Rattle.hs_language.specs.Reading.{Reading}
use Rattle.hs_language.specs.Sql.{definition_by, is_valid, outcome_by, refused_by}
use Rattle.hs_nametext.specs.Names.{name_text}
use Rattle.hs_reading.specs.Reading.{reading_of}
use Rattle.hs_requests.specs.Plans.{plan_of}
use Rattle.hs_requests.specs.Requests.{request_of}
use Rattle.hs_schema.specs.Catalogue.{Text}
use Rattle.hs_seams.specs.World.{World}
use Rattle.hs_turns.specs.Dialect.{Dialect}
use Rattle.hs_engine.specs.Store.{SpeaksSql}

abbrev pub reading_in : World → Reading
reading_in w = reading_of w.run.dialect.has_log_room

module _ (w : World) (speaks : SpeaksSql w) where
  pub request_is : (text : Text) → w.run.dialect.request text ≡ request_of text
  request_is text = ap (λ (d : Dialect). d.request text) speaks

  pub name_is : (name : Text) → w.run.dialect.printed_name name ≡ name_text name
  name_is name = ap (λ (d : Dialect). d.printed_name name) speaks

  pub valid_is : (db : Database) → w.run.dialect.is_valid db ≡ is_valid db
  valid_is db = ap (λ (d : Dialect). d.is_valid db) speaks

  pub refusal_is : (read_only : Bool) (db : Database) (text : Text) → w.run.dialect.refusal read_only db text ≡ refused_by read_only (plan_of db.things text)
  refusal_is read_only db text = ap (λ (d : Dialect). d.refusal read_only db text) speaks

  pub outcome_is : (read_only : Bool) (inserted : ℕ) (db : Database) (text : Text) → w.run.dialect.outcome read_only inserted db text ≡ outcome_by (reading_in w) inserted db (plan_of db.things text)
  outcome_is read_only inserted db text = ap (λ (d : Dialect). d.outcome read_only inserted db text) speaks

  pub definition_is : (db : Database) (text : Text) → w.run.dialect.definition db text ≡ definition_by db (plan_of db.things text)
  definition_is db text = ap (λ (d : Dialect). d.definition db text) speaks
