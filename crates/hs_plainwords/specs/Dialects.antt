-- Dialects whose statements are told in plain texts.
use Rattle.std.specs.Prelude.{◌≡◌, ℕ, ◌+◌, Bool, true, false, ◌++◌, None, Some, Ok, Err, codes}
use Rattle.std.specs.List.{list_any}
use Rattle.std.specs.Str.{is_utf8}
use Rattle.hs_plan.specs.declared.definition.Definition.{Definition}
use Rattle.hs_schema.specs.Catalogue.{Text, Things, after}
use Rattle.hs_turns.specs.Database.{Database, is_definition}
use Rattle.hs_turns.specs.Each.{Each}
use Rattle.hs_turns.specs.Language.{Outcome}
use Rattle.hs_turns.specs.Attempts.{savepoint_of}
use Rattle.hs_turns.specs.Dialect.{Dialect, Request}
use Rattle.hs_turns.specs.Dialect.{Request as request}
use Rattle.hs_turns.specs.Dialect.Request.{OfData}
use Rattle.hs_plainwords.specs.Answers.{is_final}
use Rattle.hs_plainwords.specs.Plain.{IsPlainText, IsPlainReason, IsPlainRow}

-- what a data statement is told is plain, and it defines nothing
pub record IsPlainOutcome (outcome : Outcome) : Type 0 where
  pub rows : Each IsPlainRow outcome.rows
  pub reply : IsPlainText outcome.reply
  pub changes : list_any is_definition outcome.changes ≡ false

-- so is why an entry is no statement, or names no savepoint that is there
abbrev pub IsPlainRequest : (Text → Text) → Request → Type 0
IsPlainRequest printed_name (request.Faulty why) = IsPlainReason why
IsPlainRequest printed_name (request.OnSettings control) = IsPlainReason (codes "no savepoint " ++ printed_name (savepoint_of control))
IsPlainRequest printed_name _ = Unit {0}

-- All that entries are told is plain over each catalogue that passes a test, as that its names are such; and definitions
-- lead from one such catalogue to another. Each entry is text. The reply to a data statement that isn't refused before it
-- wants anything begins with `ok` or `refused`.
pub record IsPlainDialect (is_named : Things → Bool) (d : Dialect) : Type 0 where
  pub request : (text : Text) → is_utf8 text ≡ true → IsPlainRequest d.printed_name (d.request text)
  pub refusal : (read_only : Bool) (db : Database) (text why : Text) → is_utf8 text ≡ true → is_named db.things ≡ true → d.refusal read_only db text ≡ Some why → IsPlainReason why
  pub outcome : (read_only : Bool) (inserted : ℕ) (db : Database) (text : Text) → is_utf8 text ≡ true → is_named db.things ≡ true → IsPlainOutcome (d.outcome read_only inserted db text)
  pub answered : (read_only : Bool) (inserted : ℕ) (db : Database) (text : Text) → d.request text ≡ OfData → d.refusal read_only db text ≡ None → is_final (d.outcome read_only inserted db text).reply ≡ true
  pub refused : (db : Database) (text why : Text) → is_utf8 text ≡ true → is_named db.things ≡ true → d.definition db text ≡ Err why → IsPlainReason why
  pub defined : (db : Database) (text : Text) (definition : Definition) → is_utf8 text ≡ true → is_named db.things ≡ true → d.definition db text ≡ Ok definition → is_named (after db.things definition (db.count + 1)) ≡ true
