-- A database system: its language, how its commits are logged, and which of them may be made again.
use Rattle.std.specs.Prelude.{ℕ, Bool, List, Option}
use Rattle.hs_turns.specs.Database.{Database}
use Rattle.hs_turns.specs.Histories.{Commit}
use Rattle.hs_logged.specs.Over.{TextTest}
use Rattle.hs_logged.specs.Reading.{Test}
use Rattle.hs_tabletext.specs.Conditions.{Wording}
use Rattle.hs_schema.specs.Catalogue.{Text}
use Rattle.hs_turns.specs.Dialect.{Dialect}

-- The language of entries, where the log has this room; how conditions are written, and which commits have a text; which changes
-- may be made on a database as those of a commit; the database before any commit; the first constraint that a database violates;
-- and the most bytes that a log may have.
pub record System : Type 1 where
  pub dialect : (List Commit → Commit → Bool) → Dialect
  pub wording : Wording
  pub has_text : TextTest
  pub may_make : Test
  pub empty : Database
  pub violated : Database → Option Text
  pub limit : ℕ
