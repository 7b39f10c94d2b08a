-- What is asked of a database system.
use Rattle.std.specs.Prelude.{◌≡◌, ℕ, Bool, true, List, None, Option}
use Rattle.hs_base.specs.declared.numbers.SessionNo.{SessionNo}
use Rattle.hs_committext.specs.Commits.{IsCommitText}
use Rattle.hs_turns.specs.Database.{Database, IsNumbered, apply}
use Rattle.hs_turns.specs.Histories.{Commit}
use Rattle.hs_turns.specs.Language.{Laws}
use Rattle.hs_logged.specs.Over.{TestsTexts}
use Rattle.hs_plan.specs.declared.change.Change.{Change}
use Rattle.hs_plainwords.specs.Dialects.{IsPlainDialect}
use Rattle.hs_schema.specs.Catalogue.{Things}
use Rattle.hs_turns.specs.Dialect.{Dialect, language_of}
use Rattle.hs_system.specs.System.{System}

-- What a language with some room in the log is to be: it has this room, it meets the laws of transactions, and what it tells
-- is plain over catalogues with such names.
pub record IsLanguage (is_named : Things → Bool) (room : List Commit → Commit → Bool) (d : Dialect) : Type 0 where
  pub room_ : (commits : List Commit) (k : Commit) → d.has_log_room commits k ≡ room commits k
  pub laws : Laws (language_of d)
  pub plain : IsPlainDialect is_named d

-- What is so of a database whichever constraints hold: its catalogue has such names, and no row has a number above that of the
-- last change. Where no constraint is violated it is valid, and else it isn't.
pub record IsRegular (is_named : Things → Bool) (y : System) (db : Database) : Type 0 where
  pub named : is_named db.things ≡ true
  pub rows : IsNumbered db
  pub valid : (room : List Commit → Commit → Bool) → y.violated db ≡ None → (y.dialect room).is_valid db ≡ true

-- The language is one, with any room in the log, and a test tells which commits have a text. The empty database violates nothing,
-- and it is regular; so is what a commit makes of a regular one.
pub record IsGoverned (is_named : Things → Bool) (Regular : Database → Type 0) (y : System) : Type 0 where
  pub language : (room : List Commit → Commit → Bool) → IsLanguage is_named room (y.dialect room)
  pub texts : TestsTexts y.wording y.has_text
  pub regular : (db : Database) → Regular db → IsRegular is_named y db
  pub valid : (room : List Commit → Commit → Bool) (db : Database) → (y.dialect room).is_valid db ≡ true → y.violated db ≡ None
  pub empty : Regular y.empty
  pub clean : y.violated y.empty ≡ None
  pub kept : (db : Database) (before : Option SessionNo) (text : List ℕ) (session : SessionNo) (changes : List Change) → Regular db → IsCommitText y.wording db.things before text session changes → y.may_make db changes ≡ true
      → Regular (apply db changes)
