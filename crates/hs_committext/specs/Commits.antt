-- The texts of commits.
use Rattle.std.specs.Prelude.{◌≡◌, ℕ, ◌≤◌, true, List, [], ◌∷◌, ◌++◌, length, Option, IsUtf8}
use Rattle.std.specs.List.{All, list_any}
use Rattle.std.specs.Option.{option_map}
use Rattle.hs_base.specs.declared.numbers.SessionNo.{SessionNo}
use Rattle.hs_plan.specs.declared.change.Change.{Change}
use Rattle.hs_plan.specs.declared.change.Change.TheVariants as c
use Rattle.hs_plan.specs.declared.definition.Definition.{Definition}
use Rattle.hs_schema.specs.Catalogue.{Things}
use Rattle.hs_sessions.specs.declared.commit.Commit.{Commit}
use Rattle.hs_turns.specs.Database.{is_definition}
use Rattle.hs_log.specs.CommitText as log
use Rattle.hs_tabletext.specs.Conditions.{Wording}
use Rattle.hs_committext.specs.Definitions.{IsDefinitionText}
use Rattle.hs_committext.specs.Changes.{change_text, IsChange, IsChangeText}
use Rattle.hs_committext.specs.Lines.{lines_of, AreLinesOf}

-- the changes of a commit: there is one at least, and a definition stands alone
pub record AreCommitted (changes : List Change) : Type 0 where
  pub some : 1 ≤ length changes
  pub alone : list_any is_definition changes ≡ true → length changes ≡ 1

-- the number of the session of the text before, and none where no text is before
abbrev pub number_of : Option SessionNo → Option ℕ
number_of before = option_map (λ s. s.0) before

-- what a text says of a commit: its session and its changes
abbrev pub said : Commit → SessionNo × List Change
said commit = (commit.session, commit.changes)

-- ---- how commits are written, beside the things of the catalogue before them

-- the lines of changes, each change's with a line feed at its end
abbrev pub changes_text : Wording → Things → List Change → List ℕ
changes_text wording things changes = lines_of (change_text wording things) changes

-- the one text of each commit, behind a text of the session before
abbrev pub commit_text : Wording → Things → Option SessionNo → SessionNo → List Change → List ℕ
commit_text wording things before session changes = log.commit_text (number_of before) session.0 (changes_text wording things changes)

-- the changes of a commit, each of which has a text
pub record HaveText (wording : Wording) (things : Things) (changes : List Change) : Type 0 where
  pub committed : AreCommitted changes
  pub each : All (IsChange wording things) changes

-- ---- which texts are those of commits

-- The lines are those of a commit's changes. They are UTF-8, as every line that is written is.
pub record AreChangesIn (wording : Wording) (things : Things) (lines : List ℕ) (changes : List Change) : Type 0 where
  pub committed : AreCommitted changes
  pub utf8 : IsUtf8 lines
  pub each : AreLinesOf (IsChangeText wording things) lines changes

-- the text is that of this commit behind a text of the session before
pub record IsCommitText (wording : Wording) (things : Things) (before : Option SessionNo) (text : List ℕ) (session : SessionNo) (changes : List Change) : Type 0 where
  pub lawful : log.IsSession session.0
  pub lines : List ℕ
  pub of : AreChangesIn wording things lines changes
  pub written : text ≡ log.commit_text (number_of before) session.0 lines

-- the text is that of one definition, with a line feed behind it
pub record IsLoneDefinition (wording : Wording) (things : Things) (text : List ℕ) (changes : List Change) : Type 0 where
  pub definition : Definition
  pub lines : List ℕ
  pub is : changes ≡ c.Define definition ∷ []
  pub of : IsDefinitionText wording things lines definition
  pub written : text ≡ lines ++ 10 ∷ []
