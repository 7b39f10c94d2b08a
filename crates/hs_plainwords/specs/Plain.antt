-- Texts and lines that can't be taken for a line that tells of another commit.
use Rattle.std.specs.Prelude.{◌≡◌, ◌&&◌, ℕ, ◌<◌, ◌≤◌, ◌^◌, Bool, true, false, List, ◌++◌, Some, codes}
use Rattle.std.specs.List.{Contains, list_all}
use Rattle.std.specs.Str.{is_utf8}
use Rattle.hs_entries.specs.declared.item.Item.{Item}
use Rattle.hs_entries.specs.declared.item.Item.TheVariants as item
use Rattle.hs_entries.specs.Entry.{is_session}
use Rattle.hs_entries.specs.Parts.{lacks}
use Rattle.hs_schema.specs.Catalogue.{Text}
use Rattle.hs_turns.specs.Dialect.{refused_words}
use Rattle.hs_turns.specs.Laws.{commit_told}
use Rattle.hs_turns.specs.Lines.{Line, committed_text, line_text, replies_to}
use Rattle.hs_turns.specs.Turns.{whole_text}
use Rattle.hs_plainwords.specs.Answers.{answers_to, is_final}

-- what is told of an entry: it has no line feed, and a line that ends in it, behind `: `, doesn't end in ` committed n`
pub record IsPlainText (text : Text) : Type 0 where
  pub single : lacks 10 text ≡ true
  pub silent : (before : Text) (n : ℕ) → codes ": " ++ text ≡ before ++ committed_text (Some n) → ⊥

-- a row of an answer, which can't be taken for a reply
pub record IsPlainRow (row : Text) : Type 0 where
  pub plain : IsPlainText row
  pub other : is_final row ≡ false

-- that it is refused for this reason
abbrev pub IsPlainReason : Text → Type 0
IsPlainReason why = IsPlainText (refused_words why)

-- one of these commits, or one before it
abbrev pub IsUpTo : List ℕ → ℕ → Type 0
IsUpTo commits n = (k : ℕ) × Contains commits k × (n ≤ k)

-- A line without a line feed, which ends in ` committed n` for no commit beyond one of which it tells. A number of more
-- than 64 digits isn't written in full. It answers an item where it replies to it.
pub record IsPlainLine (line : Line) : Type 0 where
  pub single : lacks 10 (line_text line) ≡ true
  pub told : (before : Text) (n : ℕ) → n < 10 ^ 64 → line_text line ≡ before ++ committed_text (Some n) → IsUpTo (commit_told line) n
  pub answers : (n : ℕ) → answers_to n line ≡ replies_to n line

-- an item of a session has the name of one, and is text
abbrev pub is_called : Item → Bool
is_called (item.Entry number name statement at) = is_session name && is_utf8 (whole_text name statement)
is_called (item.Bad number) = true
is_called (item.TooLong number) = true
is_called item.End = true

abbrev pub are_called : List Item → Bool
are_called items = list_all is_called items
