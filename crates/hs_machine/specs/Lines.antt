-- The lines of the output, as values, and the one text of each.
use Rattle.std.specs.Prelude.{ℕ, ◌==◌, List, [], ◌∷◌, ◌++◌, Option, None, Some, if◌then◌else◌, codes}
use Rattle.std.specs.Fmt.{decimal}
use Rattle.hs_values.specs.declared.value.Value.{Value}
use Rattle.hs_machine.specs.declared.refusal.Refusal.{Refusal}
use Rattle.hs_machine.specs.declared.refusal.Refusal.TheVariants.{TooLong, Entry, Sessions, NotBuilt, NoSuch, Exists}
use Rattle.hs_machine.specs.Values.{row_text}

-- A line. All but the first and the last of a transcript are of an item, by its number and the name of its session: a
-- row of its answer, or its final reply. The numbers of a reply are how many rows, and which commit.
pub data Line : Type 0 where
  OpenedAt : ℕ → Line
  ClosedAt : ℕ → Line
  RowOf : ℕ → List ℕ → List Value → Line
  OkOf : ℕ → List ℕ → Option ℕ → Option ℕ → Line
  RefusedOf : ℕ → List ℕ → Refusal → Line

-- an entry that is bad or too long is of no session
abbrev pub no_session : List ℕ
no_session = codes "-"

abbrev pub count_text : ℕ → List ℕ
count_text n = codes " " ++ decimal n ++ (if n == 1 then codes " row" else codes " rows")

abbrev pub committed_text : ℕ → List ℕ
committed_text n = codes " committed " ++ decimal n

abbrev pub text_or_nothing : (ℕ → List ℕ) → Option ℕ → List ℕ
text_or_nothing text None = []
text_or_nothing text (Some n) = text n

-- a done item
abbrev pub ok_text : Option ℕ → Option ℕ → List ℕ
ok_text count committed = codes "ok" ++ text_or_nothing count_text count ++ text_or_nothing committed_text committed

abbrev pub refusal_text : Refusal → List ℕ
refusal_text TooLong = codes "too long"
refusal_text Entry = codes "entry"
refusal_text Sessions = codes "sessions"
refusal_text NotBuilt = codes "not built"
refusal_text (NoSuch name) = codes "no such " ++ name
refusal_text (Exists name) = codes "exists " ++ name

-- `N s: text`, for item N of session s
abbrev pub of_item : ℕ → List ℕ → List ℕ → List ℕ
of_item number session text = decimal number ++ codes " " ++ session ++ codes ": " ++ text

-- what stands in a line before the line feed that ends it
abbrev pub text_of : Line → List ℕ
text_of (OpenedAt commits) = codes "opened at " ++ decimal commits
text_of (ClosedAt commits) = codes "closed at " ++ decimal commits
text_of (RowOf number session row) = of_item number session (codes "row " ++ row_text row)
text_of (OkOf number session count committed) = of_item number session (ok_text count committed)
text_of (RefusedOf number session refusal) = of_item number session (codes "refused " ++ refusal_text refusal)

abbrev pub printed_line : Line → List ℕ
printed_line line = text_of line ++ codes "\n"

-- lines one behind the other
abbrev pub printed : List Line → List ℕ
printed [] = []
printed (line ∷ lines) = printed_line line ++ printed lines
