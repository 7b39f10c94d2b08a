-- The lines of a transcript, and the one text of each.
use Rattle.std.specs.Prelude.{ℕ, ◌==◌, ◌&&◌, Bool, true, false, List, [], ◌∷◌, ◌++◌, map, count_by, Option, None, Some, codes}
use Rattle.std.specs.Fmt.{decimal}
use Rattle.hs_schema.specs.Catalogue.{Text}

-- What is told of an entry: a row of its answer; its reply, with the number of the commit that it made; the number
-- of the commit of its session's own changes, which a definition makes first; or the sessions for which it begins
-- to wait.
pub data Words : Type 0 where
  RowOf : Text → Words
  Replies : Text → Option ℕ → Words
  First : ℕ → Words
  WaitsFor : List Text → Words

-- The first and the last line, with the number of commits; a line of an item, with its number and the name of its
-- session; and the end of a session whose transaction is rolled back.
pub data Line : Type 0 where
  OpenedAt : ℕ → Line
  ClosedAt : ℕ → Line
  OfItem : ℕ → Text → Words → Line
  EndOf : Text → Line

-- an item that is bad or too long is of no session
abbrev pub no_session : Text
no_session = codes "-"

-- names with a comma and a space between them
abbrev pub listed : List Text → Text
listed [] = []
listed (name ∷ []) = name
listed (name ∷ next ∷ more) = name ++ codes ", " ++ listed (next ∷ more)

abbrev pub committed_text : Option ℕ → Text
committed_text None = []
committed_text (Some number) = codes " committed " ++ decimal number

abbrev pub words_text : Words → Text
words_text (RowOf row) = row
words_text (Replies text commit) = text ++ committed_text commit
words_text (First number) = codes "first" ++ committed_text (Some number)
words_text (WaitsFor names) = codes "waits for " ++ listed names

-- what stands in a line before the line feed that ends it
abbrev pub line_text : Line → Text
line_text (OpenedAt commits) = codes "opened at " ++ decimal commits
line_text (ClosedAt commits) = codes "closed at " ++ decimal commits
line_text (OfItem number session words) = decimal number ++ codes " " ++ session ++ codes ": " ++ words_text words
line_text (EndOf session) = codes "end " ++ session ++ codes ": rolled back"

abbrev pub printed : List Line → Text
printed [] = []
printed (line ∷ lines) = line_text line ++ codes "\n" ++ printed lines

-- ---- replies

-- rows, and then a reply
abbrev pub told : List Text → Text → Option ℕ → List Words
told rows reply commit = map RowOf rows ++ Replies reply commit ∷ []

abbrev pub is_reply : Words → Bool
is_reply (Replies text commit) = true
is_reply (RowOf row) = false
is_reply (First number) = false
is_reply (WaitsFor names) = false

-- it is the reply to the item of this number
abbrev pub replies_to : ℕ → Line → Bool
replies_to n (OfItem number session words) = (number == n) && is_reply words
replies_to n (OpenedAt commits) = false
replies_to n (ClosedAt commits) = false
replies_to n (EndOf session) = false

-- how many of these lines reply to an item
abbrev pub replies_among : ℕ → List Line → ℕ
replies_among n lines = count_by (replies_to n) lines
