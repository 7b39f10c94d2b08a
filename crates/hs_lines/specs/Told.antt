-- The lines that a turn tells.
use Rattle.std.specs.Prelude.{ℕ, Bool, true, false, List, [], ◌∷◌, length, map, filter, None, codes, slice_index_or}
use Rattle.std.specs.Option.{option_map}
use Rattle.hs_claims.specs.declared.blockers.Blockers.{Blockers}
use Rattle.hs_claims.specs.Blockers.{has}
use Rattle.hs_schema.specs.Catalogue.{Text}
use Rattle.hs_turns.specs.Dialect.{refused_words}
use Rattle.hs_turns.specs.Lines.{Words, RowOf, Replies, First, WaitsFor, Line, OpenedAt, OfItem, EndOf, no_session}
use Rattle.hs_turns.specs.Waiting.{ascending}
use Rattle.hs_lines.specs.declared.words.Words.{Words as Said}
use Rattle.hs_lines.specs.declared.words.Words.TheVariants as said
use Rattle.hs_lines.specs.declared.told.Told.{Told}
use Rattle.hs_lines.specs.declared.told.Told.TheVariants as told
use Rattle.hs_lines.specs.Names.{name_in}

-- the names of the sessions of a set, in the order of their numbers
abbrev pub sessions_in : List Text → Blockers → List Text
sessions_in names set = map (name_in names) (filter (has set) (ascending 1 (length names)))

-- what stands before a name, by whether it is the first of a list
abbrev pub behind : Bool → Text
behind true = []
behind false = codes ", "

abbrev pub is_none : {X : Type 0} → List X → Bool
is_none [] = true
is_none (x ∷ xs) = false

abbrev pub words_of : List Text → Said → Words
words_of names (said.Row text) = RowOf text
words_of names (said.Reply text commit) = Replies text (option_map (λ c. c.0) commit)
words_of names (said.First commit) = First commit.0
words_of names (said.WaitsFor sessions) = WaitsFor (sessions_in names sessions)

abbrev pub refused_line : ℕ → Text → Text → Line
refused_line number session why = OfItem number session (Replies (refused_words why) None)

-- the lines, where sessions have these names
abbrev pub lines_of : List Text → Told → List Line
lines_of names told.Nothing = []
lines_of names (told.OfEntry number session words) = map (OfItem number (name_in names session.0)) (map (words_of names) words.items)
lines_of names (told.Bad number) = refused_line number no_session (codes "entry") ∷ []
lines_of names (told.TooLong number) = refused_line number no_session (codes "too long") ∷ []
lines_of names (told.TooManySessions number session) = refused_line number session (codes "sessions") ∷ []
lines_of names (told.EndOf session) = EndOf (name_in names session.0) ∷ []

-- the line at a place, counted from 0
abbrev pub line_at : List Text → Told → ℕ → Line
line_at names told at = slice_index_or (lines_of names told) at (OpenedAt 0)
