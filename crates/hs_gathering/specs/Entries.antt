-- The lines of an entry.
use Rattle.std.specs.Prelude.{ℕ, List, map}
use Rattle.hs_lines.specs.Names.{name_in}
use Rattle.hs_lines.specs.Told.{words_of}
use Rattle.hs_lines.specs.declared.words.Words.{Words as Said}
use Rattle.hs_schema.specs.Catalogue.{Text}
use Rattle.hs_turns.specs.Lines.{Line, OfItem}

-- the lines of an entry of a session, where sessions have these names
abbrev pub entry_lines : List Text → ℕ → ℕ → List Said → List Line
entry_lines names number session words = map (OfItem number (name_in names session)) (map (words_of names) words)
