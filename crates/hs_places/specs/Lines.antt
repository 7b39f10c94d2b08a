-- The lines of a body, as the types of the code show them.
use Rattle.std.specs.Prelude.{ℕ, List, [], ◌∷◌, map, Option, None, Some}
use Rattle.hs_expression.specs.Surroundings.{Rows, Surroundings}
use Rattle.hs_answer.specs.Layers.{Line}
use Rattle.hs_answer.specs.Selects.{bare}
use Rattle.hs_places.specs.declared.lines.Lines.{Lines}
use Rattle.hs_places.specs.declared.places.Over.{Over}
use Rattle.hs_places.specs.Places.{around_of, places_over}

-- each row with the rows around its place
abbrev pub lines_at : List Surroundings → Rows → List Line
lines_at places [] = []
lines_at [] (row ∷ rows) = bare [] row ∷ lines_at [] rows
lines_at (s ∷ places) (row ∷ rows) = bare s.rows row ∷ lines_at places rows

abbrev pub lines_over : Rows → Option Over → Rows → List Line
lines_over outer None rows = map (bare outer) rows
lines_over outer (Some over) rows = lines_at (places_over outer over) rows

abbrev pub lines_seen : Rows → Lines → List Line
lines_seen outer lines = lines_over outer lines.over lines.rows

-- the rows around the keys of a line
abbrev pub line_around : Rows → Option Over → ℕ → Rows
line_around outer None at = outer
line_around outer (Some over) at = around_of (places_over outer over) at
