-- Where expressions of a query are evaluated, also the keys of ORDER BY.
use Rattle.std.specs.Prelude.{List, map}
use Rattle.hs_expression.specs.Surroundings.{Surroundings, rows_around}
use Rattle.hs_answer.specs.Layers.{Line}
use Rattle.hs_answer.specs.Places.{in_rows}
use Rattle.hs_places.specs.Lines.{lines_seen}
use Rattle.hs_places.specs.Places.{places_seen}
use Rattle.hs_settled.specs.declared.spots.Spots.{Spots}
use Rattle.hs_settled.specs.declared.spots.Spots.TheVariants as spot

-- where the keys of a line are evaluated
abbrev pub key_place : Line → Surroundings
key_place line = in_rows line.around

abbrev pub spots_seen : Spots → List Surroundings
spots_seen (spot.At places) = places_seen places
spots_seen (spot.Keys outer lines) = map key_place (lines_seen (rows_around outer.now) lines.now)
