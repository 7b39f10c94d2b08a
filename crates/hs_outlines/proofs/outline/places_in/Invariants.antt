use Rattle.std.proofs.Common.{◌≡◌, drop, fold, map}
use Rattle.hs_elements.specs.Columns.{place_in}
use Rattle.hs_meaning.specs.Parts.{with_part}
use Rattle.hs_outlines.specs.Outline.{places_in}
use Rattle.hs_outlines.proofs.outline.places_in.Given as goal

abbrev pub invariant-loop-name : goal.invariant-loop-name
invariant-loop-name l = fold with_part l.places (map (λ n. place_in l.names n.name) (drop l.name-index l.list)) ≡ places_in l.names l.list
