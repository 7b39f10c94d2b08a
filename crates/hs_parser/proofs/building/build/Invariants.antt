use Rattle.std.proofs.Common.{◌≡◌, ◌≤◌, drop}
use Rattle.hs_builder.specs.MarkSteps.{no_parts}
use Rattle.hs_parser.specs.Building.{built}
use Rattle.hs_parser.proofs.building.build.Given as goal

abbrev pub invariant-loop-item : goal.invariant-loop-item
invariant-loop-item l =
    (l.taken ≤ l.item-index) × (built l.text l.tokens l.taken (drop l.item-index l.items) l.parts ≡ built l.text l.tokens 0 l.items no_parts)
