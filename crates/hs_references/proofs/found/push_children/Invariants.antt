use Rattle.std.proofs.Common.{◌≡◌, ◌++◌, drop}
use Rattle.std.specs.List.{flat_map}
use Rattle.hs_references.specs.Referenced.{child_reference}
use Rattle.hs_references.proofs.found.push_children.Given as goal

abbrev pub invariant-loop-child : goal.invariant-loop-child
invariant-loop-child l = let one = child_reference l.cat l.parent in l.found.items ++ flat_map one (drop l.child-index l.children) ≡ l.fn.found.items ++ flat_map one l.children
