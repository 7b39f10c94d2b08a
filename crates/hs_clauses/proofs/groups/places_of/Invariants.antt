use Rattle.std.proofs.Common.{◌≡◌, ◌++◌, drop}
use Rattle.hs_clauses.specs.Forms.{places_of}
use Rattle.hs_clauses.proofs.groups.places_of.Given as goal

abbrev pub invariant-loop-e : goal.invariant-loop-e
invariant-loop-e l = l.made ++ places_of l.tables (drop l.e-index l.group_by) ≡ places_of l.tables l.group_by
