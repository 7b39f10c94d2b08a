use Rattle.std.proofs.Common.{◌≡◌, ◌++◌, drop}
use Rattle.hs_schema.specs.Catalogue.{constraints_made}
use Rattle.hs_schema.proofs.making.constraint_things.Given as goal

abbrev pub invariant-loop-constraint : goal.invariant-loop-constraint
invariant-loop-constraint l =
    l.out.items ++ constraints_made l.number l.table (drop l.constraint-index l.constraints) ≡ l.fn.out.items ++ constraints_made l.number l.table l.constraints
