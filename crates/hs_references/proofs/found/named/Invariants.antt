use Rattle.std.proofs.Common.{◌≡◌, Bool, drop}
use Rattle.std.specs.List.{find}
use Rattle.std.specs.Str.{bytes_eq}
use Rattle.hs_plan.specs.declared.definition.Constraint.{Constraint}
use Rattle.hs_references.proofs.found.named.Given as goal

abbrev pub invariant-loop-constraint : goal.invariant-loop-constraint
invariant-loop-constraint l =
    let test : Constraint → Bool = λ c. bytes_eq l.name c.name in
    find test (drop l.constraint-index l.constraints) ≡ find test l.constraints
