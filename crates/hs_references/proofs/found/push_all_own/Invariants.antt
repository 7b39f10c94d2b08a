use Rattle.std.proofs.Common.{◌≡◌, ◌++◌, List, drop}
use Rattle.std.specs.List.{flat_map}
use Rattle.hs_plan.specs.declared.definition.Constraint.{Constraint}
use Rattle.hs_actions.specs.declared.reference.Reference.{Reference}
use Rattle.hs_references.specs.Referenced.{own_by}
use Rattle.hs_references.proofs.found.push_all_own.Given as goal

abbrev pub invariant-loop-constraint : goal.invariant-loop-constraint
invariant-loop-constraint l =
    let one : Constraint → List Reference = λ c. own_by l.cat l.table c.name c.rule in
    l.found.items ++ flat_map one (drop l.constraint-index l.table.constraints) ≡ l.fn.found.items ++ flat_map one l.table.constraints
