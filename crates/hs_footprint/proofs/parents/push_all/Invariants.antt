use Rattle.std.proofs.Common.{◌≡◌, ◌++◌, List, drop}
use Rattle.std.specs.List.{flat_map}
use Rattle.hs_plan.specs.declared.definition.Constraint.{Constraint}
use Rattle.hs_claims.specs.declared.key_names.KeyName.{KeyName}
use Rattle.hs_footprint.specs.Touched.{named_by}
use Rattle.hs_footprint.proofs.parents.push_all.Given as goal

abbrev pub invariant-loop-constraint : goal.invariant-loop-constraint
invariant-loop-constraint l =
    let one : Constraint → List KeyName = λ c. named_by l.cat l.row c.rule in
    l.keys ++ flat_map one (drop l.constraint-index l.constraints) ≡ l.fn.keys ++ flat_map one l.constraints
