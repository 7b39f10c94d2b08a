use Rattle.std.proofs.Common.{◌≡◌, ◌||◌, map, drop}
use Rattle.std.specs.List.{list_any}
use Rattle.hs_meaning.specs.Expressions.{in_any}
use Rattle.hs_meaning.specs.Trees.{arm_of, part_of}
use Rattle.hs_grouping.proofs.aggregates.+aggregates.Given as goal

abbrev pub invariant-any_has-loop-e : goal.invariant-any_has-loop-e
invariant-any_has-loop-e l = in_any (map (part_of l.catalog) l.all) ≡ in_any (map (part_of l.catalog) (drop l.e-index l.all))

abbrev pub invariant-arms_have-loop-arm : goal.invariant-arms_have-loop-arm
invariant-arms_have-loop-arm l = list_any (λ arm. arm.test.form.aggregate || arm.value.form.aggregate) (map (arm_of l.catalog) l.arms) ≡ list_any (λ arm. arm.test.form.aggregate || arm.value.form.aggregate) (map (arm_of l.catalog) (drop l.arm-index l.arms))
