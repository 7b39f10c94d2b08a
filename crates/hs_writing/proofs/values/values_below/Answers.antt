use Rattle.std.proofs.Common.{◌≡◌, ◌≤◌, List, [], length, drop, fold, map, arith, sym, ap, ◌∙◌}
use Rattle.std.specs.List.{flat_map}
use Rattle.std.proofs.lemmas.List.{drop_all}
use Rattle.hs_meaning.specs.Parts.{Meaning, with_part}
use Rattle.hs_plan.specs.declared.plan.NewValue.{NewValue}
use Rattle.hs_typed.specs.Faults.{noted}
use Rattle.hs_writing.specs.Values.{values_below}
use Rattle.hs_writing.proofs.Shorter.{none_below}
use Rattle.hs_writing.proofs.values.values_below.Goals as goal

pub returns-then-i-values : goal.returns-then-i-values
returns-then-i-values g c =
    let i = c.loop-i.i in
    let columns = drop i c.args.columns.now in
    let values = c.args.values.now in
    let end : length values ≤ i = omega (arith, c.if-i-values.true) in
    let none : [] ≡ values_below c.args.catalog.now c.args.scope.now columns (drop i values) = sym (none_below c.args.catalog.now c.args.scope.now columns (drop i values) (drop_all i values end)) in (
      ap (λ (l : List (Meaning NewValue)). fold with_part c.loop-i.made (map (λ m. m.part) l)) none ∙ c.loop-i.invariant.part,
      ap (λ (l : List (Meaning NewValue)). noted c.loop-i.faults (flat_map (λ m. m.faults) l)) none ∙ c.loop-i.invariant.noted,
    )
