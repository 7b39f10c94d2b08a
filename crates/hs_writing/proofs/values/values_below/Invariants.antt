use Rattle.std.proofs.Common.{◌≡◌, List, drop, fold, map}
use Rattle.std.specs.List.{flat_map}
use Rattle.hs_meaning.specs.Parts.{Meaning, all, with_part}
use Rattle.hs_plan.specs.declared.plan.NewValue.{NewValue}
use Rattle.hs_typed.specs.Faults.{noted}
use Rattle.hs_writing.specs.Values.{values_below}
use Rattle.hs_writing.proofs.values.values_below.Given as goal

abbrev pub invariant-loop-i : goal.invariant-loop-i
invariant-loop-i g l =
    let left : List (Meaning NewValue) = values_below l.catalog l.scope (drop l.i l.columns) (drop l.i l.values) in
    let whole : Meaning (List NewValue) = all (values_below l.catalog l.scope l.columns l.values) in
    record {
      part : fold with_part l.made (map (λ m. m.part) left) ≡ whole.part;
      noted : noted l.faults (flat_map (λ m. m.faults) left) ≡ noted l.fn.faults whole.faults;
    }
