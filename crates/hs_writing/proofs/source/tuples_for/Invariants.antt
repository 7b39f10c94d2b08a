use Rattle.std.proofs.Common.{◌≡◌, List, drop, fold, map}
use Rattle.std.specs.List.{flat_map}
use Rattle.hs_meaning.specs.Parts.{Meaning, with_part}
use Rattle.hs_plan.specs.declared.plan.NewValue.{NewValue}
use Rattle.hs_typed.specs.Faults.{noted}
use Rattle.hs_writing.specs.Values.{tuple_meaning, tuples_meaning}
use Rattle.hs_writing.proofs.source.tuples_for.Given as goal

abbrev pub invariant-loop-tuple : goal.invariant-loop-tuple
invariant-loop-tuple g l =
    let left : List (Meaning (List NewValue)) = map (tuple_meaning l.catalog l.scope l.columns) (drop l.tuple-index l.tuples) in
    let whole : Meaning (List (List NewValue)) = tuples_meaning l.catalog l.scope l.columns l.tuples in
    record {
      part : fold with_part l.made (map (λ m. m.part) left) ≡ whole.part;
      noted : noted l.faults (flat_map (λ m. m.faults) left) ≡ noted l.fn.faults whole.faults;
    }
