use Rattle.std.proofs.Common.{◌≡◌, List, drop, fold, map}
use Rattle.std.specs.List.{flat_map}
use Rattle.hs_meaning.specs.Parts.{Meaning, with_part}
use Rattle.hs_plan.specs.declared.plan.Assignment.{Assignment}
use Rattle.hs_typed.specs.Faults.{noted}
use Rattle.hs_writing.specs.Statements.{assignment_meaning, assignments_meaning}
use Rattle.hs_writing.proofs.update.assignments_for.Given as goal

abbrev pub invariant-loop-a : goal.invariant-loop-a
invariant-loop-a g l =
    let left : List (Meaning Assignment) = map (assignment_meaning l.catalog l.scope l.names) (drop l.a-index l.assignments) in
    let whole : Meaning (List Assignment) = assignments_meaning l.catalog l.scope l.names l.assignments in
    record {
      part : fold with_part l.made (map (λ m. m.part) left) ≡ whole.part;
      noted : noted l.faults (flat_map (λ m. m.faults) left) ≡ noted l.fn.faults whole.faults;
    }
