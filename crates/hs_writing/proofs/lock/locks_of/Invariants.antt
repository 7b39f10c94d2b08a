use Rattle.std.proofs.Common.{◌≡◌, List, drop, fold, map}
use Rattle.std.specs.List.{flat_map}
use Rattle.hs_meaning.specs.Parts.{Meaning, with_part}
use Rattle.hs_plan.specs.declared.plan.LockedTable.{LockedTable}
use Rattle.hs_typed.specs.Faults.{noted}
use Rattle.hs_writing.specs.Statements.{lock_meaning, locks_meaning}
use Rattle.hs_writing.proofs.lock.locks_of.Given as goal

abbrev pub invariant-loop-l : goal.invariant-loop-l
invariant-loop-l l =
    let left : List (Meaning LockedTable) = map (lock_meaning l.catalog) (drop l.l-index l.locks) in
    let whole : Meaning (List LockedTable) = locks_meaning l.catalog l.locks in
    record {
      part : fold with_part l.made (map (λ m. m.part) left) ≡ whole.part;
      noted : noted l.faults (flat_map (λ m. m.faults) left) ≡ noted l.fn.faults whole.faults;
    }
