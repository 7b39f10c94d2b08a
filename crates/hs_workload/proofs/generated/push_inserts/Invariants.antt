use Rattle.std.proofs.Common.{◌≡◌, ◌++◌}
use Rattle.hs_workload.specs.Generator.{lines, insert_line}
use Rattle.hs_workload.proofs.generated.push_inserts.Given as goal

abbrev pub invariant-loop-i : goal.invariant-loop-i
invariant-loop-i l = l.out ≡ l.fn.out ++ lines insert_line l.i
