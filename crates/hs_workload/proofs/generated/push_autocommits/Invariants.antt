use Rattle.std.proofs.Common.{◌≡◌, ◌++◌}
use Rattle.hs_workload.specs.Generator.{lines, autocommit_line}
use Rattle.hs_workload.proofs.generated.push_autocommits.Given as goal

abbrev pub invariant-loop-session : goal.invariant-loop-session
invariant-loop-session l = l.out ≡ l.fn.out ++ lines autocommit_line l.session
