use Rattle.std.proofs.Common.{◌≡◌, ℕ, ◌+◌, ◌++◌}
use Rattle.hs_workload.specs.Generator.{lines, entry_line, number_of}
use Rattle.hs_workload.proofs.generated.push_entries.Given as goal

abbrev pub invariant-loop : goal.invariant-loop
invariant-loop l = record {
  number : l.x ≡ number_of l.fn.n l.counter;
  written : l.out ≡ l.fn.out ++ lines (λ i. entry_line (number_of l.fn.n (i + 1))) l.counter;
}
