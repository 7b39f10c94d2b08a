use Rattle.std.proofs.Common.{◌≡◌, ◌++◌}
use Rattle.hs_schema.proofs.copies.copy_tables.Given as goal

abbrev pub invariant-loop-number : goal.invariant-loop-number
invariant-loop-number l = l.copied.entries ++ l.number-iterator ≡ l.tables.entries
