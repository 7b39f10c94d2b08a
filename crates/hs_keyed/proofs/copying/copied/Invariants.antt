use Rattle.std.proofs.Common.{◌≡◌, ◌++◌}
use Rattle.hs_keyed.specs.Kept.{rows_of}
use Rattle.hs_keyed.proofs.Stored.{Entries}
use Rattle.hs_keyed.proofs.copying.copied.Given as goal

abbrev pub invariant-loop-number : goal.invariant-loop-number
invariant-loop-number l = record {
  front : Entries;
  all : front ++ l.number-iterator ≡ l.rows.entries;
  so_far : rows_of l.made.entries ≡ rows_of front;
}
