use Rattle.std.proofs.Common.{◌≡◌, ◌++◌}
use Rattle.hs_index.specs.Table.{IsIndexOf}
use Rattle.hs_keyed.specs.Kept.{rows_of}
use Rattle.hs_keyed.proofs.Stored.{Entries}
use Rattle.hs_keyed.proofs.scan.index_of.Given as goal

abbrev pub invariant-loop-number : goal.invariant-loop-number
invariant-loop-number l = record {
  columns : l.made.columns ≡ l.columns;
  front : Entries;
  all : front ++ l.number-iterator ≡ l.rows.entries;
  so_far : IsIndexOf l.columns (rows_of front) l.made.index;
}
