use Rattle.std.proofs.Common.{◌≡◌, ◌+◌, ◌++◌, drop}
use Rattle.std.specs.List.{enumerate_from}
use Rattle.hs_meaning.specs.Selects.{stars}
use Rattle.hs_meaning.specs.Around.{seen}
use Rattle.hs_typed.specs.Faults.{noted}
use Rattle.hs_clauses.proofs.items.show_columns.Given as goal

abbrev pub invariant-loop-column : goal.invariant-loop-column
invariant-loop-column l = record {
  place : l.place ≡ l.fn.first + l.column-index;
  shown : l.shown.items ++ (stars l.at (seen l.around) (enumerate_from l.place (drop l.column-index l.columns))).shown ≡ l.fn.shown.items ++ (stars l.at (seen l.around) (enumerate_from l.fn.first l.columns)).shown;
  noted : noted l.faults (stars l.at (seen l.around) (enumerate_from l.place (drop l.column-index l.columns))).faults ≡ noted l.fn.faults (stars l.at (seen l.around) (enumerate_from l.fn.first l.columns)).faults;
}
