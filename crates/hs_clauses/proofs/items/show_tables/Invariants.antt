use Rattle.std.proofs.Common.{◌≡◌, ◌++◌, drop}
use Rattle.std.specs.List.{enumerate_from}
use Rattle.hs_meaning.specs.Selects.{stars}
use Rattle.hs_scope.specs.Names.{every_column}
use Rattle.hs_meaning.specs.Around.{seen}
use Rattle.hs_typed.specs.Faults.{noted}
use Rattle.hs_clauses.proofs.items.show_tables.Given as goal

abbrev pub invariant-loop-table : goal.invariant-loop-table
invariant-loop-table l = record {
  shown : l.shown.items ++ (stars l.at (seen l.around) (enumerate_from l.place (every_column (drop l.table-index l.tables)))).shown ≡ l.fn.shown.items ++ (stars l.at (seen l.around) (enumerate_from 0 (every_column l.tables))).shown;
  noted : noted l.faults (stars l.at (seen l.around) (enumerate_from l.place (every_column (drop l.table-index l.tables)))).faults ≡ noted l.fn.faults (stars l.at (seen l.around) (enumerate_from 0 (every_column l.tables))).faults;
}
