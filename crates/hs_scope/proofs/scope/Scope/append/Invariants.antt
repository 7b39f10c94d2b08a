use Rattle.std.proofs.Common.{◌≡◌, ◌++◌}
use Rattle.std.specs.Vec.Iter.{into_iter_items}
use Rattle.hs_scope.proofs.scope.Scope.append.Given as goal

abbrev pub invariant-loop-table : goal.invariant-loop-table
invariant-loop-table l = record {
  rest : l.yielded ++ into_iter_items l.table-iterator ≡ into_iter_items l.initial.table-iterator;
  put : l.self ≡ l.initial.self ++ l.yielded;
}
