use Rattle.std.proofs.Common.{◌≡◌, drop, map, nat_eq}
use Rattle.indexmap.specs.IndexSet.{insert_all}
use Rattle.hs_closure.proofs.table_set.TableSet.add_all.Given as goal

abbrev pub invariant-loop-table : goal.invariant-loop-table
invariant-loop-table l = insert_all nat_eq l.self (map (λ t. t.0) (drop l.table-index l.tables)) ≡ insert_all nat_eq l.fn.self (map (λ t. t.0) l.tables)
