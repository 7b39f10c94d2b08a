use Rattle.std.proofs.Common.{◌≡◌, drop, nat_eq}
use Rattle.indexmap.specs.IndexSet.{insert_all}
use Rattle.hs_closure.proofs.table_set.TableSet.add_set.Given as goal

abbrev pub invariant-loop-number : goal.invariant-loop-number
invariant-loop-number l = insert_all nat_eq l.self (drop l.number-index l.more) ≡ insert_all nat_eq l.fn.self l.more
