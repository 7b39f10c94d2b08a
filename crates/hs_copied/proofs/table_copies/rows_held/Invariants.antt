use Rattle.std.proofs.Common.{◌≡◌, ◌==◌, cond, fold, drop}
use Rattle.hs_copied.specs.declared.table_copies.TableCopy.{TableCopy}
use Rattle.hs_copied.specs.Copies.{rows_held}
use Rattle.hs_copied.proofs.table_copies.rows_held.Given as goal

abbrev pub invariant-loop-copy : goal.invariant-loop-copy
invariant-loop-copy l = rows_held l.copies l.table ≡ fold (λ rows (copy : TableCopy). cond (copy.table.0 == l.table) copy.rows rows) l.found (drop l.copy-index l.copies)
