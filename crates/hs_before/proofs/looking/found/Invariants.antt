use Rattle.std.proofs.Common.{◌≡◌, ◌==◌, cond, fold, drop, Some}
use Rattle.std.specs.Option.{option_copied}
use Rattle.hs_before.specs.declared.held_rows.TableRows.{TableRows}
use Rattle.hs_before.specs.Held.{found_in}
use Rattle.hs_before.proofs.looking.found.Given as goal

abbrev pub invariant-loop-each : goal.invariant-loop-each
invariant-loop-each l = found_in l.tables l.table.0 ≡ fold (λ found (each : TableRows). cond (each.table.0 == l.table.0) (Some each.rows) found) (option_copied l.found) (drop l.each-index l.tables)
