use Rattle.std.proofs.Common.{◌≡◌}
use Rattle.std.specs.List.{list_any}
use Rattle.hs_keyed.proofs.scan.any_entry.Given as goal

abbrev pub invariant-loop-number : goal.invariant-loop-number
invariant-loop-number g l =
    let test = g.T.RowTest.test l.test in
    list_any (λ e. test e.0 e.1) l.rows.entries ≡ list_any (λ e. test e.0 e.1) l.number-iterator
