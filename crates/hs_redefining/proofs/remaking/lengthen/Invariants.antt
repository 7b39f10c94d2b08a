use Rattle.std.proofs.Common.{◌-◌, ◌^◌}
use Rattle.hs_changes.specs.Settings.{Maps}
use Rattle.hs_turns.specs.Definitions.{lengthened}
use Rattle.hs_rows.specs.Numbers.{start}
use Rattle.hs_seated.specs.Rows.{AreRows}
use Rattle.hs_redefining.proofs.Partly.{ArePartly}
use Rattle.hs_redefining.proofs.remaking.lengthen.Given as goal

abbrev pub invariant-loop-row : goal.invariant-loop-row
invariant-loop-row l = (maps : Maps) → AreRows maps l.fn.rows → ArePartly l.table.0 (lengthened l.value (maps l.table.0)) maps (start l.last) l.rows

abbrev pub decreases-loop-row : goal.decreases-loop-row
decreases-loop-row l = 2 ^ 64 - start l.last
