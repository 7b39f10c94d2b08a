use Rattle.std.proofs.Common.{◌≡◌, ℕ, ◌==◌, ◌-◌, ◌^◌, false}
use Rattle.hs_changes.specs.Settings.{Maps}
use Rattle.hs_draft.specs.Drafted.{after}
use Rattle.hs_index.specs.Table.{Rows}
use Rattle.hs_rows.specs.Numbers.{start}
use Rattle.hs_seated.specs.Rows.{AreRows}
use Rattle.hs_redefining.specs.Longer.{AreLonger, AreWithin}
use Rattle.hs_redefining.proofs.ByNumber.{AreMixed}
use Rattle.hs_redefining.proofs.copying.copy_table.Given as goal

abbrev pub invariant-loop-row : goal.invariant-loop-row
invariant-loop-row l = record {
  rows : (maps : Maps) (grown : Rows) → AreRows maps l.from → AreLonger l.more (maps l.table.0) grown → AreWithin (after l.fn.into l.table.0) grown → AreMixed grown (after l.fn.into l.table.0) (start l.last) (after l.into l.table.0);
  others : (t : ℕ) → (t == l.table.0) ≡ false → after l.into t ≡ after l.fn.into t;
}

abbrev pub decreases-loop-row : goal.decreases-loop-row
decreases-loop-row l = 2 ^ 64 - start l.last
