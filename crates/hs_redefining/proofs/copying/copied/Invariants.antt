use Rattle.hs_changes.specs.Settings.{Maps}
use Rattle.hs_draft.specs.Drafted.{after}
use Rattle.hs_seated.specs.Rows.{AreRows}
use Rattle.hs_redefining.specs.Effects.{rows_by}
use Rattle.hs_redefining.proofs.Copied.{AreCopied}
use Rattle.hs_redefining.proofs.copying.copied.Given as goal

abbrev pub invariant-loop-table : goal.invariant-loop-table
invariant-loop-table l = (maps : Maps) → AreRows maps l.from → AreCopied (rows_by l.effect maps) l.table-items l.table-index (after l.draft)
