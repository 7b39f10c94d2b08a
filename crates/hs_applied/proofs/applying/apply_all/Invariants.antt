use Rattle.std.proofs.Common.{◌≡◌, ◌+◌, take}
use Rattle.hs_changes.specs.Changes.{count_all_inserted, settings_of}
use Rattle.hs_applied.specs.Applied.{AreSet, Keeps}
use Rattle.hs_applied.specs.Undone.{olds_of}
use Rattle.hs_applied.proofs.applying.apply_all.Given as goal

abbrev pub invariant-loop-change : goal.invariant-loop-change
invariant-loop-change l = record {
  count : l.count ≡ l.inserted + count_all_inserted (take l.change-index l.changes);
  set : AreSet (settings_of l.inserted (take l.change-index l.changes)) l.fn.draft l.draft;
  keeps : Keeps l.fn.draft l.draft (olds_of l.fn.undo) (olds_of l.undo);
}
