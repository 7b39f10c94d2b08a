-- What the texts so far made.
use Rattle.std.proofs.Common.{◌≡◌, take}
use Rattle.hs_logged.specs.Read.{IsStanding, Restores, StandsFor}
use Rattle.hs_logged.specs.Redone.{State}
use Rattle.hs_logged.proofs.replay.Replay.redo_all.Given as goal

abbrev pub invariant-loop-text : goal.invariant-loop-text
invariant-loop-text g l = record {
  number : l.number ≡ l.text-index;
  stands : IsStanding g.D.Restored.stands l.self.database l.self.last;
  so_far : (at : State) → StandsFor g.D.Restored.stands l.fn.self.database l.fn.self.last at
      → Restores (g.C.Conditions.wording l.conditions) g.D.Restored.takes (StandsFor g.D.Restored.stands l.self.database l.self.last) at (take l.text-index l.texts);
}
