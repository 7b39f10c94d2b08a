-- What futures promise.
use Rattle.std.specs.Prelude.{◌≡◌, ℕ, ◌+◌, List, length, Some}
use Rattle.hs_entries.specs.declared.item.Item.{Item}
use Rattle.hs_machine.specs.Acknowledged.{AcknowledgesLines}
use Rattle.hs_run.specs.Items.{AreTold}
use Rattle.hs_seams.specs.World.{World}
use Rattle.hs_turns.specs.Lines.{printed}
use Rattle.hs_turns.specs.Machine.{start}
use Rattle.hs_turns.specs.Turns.{Turned, after, turn}

-- Each turn of a run over items such as an input has tells whole lines, and of no commit that isn't made by then.
abbrev pub IsTold : World → Type 0
IsTold w = (items : List Item) (n : ℕ) (t : Turned) → AreTold items → turn w.run.dialect w.run.opening w.run.made (after w.run.dialect w.run.opening w.run.made n (start w.run.opening items)) ≡ Some t
    → AcknowledgesLines (printed t.lines) (w.run.made + length t.next.history.commits)
