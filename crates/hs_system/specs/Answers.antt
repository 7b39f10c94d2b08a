-- The lines of a run over what the texts of a log made, in a system, and how many of them answer an item.
use Rattle.std.specs.Prelude.{ℕ, List}
use Rattle.hs_entries.specs.declared.item.Item.{Item}
use Rattle.hs_logged.specs.Redone.{State}
use Rattle.hs_turns.specs.Lines.{Line}
use Rattle.hs_turns.specs.Machine.{start}
use Rattle.hs_turns.specs.Turns.{lines, weight}
use Rattle.hs_system.specs.Openings.{world_of}
use Rattle.hs_system.specs.System.{System}
pub use Rattle.hs_plainwords.specs.Answers.{answers_among}

-- the lines that all its turns tell
abbrev pub lines_of : System → State → ℕ → ℕ → List Item → List Line
lines_of y at made size items =
    let w = world_of y at made size in
    let m = start w.run.opening items in
    lines w.run.dialect w.run.opening w.run.made (weight m) m
