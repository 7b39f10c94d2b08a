use Rattle.std.proofs.Common.{◌≡◌, ◌++◌, take}
use Rattle.hs_lines.specs.Told.{lines_of}
use Rattle.hs_turns.specs.Lines.{printed}
use Rattle.hs_gathering.proofs.gathering.print.Given as goal

abbrev pub invariant-loop-at : goal.invariant-loop-at
invariant-loop-at l = l.text.items ≡ l.initial.text.items ++ printed (take l.at (lines_of l.names l.told))
