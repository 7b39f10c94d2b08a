use Rattle.std.proofs.Common.{◌≡◌, ◌++◌, drop}
use Rattle.hs_outlines.specs.Outline.{keys_written}
use Rattle.hs_outlines.proofs.keys.add_by_all.Given as goal

abbrev pub invariant-loop-element : goal.invariant-loop-element
invariant-loop-element l = l.keys ++ keys_written l.names (drop l.element-index l.all) ≡ l.fn.keys ++ keys_written l.names l.all
