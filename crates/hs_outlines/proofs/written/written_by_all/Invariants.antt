use Rattle.std.proofs.Common.{◌≡◌, ◌++◌, drop}
use Rattle.hs_outlines.specs.Named.{written}
use Rattle.hs_outlines.proofs.written.written_by_all.Given as goal

abbrev pub invariant-loop-element : goal.invariant-loop-element
invariant-loop-element l = l.written ++ written (drop l.element-index l.all) ≡ written l.all
