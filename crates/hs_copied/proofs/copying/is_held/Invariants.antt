use Rattle.std.proofs.Common.{◌≡◌, drop}
use Rattle.hs_copied.specs.Copies.{is_held}
use Rattle.hs_copied.proofs.copying.is_held.Given as goal

abbrev pub invariant-loop-copy : goal.invariant-loop-copy
invariant-loop-copy l = is_held l.copies l.table.0 ≡ is_held (drop l.copy-index l.copies) l.table.0
