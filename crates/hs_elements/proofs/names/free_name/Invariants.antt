use Rattle.std.proofs.Common.{◌≡◌, ℕ, ◌≤◌, ◌<◌, true}
use Rattle.hs_elements.specs.Names.{is_taken, numbered}
use Rattle.hs_elements.proofs.names.free_name.Given as goal

abbrev pub invariant-loop-n : goal.invariant-loop-n
invariant-loop-n l = (m : ℕ) → 1 ≤ m → m < l.n → is_taken l.cat l.given (numbered l.table l.kind m) ≡ true
