use Rattle.std.proofs.Common.{◌≡◌, ◌+◌, drop}
use Rattle.hs_conflicts.specs.Conflicts.{conflict_from}
use Rattle.hs_conflicts.proofs.past.conflict_in.Given as goal

abbrev pub invariant-loop-held : goal.invariant-loop-held
invariant-loop-held l = (l.number ≡ l.start + l.held-index) × (conflict_from l.wanted l.start l.claims ≡ conflict_from l.wanted l.number (drop l.held-index l.claims))
