use Rattle.std.proofs.Common.{take}
use Rattle.hs_seated.proofs.Seating.{Advances}
use Rattle.hs_seated.proofs.seated.Seated.advance.Given as goal

abbrev pub invariant-loop-change : goal.invariant-loop-change
invariant-loop-change l = Advances (take l.change-index l.changes) l.fn.self l.self
