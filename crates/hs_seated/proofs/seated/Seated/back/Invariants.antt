use Rattle.std.proofs.Common.{List, length}
use Rattle.hs_changes.specs.Settings.{Maps}
use Rattle.hs_plan.specs.declared.change.Change.{Change}
use Rattle.hs_seated.specs.Seated.{IsSeated}
use Rattle.hs_seated.proofs.Seating.{IsDown}
use Rattle.hs_seated.proofs.seated.Seated.back.Given as goal

abbrev pub invariant-loop-self : goal.invariant-loop-self
invariant-loop-self l = (maps : Maps) (seated : List Change) → IsSeated maps seated l.fn.self → IsDown maps l.len seated l.self

abbrev pub decreases-loop-self : goal.decreases-loop-self
decreases-loop-self l = length l.self.steps.items
