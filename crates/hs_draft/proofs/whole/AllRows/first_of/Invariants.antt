use Rattle.std.proofs.Common.{◌≡◌, drop}
use Rattle.hs_draft.specs.Drafted.{after}
use Rattle.hs_draft.specs.Whole.{first_in}
use Rattle.hs_draft.proofs.whole.AllRows.first_of.Given as goal

abbrev pub invariant-loop-thing : goal.invariant-loop-thing
invariant-loop-thing g l =
    let first = first_in (g.C.Check.checks l.self.checks.now) l.self.catalog.now (after l.self.draft.now) in
    first l.things ≡ first (drop l.thing-index l.things)
