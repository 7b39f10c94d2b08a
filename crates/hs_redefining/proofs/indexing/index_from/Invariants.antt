use Rattle.std.proofs.Common.{◌≡◌, ℕ}
use Rattle.hs_draft.specs.Drafted.{after}
use Rattle.hs_redefining.proofs.indexing.index_from.Given as goal

abbrev pub invariant-loop-thing : goal.invariant-loop-thing
invariant-loop-thing l = (t : ℕ) → after l.draft t ≡ after l.fn.draft t
