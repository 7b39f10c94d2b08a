use Rattle.std.proofs.Common.{◌≡◌}
use Rattle.hs_cache.specs.Held.{first_dirty}
use Rattle.hs_cache.proofs.frames.first_dirty.Given as goal

abbrev pub invariant-loop-p : goal.invariant-loop-p
invariant-loop-p l = (goal.iterator-loop-p).can_next l.p-iterator × (goal.iterator-loop-p).is_finite l.p-iterator × (first_dirty l.p-iterator ≡ first_dirty l.cache.entries)
