use Rattle.std.proofs.Common.{◌≡◌, map, ◌++◌}
use Rattle.hs_cache.specs.Held.{dirty_pages}
use Rattle.hs_cache.proofs.frames.dirty_pages.Given as goal

abbrev pub invariant-loop-p : goal.invariant-loop-p
invariant-loop-p l =
    (goal.iterator-loop-p).can_next l.p-iterator × (goal.iterator-loop-p).is_finite l.p-iterator
    × (map (λ p. p.0) l.pages.items ++ dirty_pages l.p-iterator ≡ dirty_pages l.cache.entries)
