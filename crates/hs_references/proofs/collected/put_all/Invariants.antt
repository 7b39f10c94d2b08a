use Rattle.std.proofs.Common.{◌≡◌, ℕ, ◌==◌, ◌++◌, [], cond}
use Rattle.hs_actions.specs.Referencing.{keys_on}
use Rattle.hs_acting.specs.Kept.{keys_in}
use Rattle.hs_references.proofs.collected.put_all.Given as goal

abbrev pub invariant-loop-key : goal.invariant-loop-key
invariant-loop-key l = (t : ℕ) → keys_on (keys_in l.keys) t ≡ keys_on (keys_in l.fn.keys) t ++ cond (t == l.table.0) l.yielded []
