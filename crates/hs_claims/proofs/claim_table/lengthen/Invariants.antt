use Rattle.std.proofs.Common.{◌≡◌, ℕ, ◌-◌, [], get_or, vec_len}
use Rattle.hs_claims.proofs.claim_table.lengthen.Given as goal

abbrev pub invariant-loop-alloc : goal.invariant-loop-alloc
invariant-loop-alloc l = (k : ℕ) → get_or l.held.items k [] ≡ get_or l.fn.held.items k []

abbrev pub decreases-loop-alloc : goal.decreases-loop-alloc
decreases-loop-alloc l = l.len - vec_len l.held
