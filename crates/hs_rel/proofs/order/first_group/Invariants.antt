use Rattle.std.proofs.Common.{◌≡◌, ℕ, ◌+◌, ◌<◌, true, List, get_or}
use Rattle.hs_values.specs.declared.value.Value.{Value}
use Rattle.hs_rel.specs.Groups.{same_key}
use Rattle.hs_rel.proofs.order.first_group.Given as goal

abbrev pub invariant-loop-end : goal.invariant-loop-end
invariant-loop-end l = (k : ℕ) (d : List Value) → k + 1 < l.end → same_key l.keys (get_or l.rows k d) (get_or l.rows (k + 1) d) ≡ true
