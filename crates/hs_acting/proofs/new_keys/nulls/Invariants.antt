use Rattle.std.proofs.Common.{◌≡◌, replicate}
use Rattle.hs_values.specs.declared.value.Value.TheVariants as v
use Rattle.hs_acting.proofs.new_keys.nulls.Given as goal

abbrev pub invariant-loop-column : goal.invariant-loop-column
invariant-loop-column l = l.made.items ≡ replicate l._column v.Null
