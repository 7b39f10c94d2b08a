use Rattle.std.proofs.Common.{◌≡◌, ◌++◌, drop}
use Rattle.hs_builder.specs.Changes.{expressions_in}
use Rattle.hs_builder.proofs.changes.expressions_in.Given as goal

abbrev pub invariant-loop-value : goal.invariant-loop-value
invariant-loop-value l = l.all ++ expressions_in (drop l.value-index l.values) ≡ expressions_in l.values
