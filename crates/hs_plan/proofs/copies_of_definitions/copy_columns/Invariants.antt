use Rattle.std.proofs.Common.{◌≡◌, take}
use Rattle.hs_plan.proofs.copies_of_definitions.copy_columns.Given as goal

abbrev pub invariant-loop-one : goal.invariant-loop-one
invariant-loop-one l = l.copied ≡ take l.one-index l.all
