use Rattle.std.proofs.Common.{◌≡◌, drop}
use Rattle.hs_language.specs.Definitions.{first_name}
use Rattle.hs_redefining.specs.Dropped.{test_of}
use Rattle.hs_redefining.proofs.referencing.first_name.Given as goal

abbrev pub invariant-loop-thing : goal.invariant-loop-thing
invariant-loop-thing l = first_name (test_of l.dropped) l.things ≡ first_name (test_of l.dropped) (drop l.thing-index l.things)
