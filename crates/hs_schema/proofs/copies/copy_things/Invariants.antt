use Rattle.std.proofs.Common.{◌≡◌, take}
use Rattle.hs_schema.proofs.copies.copy_things.Given as goal

abbrev pub invariant-loop-thing : goal.invariant-loop-thing
invariant-loop-thing l = l.copied.items ≡ take l.thing-index l.things
