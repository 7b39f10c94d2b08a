use Rattle.std.proofs.Common.{◌≡◌, ℕ, drop}
use Rattle.hs_actions.specs.Referencing.{keys_on}
use Rattle.hs_acting.specs.Kept.{keys_in}
use Rattle.hs_references.specs.Collected.{told}
use Rattle.hs_references.specs.Referenced.{references_on}
use Rattle.hs_references.proofs.collected.put_things.Given as goal

abbrev pub invariant-loop-thing : goal.invariant-loop-thing
invariant-loop-thing l = (t : ℕ) → told (references_on l.cat) (drop l.thing-index l.things) (keys_on (keys_in l.keys)) t ≡ told (references_on l.cat) l.things (keys_on (keys_in l.fn.keys)) t
