use Rattle.std.proofs.Common.{◌≡◌, ◌-◌, ◌≤◌, Some, length, take}
use Rattle.hs_entries.specs.Place.{passes}
use Rattle.hs_entries.specs.declared.place.Place.TheVariants.{Between}
use Rattle.hs_entries.proofs.place.white_run.Given as goal

abbrev pub invariant-loop-count : goal.invariant-loop-count
invariant-loop-count l =
    record {
      within : l.count ≤ length l.bytes;
      passes : passes Between (take l.count l.bytes) ≡ Some Between;
    }

abbrev pub decreases-loop-count : goal.decreases-loop-count
decreases-loop-count l = length l.bytes - l.count
