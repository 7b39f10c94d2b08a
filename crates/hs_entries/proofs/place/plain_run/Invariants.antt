use Rattle.std.proofs.Common.{◌≡◌, ◌-◌, ◌≤◌, Some, length, take}
use Rattle.hs_entries.specs.Place.{leads}
use Rattle.hs_entries.specs.declared.place.Place.TheVariants.{Plain}
use Rattle.hs_entries.proofs.place.plain_run.Given as goal

abbrev pub invariant-loop-count : goal.invariant-loop-count
invariant-loop-count l =
    record {
      within : l.count ≤ length l.bytes;
      leads : leads Plain (take l.count l.bytes) ≡ Some Plain;
    }

abbrev pub decreases-loop-count : goal.decreases-loop-count
decreases-loop-count l = length l.bytes - l.count
