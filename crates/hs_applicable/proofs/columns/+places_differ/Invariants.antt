use Rattle.std.proofs.Common.{length}
use Rattle.hs_applicable.proofs.columns.+places_differ.Given as goal

abbrev pub decreases-places_differ : goal.decreases-places_differ
decreases-places_differ l = length l.places.now
