use Rattle.std.proofs.Common.{length}
use Rattle.hs_applicable.proofs.columns.+differ.Given as goal

abbrev pub decreases-differ : goal.decreases-differ
decreases-differ l = length l.columns.now
