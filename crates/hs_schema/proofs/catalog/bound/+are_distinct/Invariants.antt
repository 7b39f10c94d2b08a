use Rattle.std.proofs.Common.{length}
use Rattle.hs_schema.proofs.catalog.bound.+are_distinct.Given as goal

abbrev pub decreases-are_distinct : goal.decreases-are_distinct
decreases-are_distinct l = length l.constraints.now
