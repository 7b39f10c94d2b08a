use Rattle.std.proofs.Common.{take}
use Rattle.hs_redefining.proofs.TablesOf.{AreIn}
use Rattle.hs_redefining.proofs.tables.tables_of.Given as goal

abbrev pub invariant-loop-thing : goal.invariant-loop-thing
invariant-loop-thing l = AreIn l.all (take l.thing-index l.things)
