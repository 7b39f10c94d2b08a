use Rattle.std.proofs.Common.{◌≡◌, drop}
use Rattle.hs_redefining.specs.Tables.{has_thing}
use Rattle.hs_redefining.proofs.tables.has_thing.Given as goal

abbrev pub invariant-loop-thing : goal.invariant-loop-thing
invariant-loop-thing l = has_thing l.things l.table.0 ≡ has_thing (drop l.thing-index l.things) l.table.0
