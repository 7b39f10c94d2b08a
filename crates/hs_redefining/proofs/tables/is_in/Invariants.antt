use Rattle.std.proofs.Common.{◌≡◌, drop}
use Rattle.hs_redefining.specs.Tables.{is_in}
use Rattle.hs_redefining.proofs.tables.is_in.Given as goal

abbrev pub invariant-loop-one : goal.invariant-loop-one
invariant-loop-one l = is_in l.all l.table.0 ≡ is_in (drop l.one-index l.all) l.table.0
