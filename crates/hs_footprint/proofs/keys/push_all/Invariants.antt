use Rattle.std.proofs.Common.{◌≡◌, ◌++◌, drop}
use Rattle.std.specs.Option.{option_copied}
use Rattle.hs_footprint.specs.Touched.{keys_from}
use Rattle.hs_footprint.proofs.keys.push_all.Given as goal

abbrev pub invariant-loop-place : goal.invariant-loop-place
invariant-loop-place l =
    l.keys ++ keys_from l.table (option_copied l.old) (option_copied l.new) l.place (drop l.place l.constraints)
    ≡ l.fn.keys ++ keys_from l.table (option_copied l.old) (option_copied l.new) 0 l.constraints
