use Rattle.std.proofs.Common.{◌≡◌, take}
use Rattle.hs_writing.specs.Targets.{types_named}
use Rattle.hs_writing.proofs.targets.types_named.Given as goal

abbrev pub invariant-loop-name : goal.invariant-loop-name
invariant-loop-name l = l.types.items ≡ types_named l.names (take l.name-index l.list)
