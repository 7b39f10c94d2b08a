use Rattle.std.proofs.Common.{◌≡◌, map, take}
use Rattle.hs_places.specs.Groups.{group_at}
use Rattle.hs_places.proofs.groups.KeptGroups.all.Given as goal

abbrev pub invariant-loop-at : goal.invariant-loop-at
invariant-loop-at l = map (group_at l.fn.groups) l.kept.items ≡ take l.at l.fn.groups
