use Rattle.std.proofs.Common.{◌≡◌, ◌≤◌, ◌-◌, ◌++◌, true, length, drop}
use Rattle.hs_rel.specs.Groups.{runs_of, same_key}
use Rattle.hs_stages.specs.Parts.{are_ends, last_end, parts_from}
use Rattle.hs_stages.proofs.groups.group_ends.Given as goal

abbrev pub invariant-loop-start : goal.invariant-loop-start
invariant-loop-start l = record {
  within : l.start ≤ length l.sorted;
  in_rows : are_ends 0 l.ends.items (length l.sorted) ≡ true;
  last : last_end 0 l.ends.items ≡ l.start;
  parts : parts_from 0 l.ends.items l.sorted ++ runs_of (same_key l.keys) (drop l.start l.sorted) ≡ runs_of (same_key l.keys) l.sorted;
}

abbrev pub decreases-loop-start : goal.decreases-loop-start
decreases-loop-start l = length l.sorted - l.start
