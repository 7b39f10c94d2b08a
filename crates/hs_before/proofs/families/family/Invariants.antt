use Rattle.std.proofs.Common.{◌≡◌, true, take}
use Rattle.hs_acting.specs.Kept.{keys_in}
use Rattle.hs_before.specs.Family.{is_in}
use Rattle.hs_before.proofs.Grown.{HasChildrenOf}
use Rattle.hs_before.proofs.families.family.Given as goal

abbrev pub invariant-loop-at : goal.invariant-loop-at
invariant-loop-at l =
    record {
      own : is_in l.all l.fn.table.0 ≡ true;
      children : HasChildrenOf (keys_in l.keys) (take l.at l.all) l.all;
    }
