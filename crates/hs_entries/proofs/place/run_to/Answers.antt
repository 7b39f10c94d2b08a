use Rattle.std.proofs.Common.{arith}
use Rattle.hs_entries.proofs.Leading.{leads_kept}
use Rattle.hs_entries.proofs.place.run_to.Goals as goal

pub loop-count-preserved : goal.loop-count-preserved
loop-count-preserved c =
    record {
      within = omega arith;
      leads = leads_kept _ _ _ _ c.loop-count-test.true c.loop-count.invariant.leads (c.requires _ c.if-bytes-count.true);
    }
