use Rattle.std.proofs.Common.{◌∙◌, sym, arith}
use Rattle.hs_entries.proofs.Leading.{passes_white}
use Rattle.hs_entries.proofs.place.white_run.Goals as goal

pub loop-count-preserved : goal.loop-count-preserved
loop-count-preserved c =
    record {
      within = omega arith;
      passes = passes_white _ _ c.loop-count-test.true c.loop-count.invariant.passes (sym c.is_white.ensures ∙ c.if-is_white.true);
    }
