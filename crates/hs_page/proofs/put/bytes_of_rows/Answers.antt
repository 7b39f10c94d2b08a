use Rattle.std.proofs.Common.{◌≡◌, ℕ, ◌+◌, length, sym, ◌∙◌, arith}
use Rattle.hs_page.specs.Pages.{slot_bytes}
use Rattle.hs_page.proofs.PageFacts.{length-slot_bytes}
use Rattle.hs_page.proofs.Packing.{taken_more}
use Rattle.hs_page.proofs.put.bytes_of_rows.Goals as goal

pub loop-i-preserved : goal.loop-i-preserved
loop-i-preserved c =
    let long : length (slot_bytes c.args.bytes.now c.loop-i.i) ≡ c.number-total.result = length-slot_bytes c.args.bytes.now c.loop-i.i c.requires (omega arith) ∙ sym c.number-total.ensures.value in
    record {
      bound = omega (arith, c.loop-i.invariant.bound, c.number-total.ensures.fits);
      sum = omega (arith, c.loop-i.invariant.sum, taken_more c.args.bytes.now c.loop-i.i, long);
    }
