use Rattle.std.proofs.Common.{FitsSigned, w32, w64, ◌∙◌, arith, rules}
use Rattle.std.proofs.lemmas.Int.{ints, to_z-of_z}
use Rattle.hs_temporal.proofs.StampLemmas.{stamp_text-parts}
use Rattle.hs_temporal.proofs.printing.stamp_bytes.Goals as goal

pub returns : goal.returns
returns c =
    let fits : FitsSigned w64 c.args.micros = c.ranges.micros in
    let fits_day : FitsSigned w64 c.div_euclid.result = search rules in
    let fits_time : FitsSigned w64 c.rem_euclid.result = search rules in
    let day = simp to_z-of_z at c.div_euclid.ensures in
    let time = simp to_z-of_z at c.rem_euclid.ensures.value in
    let narrow : FitsSigned w32 c.div_euclid.result = omega (arith, ints, day, c.requires) in
    let date = simp to_z-of_z at c.date_bytes.ensures in
    let clock = simp to_z-of_z at c.time_bytes.ensures in
    stamp_text-parts c.args.micros _ _ (c.copy_from_slice.ensures.after ∙ rw day at date) (c.copy_from_slice-2.ensures.after ∙ rw time at clock)
