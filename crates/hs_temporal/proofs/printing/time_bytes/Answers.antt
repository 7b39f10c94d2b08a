use Rattle.std.proofs.Common.{◌≡◌, ◌/◌, ◌%◌, sym, ◌∙◌, arith}
use Rattle.hs_temporal.proofs.StampLemmas.{clock_text-fields, time_text-parts}
use Rattle.hs_temporal.proofs.TextLemmas.{clock_bytes_are, part_bytes_are}
use Rattle.hs_temporal.proofs.printing.time_bytes.Goals as goal

pub returns : goal.returns
returns c =
    let time = c.args.time in
    let second = time / 1_000_000 in
    let hour : second / 60 / 60 ≡ second / 3600 = omega arith in
    let clock = clock_bytes_are (second / 3600) (second / 60 % 60) (second % 60) _ _ _ _ _ _
    (rw hour at c.digit.ensures, rw hour at c.digit-2.ensures) (c.digit-3.ensures, c.digit-4.ensures) (c.digit-5.ensures, c.digit-6.ensures)
    ∙ sym (clock_text-fields second) in
    let part = part_bytes_are time _ _ _ _ _ _ (c.digit-7.ensures, c.digit-8.ensures, c.digit-9.ensures, c.digit-10.ensures, c.digit-11.ensures, c.digit-12.ensures) in
    time_text-parts time _ _ clock part
