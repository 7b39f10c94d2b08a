use Rattle.std.proofs.Common.{◌≡◌, ◌<◌, ◌+◌, length, get_or, arith, refl, sym, ◌∙◌, add-one}
use Rattle.std.proofs.Math.Seq.{take-suc}
use Rattle.hs_temporal.specs.Texts.{digits}
use Rattle.hs_temporal.proofs.TextLemmas.{digits-suc, digit_at}
use Rattle.hs_temporal.proofs.reading.number_in.Goals as goal

pub loop-byte-init : goal.loop-byte-init
unfolding digits
loop-byte-init c = record { small = omega arith; read = refl }

pub returns-then-not-is_ascii_digit : goal.returns-then-not-is_ascii_digit
returns-then-not-is_ascii_digit c = λ n e.
    let here = rw e at (digit_at (length c.args.text.now) n c.loop-byte.byte-index c.loop-byte-test.true) in
    omega (arith, c.if-not-is_ascii_digit.ensures.cases)

pub loop-byte-preserved : goal.loop-byte-preserved
loop-byte-preserved c =
    let at = c.loop-byte.byte-index in
    let text = c.args.text.now in
    let within : at < length text = c.loop-byte-test.true in
    let digit : (c.from.result < 10) × (48 + c.from.result ≡ get_or text at 0) = omega (arith, c.if-not-is_ascii_digit.ensures.cases) in
    record {
      small = rw add-one (omega arith);
      read = rw add-one (digits-suc at c.loop-byte.number c.from.result digit.0
          ∙ rw (digit.1, c.loop-byte.invariant.read) (sym (take-suc text at 0 within)));
    }
