use Rattle.std.proofs.Common.{ℕ}
use Rattle.hs_valuetext.proofs.Bits.{alike}
use Rattle.hs_rowtext.specs.Numbers.{IsNumberAt}
use Rattle.hs_script.specs.Heads.{IsCountAt}
use Rattle.hs_script.proofs.HeadLemmas.{count_from, from_count, count_unbegun}
use Rattle.hs_script.proofs.head_reading.read_count.Goals as goal

pub returns-in-Some : goal.returns-in-Some
returns-in-Some c =
    alike (λ (n : ℕ). n) (IsNumberAt c.in-Some.digits.now) (IsCountAt c.args.front.now c.args.text.now)
    (count_from c.args.front.now c.args.text.now c.in-Some.digits.now c.in-Some.ensures)
    (from_count c.args.front.now c.args.text.now c.in-Some.digits.now c.in-Some.ensures)
    c.read_number.result c.read_number.ensures

pub returns-in-None : goal.returns-in-None
returns-in-None c = count_unbegun c.args.front.now c.args.text.now c.in-None.ensures
