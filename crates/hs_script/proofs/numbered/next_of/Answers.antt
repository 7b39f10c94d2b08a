use Rattle.std.proofs.Common.{◌<◌, ◌^◌, arith}
use Rattle.hs_script.proofs.NumberedLemmas.{past_none, past_other}
use Rattle.hs_script.proofs.numbered.next_of.Goals as goal

pub returns-else-other-number : goal.returns-else-other-number
returns-else-other-number c =
    let small : c.args.number < 2 ^ 64 = omega (arith, c.ranges.number) in
    past_other c.args.text.now c.in-Some.line.now c.in-Some.rest.now c.in-Some.other c.args.number small c.in-Some.ensures c.if-other-number.false

pub returns-in-None : goal.returns-in-None
returns-in-None c =
    let small : c.args.number < 2 ^ 64 = omega (arith, c.ranges.number) in
    past_none c.args.text.now c.args.number small c.in-None.ensures
