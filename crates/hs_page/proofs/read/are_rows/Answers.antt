use Rattle.std.proofs.Common.{◌≡◌, ℕ, ◌+◌, ◌<◌, ◌≤◌, Bool, false, arith}
use Rattle.hs_page.proofs.Blank.{same_everywhere}
use Rattle.hs_page.proofs.Marking.{none_marked}
use Rattle.hs_page.proofs.read.are_rows.Goals as goal

pub loop-i-init : goal.loop-i-init
loop-i-init c = none_marked _ _ (λ p. same_everywhere 4096 p false)

pub returns-then-not-mark_slot-clause-no : goal.returns-then-not-mark_slot-clause-no
returns-then-not-mark_slot-clause-no c = λ _ whole apart.
    let within : c.loop-i.i < c.number-i-end.result = omega arith in
    c.mark_slot.ensures.no c.if-not-mark_slot.true (whole c.loop-i.i (omega arith)) (λ p i j hi hj in_i in_j. apart p i j (omega (arith, hi, within)) (omega (arith, hj, within)) in_i in_j)

pub returns-clause-apart : goal.returns-clause-apart
returns-clause-apart c = λ _ p i j hi hj in_i in_j. c.loop-i.invariant.apart p i j (omega arith) (omega arith) in_i in_j
