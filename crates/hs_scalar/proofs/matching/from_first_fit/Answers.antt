use Rattle.std.proofs.Common.{rules, ◌∙◌, arith}
use Rattle.hs_scalar.proofs.LikeLemmas.{some_end_past_misfit}
use Rattle.hs_scalar.proofs.matching.from_first_fit.Goals as goal

pub loop-c-preserved : goal.loop-c-preserved
loop-c-preserved c = (search rules, some_end_past_misfit c.in-Some.ensures.parts c.in-Some-split_first.ensures.parts c.in_default.not-AnyRun (cc) ∙ c.loop-c.invariant.1, omega (arith, c.in-Some-split_first.ensures.shorter))
