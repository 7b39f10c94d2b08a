use Rattle.std.proofs.Common.{rules, arith, ◌≡◌, length}
use Rattle.std.proofs.lemmas.Bool.Decides.{nat_tests}
use Rattle.hs_scalar.proofs.CharLemmas.{chars_of_none, none_of_chars}
use Rattle.hs_scalar.proofs.LikeLemmas.{continues_one, continues_fails, continues_short, continues_run, continues_run_ends, continues_to_end, continues_left_over}
use Rattle.hs_scalar.proofs.matching.try_start.Goals as goal

pub returns-in-AnyRun : goal.returns-in-AnyRun
returns-in-AnyRun c = record {
  whole = continues_run c.loop-item.invariant.2 c.in-Some.ensures.parts c.in-AnyRun.is;
  ends = continues_run_ends c.loop-item.invariant.2 c.in-Some.ensures.parts c.in-AnyRun.is;
  rest_fits = c.loop-item.invariant.3;
  later_fits = omega (arith, c.in-Some.ensures.shorter);
}

pub returns-in-None : goal.returns-in-None
returns-in-None c = continues_short c.loop-item.invariant.2 c.in-Some.ensures.parts c.in-None.ensures.parts c.in_default-item.not-AnyRun

pub returns-then-not-fits : goal.returns-then-not-fits
returns-then-not-fits c = continues_fails c.loop-item.invariant.2 c.in-Some.ensures.parts c.in-Some-split_first.ensures.parts c.in_default-item.not-AnyRun (cc)

pub loop-item-preserved : goal.loop-item-preserved
loop-item-preserved c = (
  search rules,
  search rules,
  continues_one c.loop-item.invariant.2 c.in-Some.ensures.parts c.in-Some-split_first.ensures.parts c.in_default-item.not-AnyRun (cc),
  omega (arith, c.in-Some-split_first.ensures.shorter),
  omega (arith, c.in-Some.ensures.shorter),
)

pub returns-then-is_empty : goal.returns-then-is_empty
returns-then-is_empty c = continues_to_end c.loop-item.invariant.2 c.in_default.ensures.parts (chars_of_none c.loop-item.rest.now (search rules))

pub returns-else-is_empty : goal.returns-else-is_empty
returns-else-is_empty c = continues_left_over c.loop-item.invariant.2 c.in_default.ensures.parts (λ none. let e : length c.loop-item.rest.now ≡ 0 = none_of_chars c.loop-item.rest.now c.loop-item.invariant.0 none in grind (arith, nat_tests))
