use Rattle.std.proofs.Common.{sym, ◌∙◌, ap, arith, length-drop}
use Rattle.std.proofs.lemmas.List.{take_rest}
use Rattle.hs_lexer.specs.Lengths.{quote_end}
use Rattle.hs_lexer.proofs.Steps.{quote_other, quote_doubled}
use Rattle.hs_lexer.proofs.lengths.quote_end.Goals as goal

pub loop-first-preserved-then-first-quote : goal.loop-first-preserved-then-first-quote
loop-first-preserved-then-first-quote c =
    let rest = c.in-Some.ensures.cases in
    record {
      means = sym (quote_other _ _ _ _ c.if-first-quote.true) ∙ ap (quote_end c.args.quote c.loop-first.place) (sym rest.0) ∙ c.loop-first.invariant.means;
      place = omega (arith, rest.1);
      forward = omega arith;
    }

pub loop-first-preserved : goal.loop-first-preserved
loop-first-preserved c =
    let rest = c.in-Some.ensures.cases in
    rw (take_rest c.in-Some.behind.now 1) (record {
      means = sym (quote_doubled c.args.quote c.loop-first.place c.in-Some.first.now c.in-Some.behind.now c.if-first-quote.false (sym c.stands_at.ensures.value ∙ c.if-not-stands_at.false)) ∙ ap (quote_end c.args.quote c.loop-first.place) (sym rest.0) ∙ c.loop-first.invariant.means;
      place = omega (arith, rest.1, length-drop 1 c.in-Some.behind.now, c.stands_at.ensures.within (c.if-not-stands_at.false));
      forward = omega arith;
    })
