use Rattle.std.proofs.Common.{sym, ◌∙◌, ap, arith, length-drop}
use Rattle.std.proofs.lemmas.List.{take_rest}
use Rattle.hs_lexer.specs.Content.{lone_escape}
use Rattle.hs_lexer.proofs.Steps.{escape_goes}
use Rattle.hs_lexer.proofs.escapes.lone_escape.Goals as goal

pub loop-first-preserved : goal.loop-first-preserved
loop-first-preserved c =
    let behind = c.in-Some.behind.now in
    let rest = c.in-Some.ensures.cases in
    let value = c.escape_len-len.ensures.value in
    let goes = escape_goes c.loop-first.place c.in-Some.first.now behind c.escape_len-len.result c.if-first-ne92.false value c.if-len-eq0.false c.escape_len-len.ensures.within in
    rw (take_rest behind c.escape_len-len.result) (record {
      means = sym goes ∙ ap (lone_escape c.loop-first.place 0) (sym rest.0) ∙ c.loop-first.invariant.means;
      place = omega (arith, rest.1, length-drop c.escape_len-len.result behind, c.escape_len-len.ensures.within);
      forward = omega arith;
    })
