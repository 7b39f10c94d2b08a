use Rattle.hs_valuetext.proofs.Splits.{escape_more}
use Rattle.hs_valuetext.proofs.escapes.escape.Goals as goal

pub loop-c-preserved : goal.loop-c-preserved
loop-c-preserved c = escape_more c.loop-c.out c.push_escaped.new.out c.loop-c.yielded c.in-Some.c c.loop-c.invariant c.in_ok-push_escaped.ensures
