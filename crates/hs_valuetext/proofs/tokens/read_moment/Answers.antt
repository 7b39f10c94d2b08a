use Rattle.hs_valuetext.proofs.NumberLemmas.{moment_short}
use Rattle.hs_valuetext.proofs.Splits.{moment_from}
use Rattle.hs_valuetext.proofs.tokens.read_moment.Goals as goal

pub returns-then-stamp-eq26 : goal.returns-then-stamp-eq26
returns-then-stamp-eq26 c = moment_from c.args.text.now c.in-Some.stamp.now c.read_stamp.result c.ok.result c.in-Some.ensures c.if-stamp-eq26.true c.ok.ensures.value c.read_stamp.ensures.inverse

pub returns-else-stamp-eq26 : goal.returns-else-stamp-eq26
returns-else-stamp-eq26 c = moment_short c.args.text.now c.in-Some.stamp.now c.in-Some.ensures c.if-stamp-eq26.false
