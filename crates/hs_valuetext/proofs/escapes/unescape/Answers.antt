use Rattle.hs_valuetext.proofs.EscapeLemmas.{not_unescaped, more_unescaped, all_unescaped}
use Rattle.hs_valuetext.proofs.Splits.{empty_from, nonempty_from}
use Rattle.hs_valuetext.proofs.escapes.unescape.Goals as goal

pub returns-in_default : goal.returns-in_default
returns-in_default c =
    not_unescaped c.args.text.now c.loop-rest.bytes.items c.loop-rest.rest.now c.loop-rest.invariant
    (nonempty_from c.loop-rest.rest.now c.is_empty.result c.is_empty.ensures c.loop-rest-test.true)
    c.in_default.ensures

pub loop-rest-preserved : goal.loop-rest-preserved
loop-rest-preserved c =
    more_unescaped c.args.text.now c.loop-rest.bytes.items c.loop-rest.rest.now c.in-Some.behind.now c.push.new.self.items c.in-Some.byte c.loop-rest.invariant c.in-Some.ensures.0 c.in_ok-push.ensures.items

pub returns : goal.returns
returns c =
    all_unescaped c.args.text.now c.loop-rest.bytes.items c.loop-rest.rest.now c.loop-rest.invariant
    (empty_from c.loop-rest.rest.now c.is_empty.result c.is_empty.ensures c.loop-rest-test.false)
