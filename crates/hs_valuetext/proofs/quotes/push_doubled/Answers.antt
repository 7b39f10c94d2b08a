use Rattle.std.proofs.lemmas.Result.{on_ok_weaker}
use Rattle.hs_valuetext.proofs.Splits.{split, uncut, pushed, pushed_last}
use Rattle.hs_valuetext.proofs.quotes.push_doubled.Goals as goal

pub loop-front-preserved : goal.loop-front-preserved
loop-front-preserved c =
    let cut = split c.args.quote c.loop-front.rest.now c.in-Some.front.now c.in-Some.behind.now c.requires c.loop-front.invariant.0 c.in-Some.ensures.cases in
    (cut.valid, pushed c.args.quote c.loop-front.out c.in-Some.front.now c.in-Some.behind.now c.loop-front.rest.now c.push_text.new.self c.push.new.self c.push-in-Some.new.self _ c.requires cut c.in_ok-push_text.ensures.ok c.in_ok-push.ensures.ok c.in_ok-push-2.ensures.ok c.loop-front.invariant.1)

pub returns : goal.returns
returns c =
    let lacks = uncut c.args.quote c.loop-front.rest.now c.requires c.in_default.ensures.cases in
    on_ok_weaker c.push_text-2.result (pushed_last c.args.quote c.loop-front.out c.loop-front.rest.now c.push_text-2.new.self _ lacks c.loop-front.invariant.1) c.push_text-2.ensures.ok
