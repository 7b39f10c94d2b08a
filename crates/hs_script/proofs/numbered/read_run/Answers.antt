use Rattle.std.proofs.Common.{rules}
use Rattle.hs_script.proofs.NumberedLemmas.{run_none, run_begun, run_more, run_found}
use Rattle.hs_script.proofs.numbered.read_run.Goals as goal

pub returns-in_default : goal.returns-in_default
returns-in_default c = run_none c.args.text.now c.in_default.ensures

pub loop-more-init : goal.loop-more-init
loop-more-init c = (
  search rules,
  run_begun c.args.text.now c.in-Some.line.now c.in_ok-said.said c.in-Some.behind.now c.in-Some.number c.in-Some.ensures c.in_ok-said.ensures,
)

pub loop-more-preserved : goal.loop-more-preserved
loop-more-preserved c = (
  search rules,
  run_more c.args.text.now c.loop-more.said c.loop-more.rest.now c.in-Some-next_of.more.now c.in-Some-next_of.others.now c.push_text.new.self c.push_text-in-Some-next_of.new.self c.in-Some.number c.loop-more.invariant.1
      c.in-Some-next_of.ensures c.in_ok-push_text.ensures.ok c.in_ok-push_text-2.ensures.ok,
)

pub returns : goal.returns
returns c = run_found c.args.text.now c.loop-more.said c.loop-more.rest.now c.in-Some.number c.in-Some.ensures.0.lawful c.loop-more.invariant.1 c.in_default-next_of.ensures
