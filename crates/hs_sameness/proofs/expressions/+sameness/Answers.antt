use Rattle.std.proofs.Common.{◌∙◌, ap, sym, drop, ◌∷◌, ◌+◌}
use Rattle.std.proofs.lemmas.List.{drop_more}
use Rattle.hs_sameness.specs.Plain.{is_plain, is_plain_arm, is_plain_item}
use Rattle.hs_sameness.proofs.Lists.{passed, stopped}
use Rattle.hs_sameness.proofs.expressions.+sameness.Goals as goal

pub are_operands-loop-x-preserved : goal.are_operands-loop-x-preserved
are_operands-loop-x-preserved t c =
    passed is_plain c.args.a.now c.args.b.now (drop c.loop-x.x-index c.args.a.now) (drop (c.loop-x.x-index + 1) c.args.a.now) c.loop-x.rest.now c.in-Some.others.now c.x-item.result
    (drop_more c.args.a.now c.loop-x.x-index c.x-item.result c.loop-x-test.true ∙ ap (λ z. z ∷ drop (c.loop-x.x-index + 1) c.args.a.now) (sym c.x-item.is))
    c.in-Some.ensures.0 c.in-Some.ensures.1 c.loop-x.invariant

pub are_operands-returns-in-None : goal.are_operands-returns-in-None
are_operands-returns-in-None t c =
    stopped is_plain c.args.a.now c.args.b.now (drop c.loop-x.x-index c.args.a.now) (drop (c.loop-x.x-index + 1) c.args.a.now) c.loop-x.rest.now c.x-item.result
    (drop_more c.args.a.now c.loop-x.x-index c.x-item.result c.loop-x-test.true ∙ ap (λ z. z ∷ drop (c.loop-x.x-index + 1) c.args.a.now) (sym c.x-item.is))
    c.in-None.ensures c.loop-x.invariant

pub are_items-loop-x-preserved : goal.are_items-loop-x-preserved
are_items-loop-x-preserved t c =
    passed is_plain_item c.args.a.now c.args.b.now (drop c.loop-x.x-index c.args.a.now) (drop (c.loop-x.x-index + 1) c.args.a.now) c.loop-x.rest.now c.in-Some.others.now c.x-item.result
    (drop_more c.args.a.now c.loop-x.x-index c.x-item.result c.loop-x-test.true ∙ ap (λ z. z ∷ drop (c.loop-x.x-index + 1) c.args.a.now) (sym c.x-item.is))
    c.in-Some.ensures.0 c.in-Some.ensures.1 c.loop-x.invariant

pub are_items-returns-in-None : goal.are_items-returns-in-None
are_items-returns-in-None t c =
    stopped is_plain_item c.args.a.now c.args.b.now (drop c.loop-x.x-index c.args.a.now) (drop (c.loop-x.x-index + 1) c.args.a.now) c.loop-x.rest.now c.x-item.result
    (drop_more c.args.a.now c.loop-x.x-index c.x-item.result c.loop-x-test.true ∙ ap (λ z. z ∷ drop (c.loop-x.x-index + 1) c.args.a.now) (sym c.x-item.is))
    c.in-None.ensures c.loop-x.invariant

pub are_arms-loop-x-preserved : goal.are_arms-loop-x-preserved
are_arms-loop-x-preserved t c =
    passed is_plain_arm c.args.a.now c.args.b.now (drop c.loop-x.x-index c.args.a.now) (drop (c.loop-x.x-index + 1) c.args.a.now) c.loop-x.rest.now c.in-Some.others.now c.x-item.result
    (drop_more c.args.a.now c.loop-x.x-index c.x-item.result c.loop-x-test.true ∙ ap (λ z. z ∷ drop (c.loop-x.x-index + 1) c.args.a.now) (sym c.x-item.is))
    c.in-Some.ensures.0 c.in-Some.ensures.1 c.loop-x.invariant

pub are_arms-returns-in-None : goal.are_arms-returns-in-None
are_arms-returns-in-None t c =
    stopped is_plain_arm c.args.a.now c.args.b.now (drop c.loop-x.x-index c.args.a.now) (drop (c.loop-x.x-index + 1) c.args.a.now) c.loop-x.rest.now c.x-item.result
    (drop_more c.args.a.now c.loop-x.x-index c.x-item.result c.loop-x-test.true ∙ ap (λ z. z ∷ drop (c.loop-x.x-index + 1) c.args.a.now) (sym c.x-item.is))
    c.in-None.ensures c.loop-x.invariant
