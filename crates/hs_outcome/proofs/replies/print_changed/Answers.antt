use Rattle.std.proofs.Common.{List, ℕ, ◌++◌, ap, ◌∙◌}
use Rattle.std.proofs.lemmas.Result.{on_ok_weaker}
use Rattle.hs_outcome.proofs.Finishing.{count_reply, long_reply}
use Rattle.hs_outcome.proofs.replies.print_changed.Goals as goal

pub returns-then-is_long : goal.returns-then-is_long
returns-then-is_long c = λ foot. on_ok_weaker c.print_refused.result
    (λ is. is ∙ ap (λ (l : List ℕ). c.args.out.now ++ l) (long_reply c.args.violation.now c.args.cat.now c.args.count c.args.changes.now foot c.in-None.is c.is_long.result c.is_long.ensures c.if-is_long.true))
    c.print_refused.ensures

pub returns-else-is_long : goal.returns-else-is_long
returns-else-is_long c = λ foot. on_ok_weaker c.print_count.result
    (λ is. is ∙ ap (λ (l : List ℕ). c.args.out.now ++ l) (count_reply c.args.violation.now c.args.cat.now c.args.count c.args.changes.now foot c.in-None.is c.is_long.result c.is_long.ensures c.if-is_long.false))
    c.print_count.ensures
