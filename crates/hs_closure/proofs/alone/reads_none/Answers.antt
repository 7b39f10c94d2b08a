use Rattle.std.proofs.lemmas.Result.{IfOk-weaker}
use Rattle.hs_closure.proofs.Inserts.{none_read}
use Rattle.hs_closure.proofs.alone.reads_none.Goals as goal

pub returns-then-is_single : goal.returns-then-is_single
returns-then-is_single c =
    IfOk-weaker c.names_none.result _ _
    (λ none names yes. none_read c.args.cat.now c.args.plan.now c.in-Some.table (c.in-Some.ensures c.args.cat.now) (c.is_single.ensures c.if-is_single.true) (names yes))
    c.names_none.ensures
