use Rattle.std.proofs.Common.{◌+◌, sym, ap, ◌∙◌}
use Rattle.std.proofs.lemmas.Result.{IfOk-weaker}
use Rattle.hs_redefining.proofs.Judged.{judged_by_key, judged_by_rows}
use Rattle.hs_redefining.proofs.judging.judge.Goals as goal

pub returns-in-Some : goal.returns-in-Some
returns-in-Some c = λ db same whole are count.
    IfOk-weaker c.referenced.result _ _
    (λ told is. is ∙ judged_by_key db c.args.cat.now c.args.definition c.in-Some.name same (sym c.in-Some.is ∙ c.in_ok-first.ensures))
    c.referenced.ensures

pub returns-in-None : goal.returns-in-None
returns-in-None c = λ db same whole are count.
    IfOk-weaker c.judge_rows.result _ _
    (λ told is. is ∙ judged_by_rows db c.args.cat.now c.args.definition same (sym c.in-None.is ∙ c.in_ok-first.ensures))
    (c.judge_rows.ensures db same whole are (ap (λ n. n + 1) count))
