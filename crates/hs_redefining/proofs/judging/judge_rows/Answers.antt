use Rattle.std.proofs.Common.{ap, ◌∙◌}
use Rattle.hs_redefining.specs.Judged.{answer_by}
use Rattle.hs_redefining.proofs.judging.judge_rows.Goals as goal

pub returns : goal.returns
returns c = λ db same whole are next. c.answer.ensures ∙ ap (answer_by c.args.definition) (c.in_ok-told.ensures db same whole are next)
