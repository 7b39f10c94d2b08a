use Rattle.std.proofs.Common.{ap, map, subst, ◌∙◌}
use Rattle.hs_rel.specs.Outcome.{Answers}
use Rattle.hs_rel.specs.Selection.{unless}
use Rattle.hs_answer.specs.Bodies.{widened}
use Rattle.hs_stages.specs.declared.gathered.Gathered.{Gathered}
use Rattle.hs_stages.proofs.Gathering.{all_gathered}
use Rattle.hs_stages.proofs.sides.side_rows.Goals as goal

pub returns-clause-rows : goal.returns-clause-rows
returns-clause-rows c =
    subst (λ means. Answers means c.end.result)
    (ap (λ (s : Gathered). unless s.fault s.rows) c.in_ok-so_far.ensures.ok ∙ all_gathered (map (widened c.args.kinds.now) c.args.rows))
    c.end.ensures.rows
