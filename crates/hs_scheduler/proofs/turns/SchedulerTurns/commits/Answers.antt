use Rattle.std.proofs.Common.{sym, ◌∙◌, ap}
use Rattle.hs_run.specs.Future.{Future}
use Rattle.hs_sides.specs.Sides.{side_of}
use Rattle.hs_futures.proofs.Steps.{commits_of}
use Rattle.hs_scheduler.proofs.turns.SchedulerTurns.commits.Goals as goal

pub returns : goal.returns
returns g c = λ f a. c.commits.ensures a.0 (side_of a.1.0) a.1.1.0.engine ∙ sym (commits_of a.0 a.1.0) ∙ ap (λ (x : Future). x.commits) (sym a.1.1.1)
