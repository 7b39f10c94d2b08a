use Rattle.hs_scheduler.proofs.Onward.{steps, stirred_lowers}
use Rattle.hs_scheduler.proofs.turns.SchedulerTurns.step.Goals as goal

pub returns-in-Ok-clause-steps : goal.returns-in-Ok-clause-steps
returns-in-Ok-clause-steps g c = λ f a more. steps g.E.Engine a.0 a.1.0 c.stir.new.self c.args.gathered.now c.stir.new.gathered f (c.in-Ok.ensures.turned a.0 a.1.0 a.1.1.0 more) a.1.1.1

pub returns-in-Ok-clause-weight : goal.returns-in-Ok-clause-weight
returns-in-Ok-clause-weight g c = λ more.
    let a = c.requires.ahead.1 in
    stirred_lowers g.E.Engine a.0 a.1.0 c.args.self.now c.stir.new.self c.args.gathered.now c.stir.new.gathered a.1.1.0.beside (c.in-Ok.ensures.turned a.0 a.1.0 a.1.1.0 more)
