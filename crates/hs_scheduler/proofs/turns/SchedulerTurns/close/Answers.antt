use Rattle.hs_scheduler.proofs.Onward.{closed, ended_lowers, none_closes}
use Rattle.hs_scheduler.proofs.turns.SchedulerTurns.close.Goals as goal

pub returns-in-Ok-clause-closes : goal.returns-in-Ok-clause-closes
returns-in-Ok-clause-closes g c = λ f a more. closed g.E.Engine a.0 a.1.0 c.args.self.now c.close_next.new.self c.args.gathered.now c.close_next.new.gathered f a.1.1.0.beside c.requires.rests (c.in-Ok.ensures.turned a.0 a.1.0 a.1.1.0 more) a.1.1.1

pub returns-in-Ok-clause-weight : goal.returns-in-Ok-clause-weight
returns-in-Ok-clause-weight g c = λ more.
    let a = c.requires.ahead.1 in
    ended_lowers g.E.Engine a.0 a.1.0 c.args.self.now c.close_next.new.self c.args.gathered.now c.close_next.new.gathered a.1.1.0.beside c.requires.rests (c.in-Ok.ensures.turned a.0 a.1.0 a.1.1.0 more)

pub returns-in-Ok-clause-over : goal.returns-in-Ok-clause-over
returns-in-Ok-clause-over g c = λ f a none.
    let e = c.in-Ok.ensures.none none in
    (none_closes g.E.Engine a.0 a.1.0 c.args.self.now f a.1.1.0.beside c.requires.rests (e.0 a.0 a.1.0 a.1.1.0) a.1.1.1, e.1)
