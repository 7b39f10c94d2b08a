use Rattle.hs_scheduler.proofs.Onward.{taken}
use Rattle.hs_scheduler.proofs.turns.SchedulerTurns.take.Goals as goal

pub returns-in-Ok-clause-takes : goal.returns-in-Ok-clause-takes
returns-in-Ok-clause-takes g c = λ f a. taken g.E.Engine a.0 a.1.0 c.args.self.now c.take_item.new.self c.args.item c.args.gathered.now c.take_item.new.gathered f a.1.1.0.beside c.requires.rests (c.in-Ok.ensures.turned a.0 a.1.0 a.1.1.0) a.1.1.1
