use Rattle.std.proofs.Common.{refl, map}
use Rattle.hs_queue.specs.Entries.{entry_of}
use Rattle.hs_scheduler.proofs.Onward.{retried}
use Rattle.hs_scheduler.proofs.Taken_out.{popped}
use Rattle.hs_scheduler.proofs.scheduler.Scheduler.retry.Goals as goal

pub attempt-requires-clause-machine : goal.attempt-requires-clause-machine
attempt-requires-clause-machine g c =
    let w = c.requires.machine.0 in
    let m = c.requires.machine.1 in
    let p = popped g.E.Engine w m c.args.self.now (record c.args.self.now { pass = c.pop_front.new.self }) c.in-Some.entry c.pop_front.result c.requires.machine.2 c.pop_front.ensures.items c.in-Some.is refl in
    (w, record m { pass = map entry_of c.pop_front.new.self.items }, p.stands)

pub attempt-requires-clause-known : goal.attempt-requires-clause-known
attempt-requires-clause-known g c =
    (popped g.E.Engine c.requires.machine.0 c.requires.machine.1 c.args.self.now (record c.args.self.now { pass = c.pop_front.new.self }) c.in-Some.entry c.pop_front.result c.requires.machine.2 c.pop_front.ensures.items c.in-Some.is refl).known

pub returns-clause-turned : goal.returns-clause-turned
returns-clause-turned g c = λ w m is more.
    let p = popped g.E.Engine w m c.args.self.now (record c.args.self.now { pass = c.pop_front.new.self }) c.in-Some.entry c.pop_front.result is c.pop_front.ensures.items c.in-Some.is refl in
    retried g.E.Engine w m c.attempt.new.self (entry_of c.in-Some.entry) (map entry_of c.pop_front.new.self.items) c.args.gathered.now c.attempt.new.gathered p.first (c.in_ok-attempt.ensures.turned w (record m { pass = map entry_of c.pop_front.new.self.items }) p.stands)
