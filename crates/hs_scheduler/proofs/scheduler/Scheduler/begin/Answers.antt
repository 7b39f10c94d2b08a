use Rattle.std.proofs.Common.{refl, sym, ap, ◌∙◌, map}
use Rattle.hs_queue.specs.Entries.{entry_of}
use Rattle.hs_scheduler.proofs.Onward.{begun}
use Rattle.hs_scheduler.proofs.Taken_out.{dequeued, ready}
use Rattle.hs_scheduler.proofs.scheduler.Scheduler.begin.Goals as goal

pub attempt-requires-clause-machine : goal.attempt-requires-clause-machine
attempt-requires-clause-machine g c =
    let w = c.requires.machine.0 in
    let m = c.requires.machine.1 in
    let is = c.requires.machine.2 in
    let t = c.in-Some.ensures.some m.queue is.beside.queue in
    (w, record m { queue = t.rest }, dequeued g.E.Engine w m c.args.self.now (record c.args.self.now { queue = c.take_ready.new.self }) (entry_of c.in-Some.entry) is t c.take_ready.ensures.same refl)

pub returns-clause-turned : goal.returns-clause-turned
returns-clause-turned g c = λ w m is none quiet more.
    let t = c.in-Some.ensures.some m.queue is.beside.queue in
    begun g.E.Engine w m c.attempt.new.self (entry_of c.in-Some.entry) t.rest c.args.gathered.now c.attempt.new.gathered (sym is.beside.pass ∙ ap (map entry_of) none) (sym is.beside.again ∙ quiet) (ready g.E.Engine w m c.args.self.now _ (entry_of c.in-Some.entry) is.beside t)
    (c.in_ok-attempt.ensures.turned w (record m { queue = t.rest }) (dequeued g.E.Engine w m c.args.self.now (record c.args.self.now { queue = c.take_ready.new.self }) (entry_of c.in-Some.entry) is t c.take_ready.ensures.same refl))
