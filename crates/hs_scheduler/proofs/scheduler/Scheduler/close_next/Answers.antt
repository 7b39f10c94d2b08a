use Rattle.std.proofs.Common.{refl, sym, ◌∙◌}
use Rattle.hs_scheduler.specs.Turned.{closed}
use Rattle.hs_scheduler.proofs.Ended.{ends_is, next_is}
use Rattle.hs_scheduler.proofs.scheduler.Scheduler.close_next.Goals as goal

pub returns-clause-turned : goal.returns-clause-turned
returns-clause-turned g c = λ w m is more. record {
  turn = closed w c.in-Some.session.0 m;
  is = ends_is g.E.Engine w m c.args.self.now c.in-Some.session.0 is.beside (sym c.in-Some.ensures.first);
  turned = c.in_ok-close_session.ensures.turned w m is;
}

pub returns-in_default-clause-none : goal.returns-in_default-clause-none
returns-in_default-clause-none g c = λ none. (λ w m is. next_is g.E.Engine w m c.args.self.now is.beside ∙ sym c.in_default.ensures.first, (refl, refl))
