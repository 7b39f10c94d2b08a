use Rattle.std.proofs.Common.{refl, ◌∙◌}
use Rattle.hs_scheduler.proofs.Onward.{restarted}
use Rattle.hs_scheduler.proofs.scheduler.Scheduler.restart.Goals as goal

pub returns-clause-turned : goal.returns-clause-turned
returns-clause-turned g c = λ w m is none more x. restarted g.E.Engine w m c.args.self.now _ x is none c.if-not-self.false (c.replace-seen.ensures.after ∙ c.new.ensures) (c.into_entries.ensures ∙ c.replace-seen.ensures.value) refl
