use Rattle.std.proofs.Common.{◌≡◌, sym, ◌∙◌, subst}
use Rattle.hs_scheduler.specs.declared.scheduler.Scheduler.{Scheduler}
use Rattle.hs_scheduler.specs.Standing.{IsMachine}
use Rattle.hs_scheduler.proofs.scheduler.Scheduler.stir.Goals as goal

pub begin-requires : goal.begin-requires
begin-requires g c =
    let same : c.restart.new.self ≡ c.args.self.now = (c.restart.ensures.none c.if-restart.false).1 ∙ (c.in_ok-retry.ensures.none c.if-branch.false).1.0 in
    record { machine = (c.requires.machine.0, c.requires.machine.1, subst (λ (s : Scheduler g.row.E.Denot). IsMachine g.E.Engine s c.requires.machine.0 c.requires.machine.1) (sym same) c.requires.machine.2) }
