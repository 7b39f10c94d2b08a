use Rattle.std.proofs.Common.{sym}
use Rattle.indexmap.proofs.MapLemmas.{OnOk-map}
use Rattle.hs_scheduler.proofs.Items.{entry_is}
use Rattle.std.specs.Prelude.{None, Some}
use Rattle.hs_scheduler.proofs.scheduler.Scheduler.take_entry.Goals as goal

pub returns-in-Some-clause-turned : goal.returns-in-Some-clause-turned
returns-in-Some-clause-turned g c = λ w m is at.
    OnOk-map c.admit_entry.result _ _ (λ turned. entry_is g.E.Engine w m c.args.self.now c.admit_entry.new.self (Some c.in-Some.session.0) c.args.number c.args.name c.args.text at c.args.gathered.now c.admit_entry.new.gathered is.beside (sym c.in-Some.ensures.number) turned) (c.admit_entry.ensures.turned w m is)

pub returns-in-None-clause-turned : goal.returns-in-None-clause-turned
returns-in-None-clause-turned g c = λ w m is at.
    OnOk-map c.take_new.result _ _ (λ turned. entry_is g.E.Engine w m c.args.self.now c.take_new.new.self None c.args.number c.args.name c.args.text at c.args.gathered.now c.take_new.new.gathered is.beside (sym c.in-None.ensures.number) turned) (c.take_new.ensures.turned w m is)
