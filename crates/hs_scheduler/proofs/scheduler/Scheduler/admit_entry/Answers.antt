use Rattle.std.proofs.Common.{refl, sym, ◌∙◌, subst, List}
use Rattle.hs_lines.specs.Names.{IsKnown}
use Rattle.hs_queue.specs.Entries.{entry_of}
use Rattle.indexmap.proofs.MapLemmas.{OnOk-map}
use Rattle.hs_schema.specs.Catalogue.{Text}
use Rattle.hs_scheduler.proofs.Items.{admitted_is, queued_is}
use Rattle.hs_scheduler.proofs.scheduler.Scheduler.admit_entry.Goals as goal

pub returns-then-has-clause-turned : goal.returns-then-has-clause-turned
returns-then-has-clause-turned g c = λ w m is.
    OnOk-map c.push.result _ _ (λ queue. queued_is g.E.Engine w m c.args.self.now _ (entry_of c.args.entry) c.args.gathered.now is (subst (λ (n : List Text). IsKnown n c.args.entry.session.0) is.beside.names c.requires.known) (sym c.has.ensures ∙ c.if-has.true) refl queue c.push.ensures.few) (c.push.ensures.ok m.queue is.beside.queue)

pub returns-clause-turned : goal.returns-clause-turned
returns-clause-turned g c = λ w m is.
    OnOk-map c.attempt.result _ _ (λ turned. admitted_is g.E.Engine w m c.args.self.now c.attempt.new.self (entry_of c.args.entry) c.args.gathered.now c.attempt.new.gathered is.beside (sym c.has.ensures ∙ c.if-has.false) turned) (c.attempt.ensures.turned w m is)
