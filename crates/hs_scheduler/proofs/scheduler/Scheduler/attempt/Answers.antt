use Rattle.std.proofs.Common.{◌≤◌, ◌++◌, List, ℕ, length, sym, ap, ◌∙◌, subst}
use Rattle.hs_lines.specs.Names.{IsKnown}
use Rattle.hs_queue.specs.Entries.{entry_of}
use Rattle.hs_schema.specs.Catalogue.{Text}
use Rattle.hs_scheduler.proofs.Beside.{is_session_number}
use Rattle.hs_scheduler.proofs.Tried.{turned_is}
use Rattle.hs_scheduler.proofs.scheduler.Scheduler.attempt.Goals as goal

pub keep-requires : goal.keep-requires
keep-requires g c =
    let b = c.requires.machine.2.beside in
    is_session_number c.args.self.now.names c.args.entry.session.0 (subst (λ (n : List Text). length n ≤ 64) (sym b.names) b.few) c.requires.known

pub returns-clause-turned : goal.returns-clause-turned
returns-clause-turned g c = λ w m is.
    turned_is g.E.Engine w m c.args.is_first (entry_of c.args.entry) c.try_entry.new.self c.keep.new.self c.in_ok-tried.tried.is_final c.args.gathered.now c.gather.new.gathered (c.in_ok-tried.ensures.tried w m is)
    (subst (λ (n : List Text). IsKnown n c.args.entry.session.0) is.beside.names c.requires.known) c.in_ok-keep.ensures
    (c.in_ok-gather.ensures.told ∙ ap (λ (l : List ℕ). c.args.gathered.now.told ++ l) c.deref.ensures.value) c.in_ok-gather.ensures.made
