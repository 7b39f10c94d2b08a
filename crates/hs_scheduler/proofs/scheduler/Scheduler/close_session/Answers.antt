use Rattle.std.proofs.Common.{List, length, refl, sym, ap, ◌∙◌, ◌++◌, ℕ}
use Rattle.hs_schema.specs.Catalogue.{Text}
use Rattle.hs_sides.specs.Sides.{side_of}
use Rattle.hs_scheduler.proofs.Ended.{closed_is}
use Rattle.hs_scheduler.proofs.scheduler.Scheduler.close_session.Goals as goal

pub close-requires-clause-stands : goal.close-requires-clause-stands
close-requires-clause-stands g c =
    let is = c.requires.machine.2 in
    (c.requires.machine.0, side_of c.requires.machine.1, (is.engine, is.beside.settings ∙ ap (λ (n : List Text). length n) (sym is.beside.names)))

pub returns-clause-turned : goal.returns-clause-turned
returns-clause-turned g c = λ w m is.
    closed_is g.E.Engine w m c.args.self.now c.write_end.new.self _ c.close.new.self c.args.session.0 c.in_ok-was_open.was_open c.args.gathered.now _ is (c.in_ok-was_open.ensures w (side_of m) is.engine) c.in_ok-write_end.ensures.same refl c.with-self.ensures.members
    (c.in_ok-push.ensures.ok ∙ ap (λ (l : List ℕ). c.args.gathered.now.told ++ l) (c.deref.ensures.value ∙ c.in_ok-write_end.ensures.text)) refl
