use Rattle.hs_queue.specs.Entries.{entry_of}
use Rattle.hs_sides.specs.Sides.{side_of}
use Rattle.std.proofs.Common.{Bool, [], refl, sym, ap, ◌∙◌, List, length}
use Rattle.std.specs.Prelude.{if◌then◌else◌}
use Rattle.hs_gathering.specs.Entries.{entry_lines}
use Rattle.hs_turns.specs.Lines.{printed}
use Rattle.hs_schema.specs.Catalogue.{Text}
use Rattle.hs_scheduler.proofs.Tried.{tried_is}
use Rattle.hs_scheduler.proofs.scheduler.Scheduler.try_entry.Goals as goal

pub attempt-requires-clause-stands : goal.attempt-requires-clause-stands
attempt-requires-clause-stands g c =
    let is = c.requires.machine.2 in
    (c.requires.machine.0, side_of c.requires.machine.1, (is.engine, is.beside.settings ∙ ap (λ (n : List Text). length n) (sym is.beside.names)))

pub returns : goal.returns
returns g c = record {
  tried = λ w m is. tried_is g.E.Engine w m c.args.is_first (entry_of c.args.entry.now) c.args.self.now _ c.in_ok-tried.tried c.new-words.result.items c.attempt.new.told.items c.clear.new.self is c.new-words.ensures.items c.clear.ensures refl refl refl refl refl c.goes_again-self.ensures (c.in_ok-tried.ensures.attempted w (side_of m) is.engine) (c.in_ok-tried.ensures.stands w (side_of m) is.engine) (c.in_ok-tried.ensures.made w (side_of m) is.engine) (c.in_ok-print_words.ensures ∙ ap (λ (told : Bool). printed (if told then entry_lines c.args.self.now.names c.args.entry.now.number c.args.entry.now.session.0 c.attempt.new.told.items else [])) c.is_told-is_told.ensures);
}
