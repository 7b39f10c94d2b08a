use Rattle.std.proofs.Common.{◌≡◌, ◌+◌, ◌∷◌, [], List, length, ap, ◌∙◌, arith, length-append}
use Rattle.std.specs.Prelude.{None, codes}
use Rattle.indexmap.proofs.MapLemmas.{OnOk-map}
use Rattle.hs_schema.specs.Catalogue.{Text}
use Rattle.hs_turns.specs.Dialect.{refused_words}
use Rattle.hs_turns.specs.Lines.{OfItem, Replies}
use Rattle.hs_scheduler.specs.Turned.{begun}
use Rattle.hs_scheduler.proofs.Items.{full_is, new_is, told_is}
use Rattle.hs_scheduler.proofs.scheduler.Scheduler.take_new.Goals as goal

pub returns-then-len-ge-MOST_SESSIONS-clause-turned : goal.returns-then-len-ge-MOST_SESSIONS-clause-turned
returns-then-len-ge-MOST_SESSIONS-clause-turned g c = λ w m is.
    OnOk-map c.tell.result _ _ (λ told. full_is g.E.Engine w m c.tell.new.self c.args.number c.args.name c.args.text c.args.gathered.now c.tell.new.gathered (grind (arith, c.if-len-ge-MOST_SESSIONS.true, c.len.ensures.number, ap (λ (n : List Text). length n) is.beside.names))
    (told_is g.E.Engine w m c.args.self.now c.tell.new.self (OfItem c.args.number c.args.name (Replies (refused_words (codes "sessions")) None) ∷ []) c.args.gathered.now c.tell.new.gathered is c.tell.ensures.same told c.tell.ensures.made)) c.tell.ensures.told

pub attempt-requires-clause-machine : goal.attempt-requires-clause-machine
attempt-requires-clause-machine g c = (c.requires.machine.0, begun c.requires.machine.0 c.args.name c.requires.machine.1, c.in_ok-add_session.ensures.machine c.requires.machine.0 c.requires.machine.1 c.requires.machine.2)

pub returns-clause-turned : goal.returns-clause-turned
returns-clause-turned g c = λ w m is.
    let more = c.in_ok-add_session.ensures.machine w m is in
    let long : c.len-2.result ≡ length m.names + 1 = c.len-2.ensures.number ∙ ap (λ (n : List Text). length n) more.beside.names ∙ length-append m.names (c.args.name ∷ []) in
    OnOk-map c.attempt.result _ _ (λ turned. new_is g.E.Engine w m c.attempt.new.self c.args.number c.len-2.result c.args.name c.args.text c.args.gathered.now c.attempt.new.gathered (grind (arith, c.if-len-ge-MOST_SESSIONS.false, c.len.ensures.number, ap (λ (n : List Text). length n) is.beside.names)) long turned) (c.attempt.ensures.turned w (begun w c.args.name m) more)
