use Rattle.std.proofs.Common.{sym, subst}
use Rattle.std.specs.List.{All}
use Rattle.hs_logged.specs.Entered.{Enters}
use Rattle.hs_logged.specs.Writable.{IsWritable}
use Rattle.hs_logged.specs.Made.{Makes}
use Rattle.hs_schema.specs.Catalogue.{Things}
use Rattle.hs_seams.specs.Stores.{present}
use Rattle.hs_entering.proofs.Taking.{left_by, settled_by}
use Rattle.hs_entering.proofs.settling.settle.Goals as goal

pub enter-requires-clause-plain : goal.enter-requires-clause-plain
enter-requires-clause-plain g c = g.met.C.CheckTexts.plain c.args.conditions.now

pub enter-requires-clause-writable : goal.enter-requires-clause-writable
enter-requires-clause-writable g c =
    let held = c.requires.held in
    subst (λ (t : Things). All (IsWritable (g.C.Conditions.wording c.args.conditions.now) t) c.args.changes) (sym (c.catalog.ensures held.0 held.1)) (c.requires.writable held.0 held.1)

pub returns-then-not-has_room-clause-settled : goal.returns-then-not-has_room-clause-settled
returns-then-not-has_room-clause-settled g c = λ start w commits k kept behind stands by is.
    let enters =
    subst (Enters (g.C.Conditions.wording c.args.conditions.now) c.catalog.result.now c.args.session c.args.changes c.args.book.now c.enter.new.self c.new-text.result c.enter.new.made) c.if-not-has_room.true c.in_ok-has_room.ensures.entered
    in
    left_by (g.C.Conditions.wording c.args.conditions.now) g.D.Restored.takes start c.args.book.now w commits k kept behind c.catalog.result.now c.args.session c.args.changes (c.catalog.ensures (present w commits) stands) by is
    g.D.Restored.stands c.args.database.now c.args.made.now enters.0

pub returns-clause-settled : goal.returns-clause-settled
returns-clause-settled g c = λ start w commits k kept behind stands by is.
    let enters =
    subst (Enters (g.C.Conditions.wording c.args.conditions.now) c.catalog.result.now c.args.session c.args.changes c.args.book.now c.enter.new.self c.new-text.result c.enter.new.made) c.if-not-has_room.false c.in_ok-has_room.ensures.entered
    in
    let makes = subst (Makes g.D.Restored.takes (g.D.Restored.stands c.make.new.self) (present w commits) c.args.changes) c.if-not-may.false (c.in_ok-may.ensures (present w commits) stands) in
    settled_by (g.C.Conditions.wording c.args.conditions.now) g.D.Restored.takes start c.args.book.now w commits k kept behind c.catalog.result.now c.args.session c.args.changes (c.catalog.ensures (present w commits) stands) by is
    g.D.Restored.stands c.args.database.now c.make.new.self c.enter.new.self c.new-text.result c.enter.new.made c.args.made.now _ enters makes c.new-text.ensures c.in_ok-append.ensures.ok
