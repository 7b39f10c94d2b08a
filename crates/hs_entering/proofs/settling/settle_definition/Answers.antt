use Rattle.std.proofs.Common.{◌∙◌, sym, subst}
use Rattle.std.specs.List.{All}
use Rattle.hs_committext.specs.Definitions.{IsPrintable}
use Rattle.hs_logged.specs.Entered.{Decides}
use Rattle.hs_logged.specs.Writable.{IsWritable}
use Rattle.hs_plan.specs.declared.change.Change.{Change}
use Rattle.hs_schema.specs.Catalogue.{Things}
use Rattle.hs_seams.specs.Stores.{present}
use Rattle.std.specs.Prelude.{List}
use Rattle.hs_entering.proofs.Taking.{left_by, lone, lone_behind, lone_without, lone_writable}
use Rattle.hs_entering.proofs.settling.settle_definition.Goals as goal

pub settle-requires-clause-writable : goal.settle-requires-clause-writable
settle-requires-clause-writable g c = λ db stands.
    let wording = g.C.Conditions.wording c.args.conditions.now in
    let has = subst (Decides (IsPrintable wording c.catalog.result.now c.args.definition)) c.if-not-has_one.false c.in_ok-has_one.ensures in
    subst (λ (l : List Change). All (IsWritable wording db.things) l) (sym c.in_ok-changes.ensures)
    (lone_writable wording db.things c.args.definition (subst (λ (t : Things). IsPrintable wording t c.args.definition) (c.catalog.ensures db stands) has))

pub returns-then-not-has_one-clause-settled : goal.returns-then-not-has_one-clause-settled
returns-then-not-has_one-clause-settled g c = λ start w commits k kept behind stands by is.
    let wording = g.C.Conditions.wording c.args.conditions.now in
    let none = subst (Decides (IsPrintable wording c.catalog.result.now c.args.definition)) c.if-not-has_one.true c.in_ok-has_one.ensures in
    left_by wording g.D.Restored.takes start c.args.book.now w commits k kept behind c.catalog.result.now c.args.session (lone c.args.definition) (c.catalog.ensures (present w commits) stands) by (lone_behind w commits k c.args.definition is)
    g.D.Restored.stands c.args.database.now c.args.made.now (lone_without wording c.catalog.result.now c.args.book.now c.args.session c.args.definition none)

pub returns-clause-settled : goal.returns-clause-settled
returns-clause-settled g c = λ start w commits k kept behind stands by is.
    c.settle.ensures.settled start w commits k kept behind stands by (lone_behind w commits k c.args.definition is ∙ sym c.in_ok-changes.ensures)
