use Rattle.std.proofs.Common.{◌+◌}
use Rattle.hs_entries.specs.Window.{left_of}
use Rattle.hs_entries.specs.Reader.{left_over}
use Rattle.hs_entries.specs.Asking.{NeedsMore}
use Rattle.hs_entries.proofs.Asking.{looked_needs, asks_once, asks_at_most_once, gathers_once, gets_over, asked_err}
use Rattle.hs_entries.proofs.reader.EntryReader.read_on.Goals as goal

pub returns-in_err-refill-clause-asked : goal.returns-in_err-refill-clause-asked
returns-in_err-refill-clause-asked g c =
    let r = c.args.self.now in
    let needs = looked_needs (r.count + 1) r.window r.sound c.requires.looked in
    asked_err g.S.Source.reads (left_over r) (left_over c.refill.new.self) c.refill.new.self.has_ended c.from_residual.result c.args.source.now c.refill.new.source _ c.from_residual.ensures.1
    (asks_at_most_once g.S.Source.reads (λ given. NeedsMore (left_over r given)) c.args.source.now c.refill.new.source needs c.in_err-refill.ensures.err)

pub returns-then-branch-clause-asked : goal.returns-then-branch-clause-asked
returns-then-branch-clause-asked g c =
    let r = c.args.self.now in
    let after = c.refill.new.self in
    let needs = looked_needs (r.count + 1) r.window r.sound c.requires.looked in
    gathers_once g.S.Source.reads (left_over r) (left_over after) c.args.source.now c.refill.new.source (left_of after.window) needs c.in_ok-refill.ensures.one
    (c.in_ok-refill.ensures.refills.some c.if-branch.true) c.in_ok-refill.ensures.refills.on

pub returns-clause-asked : goal.returns-clause-asked
returns-clause-asked g c =
    let r = c.args.self.now in
    let needs = looked_needs (r.count + 1) r.window r.sound c.requires.looked in
    let new = c.cut_at_end.new.self in
    gets_over g.S.Source.reads (left_over r) (left_over new) c.cut_at_end.result new.has_ended c.args.source.now c.refill.new.source c.cut_at_end.ensures.ended
    (asks_once g.S.Source.reads (λ given. NeedsMore (left_over r given)) new.has_ended c.args.source.now c.refill.new.source (left_of c.refill.new.self.window) needs
    c.in_ok-refill.ensures.one (λ _. c.cut_at_end.ensures.ended))
