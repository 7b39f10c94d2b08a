use Rattle.std.proofs.Common.{◌≡◌, true, false, Ok, refl, sym, ◌∙◌}
use Rattle.hs_run.specs.declared.running.Running.{Running}
use Rattle.hs_run.specs.Running.{MovesOn}
use Rattle.hs_run.proofs.Moving.{moves_handing, moves_on}
use Rattle.hs_entries.specs.Reader.{is_ready}
use Rattle.hs_run.proofs.Prompt.{same_ready}
use Rattle.hs_run.proofs.Steps.{moves_reader, same_reader}
use Rattle.hs_run.proofs.Stops.{ok_weaker}
use Rattle.hs_run.proofs.running.Running.ready.Goals as goal
use Rattle.hs_run.proofs.running.Running.ready.Goals.{After-is_ready}

-- the run with its reader looked at
abbrev looked : (g : _) (c : After-is_ready g) → Running g.row.T.Denot
looked g c = record { reader = c.is_ready.new.self; turns = c.args.self.now.turns; outgoing = c.args.self.now.outgoing }

looking : (g : _) (c : After-is_ready g) → MovesOn {R = Unit {0}} g.T.Turns g.H.Source g.H.Host c.args.self.now c.args.host.now (looked g c) c.args.host.now (Ok tt)
looking g c =
    let e = c.is_ready.ensures in
    moves_reader g.T.Turns g.H.Source g.H.Host c.args.self.now (looked g c) c.args.host.now c.requires.sane.1.serving refl refl (same_reader c.args.self.now.reader c.is_ready.new.self e.ahead e.room e.number e.kept e.ended)

pub returns-then-is_ready-clause-moves : goal.returns-then-is_ready-clause-moves
returns-then-is_ready-clause-moves g c = looking g (goal.at.returns-then-is_ready-clause-moves g c).After-is_ready

pub returns-clause-moves : goal.returns-clause-moves
returns-clause-moves g c =
    let at = (goal.at.returns-clause-moves g c).After-is_ready in
    let behind : Running g.row.T.Denot = record { reader = c.is_ready.new.self; turns = c.args.self.now.turns; outgoing = c.hand_over.new.self } in
    moves_on g.T.Turns g.H.Source g.H.Host c.args.self.now (looked g at) behind c.args.host.now c.args.host.now c.hand_over.new.host tt c.hand_over.result (looking g at)
    (moves_handing g.T.Turns g.H.Source g.H.Host (looked g at) behind c.args.host.now c.hand_over.new.host c.hand_over.result refl refl c.hand_over.ensures.unread c.hand_over.ensures.hands c.hand_over.ensures.unasked)

-- it is ready where it was so before the look
still_ready : (g : _) (c : After-is_ready g) → is_ready c.is_ready.new.self ≡ is_ready c.args.self.now.reader
still_ready g c = let e = c.is_ready.ensures in same_ready c.args.self.now.reader c.is_ready.new.self e.ahead e.room e.number e.kept e.ended

pub returns-then-is_ready-clause-ready : goal.returns-then-is_ready-clause-ready
returns-then-is_ready-clause-ready g c = λ isnt.
    let no : true ≡ false = sym (sym c.is_ready.ensures.ready ∙ c.if-is_ready.true) ∙ sym (still_ready g (goal.at.returns-then-is_ready-clause-ready g c).After-is_ready) ∙ isnt in
    absurd (cc)

pub returns-clause-ready : goal.returns-clause-ready
returns-clause-ready g c = ok_weaker c.hand_over.result (λ none isnt. none) c.hand_over.ensures.empty
