use Rattle.std.proofs.Common.{◌≡◌, Bool, true, false, Ok, refl, sym, ap, subst}
use Rattle.hs_run.specs.declared.gathered.Gathered.{Gathered}
use Rattle.hs_run.specs.declared.running.Running.{Running}
use Rattle.hs_run.specs.Running.{MovesOn}
use Rattle.hs_run.proofs.Moving.{moves_failing, moves_handing, moves_none, moves_on, moves_over, moves_wanting, prompts_silent}
use Rattle.hs_run.proofs.Steps.{stepped}
use Rattle.hs_run.proofs.running.Running.step.Goals as goal
use Rattle.hs_run.proofs.running.Running.step.Goals.{After-mark, After-hand_over_when_large}

-- the run with the piece
abbrev with_piece : (g : _) (c : After-mark g) → Running g.row.T.Denot
with_piece g c = record { reader = c.args.self.now.reader; turns = c.step.new.self; outgoing = c.mark.new.self }

-- and with what went out
abbrev with_out : (g : _) (c : After-hand_over_when_large g) → Running g.row.T.Denot
with_out g c = record { reader = c.args.self.now.reader; turns = c.step.new.self; outgoing = c.hand_over_when_large.new.self }

gathered : (g : _) (c : After-mark g) → MovesOn {R = Bool} g.T.Turns g.H.Source g.H.Host c.args.self.now c.args.host.now (with_piece g c) c.args.host.now (Ok true)
gathered g c =
    let ok = c.in-Ok-true.ensures in
    stepped g.T.Turns g.H.Source g.H.Host c.args.self.now c.step.new.self c.step.new.gathered c.mark.new.self c.args.host.now true c.mark.ensures (g.met.H.Host.output_now c.args.host.now)
    (λ f at. ok.steps f at c.in-Ok-true.field-0-test)

pub hand_over_when_large-requires : goal.hand_over_when_large-requires
hand_over_when_large-requires g c = record { serving = (gathered g (goal.at.hand_over_when_large-requires g c).After-mark c.requires.sane.0 c.requires.sane.1).next.sane.serving }

pub returns-in_err-hand_over_when_large-in-Ok-true-clause-moves : goal.returns-in_err-hand_over_when_large-in-Ok-true-clause-moves
returns-in_err-hand_over_when_large-in-Ok-true-clause-moves g c =
    let at = (goal.at.returns-in_err-hand_over_when_large-in-Ok-true-clause-moves g c).After-mark in
    let behind = with_out g (goal.at.returns-in_err-hand_over_when_large-in-Ok-true-clause-moves g c).After-hand_over_when_large in
    let first = gathered g at in
    let stop = c.in_err-hand_over_when_large-in-Ok-true.field-0.0 in
    moves_on g.T.Turns g.H.Source g.H.Host c.args.self.now (with_piece g at) behind c.args.host.now c.args.host.now c.hand_over_when_large.new.host true c.from_residual.result first
    (moves_failing g.T.Turns g.H.Source g.H.Host (with_piece g at) behind c.args.host.now c.hand_over_when_large.new.host stop c.from_residual.result c.from_residual.ensures.1
    (moves_handing g.T.Turns g.H.Source g.H.Host (with_piece g at) behind c.args.host.now c.hand_over_when_large.new.host _ refl refl c.hand_over_when_large.ensures.unread c.in_err-hand_over_when_large-in-Ok-true.ensures.hands c.hand_over_when_large.ensures.unasked))

pub returns-in_ok-hand_over_when_large-in-Ok-true-clause-moves : goal.returns-in_ok-hand_over_when_large-in-Ok-true-clause-moves
returns-in_ok-hand_over_when_large-in-Ok-true-clause-moves g c =
    let at = (goal.at.returns-in_ok-hand_over_when_large-in-Ok-true-clause-moves g c).After-mark in
    let behind = with_out g (goal.at.returns-in_ok-hand_over_when_large-in-Ok-true-clause-moves g c).After-hand_over_when_large in
    let first = gathered g at in
    moves_on g.T.Turns g.H.Source g.H.Host c.args.self.now (with_piece g at) behind c.args.host.now c.args.host.now c.hand_over_when_large.new.host true (Ok true) first
    (moves_over g.T.Turns g.H.Source g.H.Host (with_piece g at) behind c.args.host.now c.hand_over_when_large.new.host tt true
    (moves_handing g.T.Turns g.H.Source g.H.Host (with_piece g at) behind c.args.host.now c.hand_over_when_large.new.host _ refl refl c.hand_over_when_large.ensures.unread c.in_ok-hand_over_when_large-in-Ok-true.ensures.hands c.hand_over_when_large.ensures.unasked))

pub returns-in-Ok-false-clause-moves : goal.returns-in-Ok-false-clause-moves
returns-in-Ok-false-clause-moves g c =
    let same = (c.in-Ok-false.ensures.rests c.in-Ok-false.field-0-test).1 in
    let now : record { reader = c.args.self.now.reader; turns = c.step.new.self; outgoing = record { gathered = c.step.new.gathered; standing = c.args.self.now.outgoing.standing; log = c.args.self.now.outgoing.log } } ≡ c.args.self.now = rw (same.0, same.1) refl in
    subst (λ (r : Running g.row.T.Denot). MovesOn {R = Bool} g.T.Turns g.H.Source g.H.Host c.args.self.now c.args.host.now r c.args.host.now (Ok false)) (sym now)
    (moves_none g.T.Turns g.H.Source g.H.Host c.args.self.now c.args.host.now false)

pub returns-in-Err-clause-moves : goal.returns-in-Err-clause-moves
returns-in-Err-clause-moves g c =
    moves_wanting g.T.Turns g.H.Source g.H.Host c.args.self.now _ _ c.wanting.new.self c.args.host.now c.wanting.new.host c.wanting.result
    (ap (λ (x : Gathered). record { gathered = x; standing = c.args.self.now.outgoing.standing; log = c.args.self.now.outgoing.log }) c.in-Err.ensures.err) c.wanting.ensures.hands
    (prompts_silent g.T.Turns g.H.Source g.H.Host c.args.self.now c.args.host.now c.wanting.new.host c.wanting.ensures.unasked)
