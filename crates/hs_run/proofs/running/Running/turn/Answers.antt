use Rattle.hs_run.specs.Running.{MovesOn}
use Rattle.std.proofs.Common.{Ok}
use Rattle.hs_run.proofs.Moving.{ends_on, moves_failing, moves_on}
use Rattle.hs_run.proofs.running.Running.turn.Goals as goal
use Rattle.hs_run.proofs.running.Running.turn.Goals.{In_ok-ready}

pub returns-in_err-ready-clause-moves : goal.returns-in_err-ready-clause-moves
returns-in_err-ready-clause-moves g c =
    moves_on g.T.Turns g.H.Source g.H.Host c.args.self.now c.settle.new.self c.ready.new.self c.args.host.now c.settle.new.host c.ready.new.host tt c.from_residual-in_err-ready.result c.in_ok-settle.ensures.moves
    (moves_failing g.T.Turns g.H.Source g.H.Host c.settle.new.self c.ready.new.self c.settle.new.host c.ready.new.host c.in_err-ready.field-0.0 c.from_residual-in_err-ready.result c.from_residual-in_err-ready.ensures.1 c.in_err-ready.ensures.moves)

-- until an item may be read
prepared : (g : _) (c : In_ok-ready g) → MovesOn {R = Unit {0}} g.T.Turns g.H.Source g.H.Host c.args.self.now c.args.host.now c.ready.new.self c.ready.new.host (Ok tt)
prepared g c = moves_on g.T.Turns g.H.Source g.H.Host c.args.self.now c.settle.new.self c.ready.new.self c.args.host.now c.settle.new.host c.ready.new.host tt (Ok tt) c.in_ok-settle.ensures.moves c.in_ok-ready.ensures.moves

pub returns-clause-moves : goal.returns-clause-moves
returns-clause-moves g c =
    moves_on g.T.Turns g.H.Source g.H.Host c.args.self.now c.ready.new.self c.advance.new.self c.args.host.now c.ready.new.host c.advance.new.host tt c.advance.result (prepared g (goal.at.returns-clause-moves g c).In_ok-ready) c.advance.ensures.moves

pub returns-clause-too_long : goal.returns-clause-too_long
returns-clause-too_long g c = λ tells long.
    ends_on g.T.Turns g.H.Source g.H.Host c.args.self.now c.ready.new.self c.args.host.now c.ready.new.host c.advance.new.host tt tells (prepared g (goal.at.returns-clause-too_long g c).In_ok-ready) (c.advance.ensures.too_long tells long)
