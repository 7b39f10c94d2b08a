use Rattle.std.proofs.Common.{Ok, Err, ap}
use Rattle.hs_run.proofs.Moving.{ends_on, moves_failing, moves_none, moves_on, moves_over}
use Rattle.hs_run.proofs.Stops.{long_of}
use Rattle.hs_run.proofs.running.Running.take_all.Goals as goal

pub loop-init : goal.loop-init
loop-init g c = record { moved = moves_none g.T.Turns g.H.Source g.H.Host c.args.self.now c.args.host.now tt; reading = c.requires.reading }

pub returns-in_err-turn-clause-moves : goal.returns-in_err-turn-clause-moves
returns-in_err-turn-clause-moves g c =
    moves_on g.T.Turns g.H.Source g.H.Host c.args.self.now c.loop.self c.turn.new.self c.args.host.now c.loop.host c.turn.new.host tt c.from_residual.result c.loop.invariant.moved
    (moves_failing g.T.Turns g.H.Source g.H.Host c.loop.self c.turn.new.self c.loop.host c.turn.new.host c.in_err-turn.field-0.0 c.from_residual.result c.from_residual.ensures.1 c.in_err-turn.ensures.moves)

pub loop-preserved : goal.loop-preserved
loop-preserved g c = record {
  moved =
      moves_on g.T.Turns g.H.Source g.H.Host c.args.self.now c.loop.self c.turn.new.self c.args.host.now c.loop.host c.turn.new.host tt (Ok tt) c.loop.invariant.moved
      (moves_over g.T.Turns g.H.Source g.H.Host c.loop.self c.turn.new.self c.loop.host c.turn.new.host c.in_ok-turn.field-0 tt c.in_ok-turn.ensures.moves);
  reading = c.in_ok-turn.ensures.reading;
}

pub returns-clause-moves : goal.returns-clause-moves
returns-clause-moves g c =
    moves_on g.T.Turns g.H.Source g.H.Host c.args.self.now c.loop.self c.turn.new.self c.args.host.now c.loop.host c.turn.new.host tt (Ok tt) c.loop.invariant.moved
    (moves_over g.T.Turns g.H.Source g.H.Host c.loop.self c.turn.new.self c.loop.host c.turn.new.host c.in_ok-turn.field-0 tt c.in_ok-turn.ensures.moves)

pub returns-in_err-turn-clause-too_long : goal.returns-in_err-turn-clause-too_long
returns-in_err-turn-clause-too_long g c = λ tells is.
    ends_on g.T.Turns g.H.Source g.H.Host c.args.self.now c.loop.self c.args.host.now c.loop.host c.turn.new.host tt tells c.loop.invariant.moved
    (c.in_err-turn.ensures.too_long tells (ap Err (long_of c.from_residual.result c.in_err-turn.field-0.0 c.from_residual.ensures.1 is)))
