use Rattle.std.proofs.Common.{Ok, refl, ◌∙◌}
use Rattle.hs_run.proofs.Moving.{moves_failing, moves_none, moves_on, moves_over}
use Rattle.hs_run.proofs.running.Running.close_all.Goals as goal

pub loop-init : goal.loop-init
loop-init g c = record { moved = moves_none g.T.Turns g.H.Source g.H.Host c.args.self.now c.args.host.now tt; reader = refl; unread = refl }

pub returns-in_err-ending-clause-moves : goal.returns-in_err-ending-clause-moves
returns-in_err-ending-clause-moves g c =
    moves_on g.T.Turns g.H.Source g.H.Host c.args.self.now c.loop.self c.ending.new.self c.args.host.now c.loop.host c.ending.new.host tt c.from_residual.result c.loop.invariant.moved
    (moves_failing g.T.Turns g.H.Source g.H.Host c.loop.self c.ending.new.self c.loop.host c.ending.new.host c.in_err-ending.field-0.0 c.from_residual.result c.from_residual.ensures.1 c.in_err-ending.ensures.moves)

pub loop-preserved : goal.loop-preserved
loop-preserved g c = record {
  moved =
      moves_on g.T.Turns g.H.Source g.H.Host c.args.self.now c.loop.self c.ending.new.self c.args.host.now c.loop.host c.ending.new.host tt (Ok tt) c.loop.invariant.moved
      (moves_over g.T.Turns g.H.Source g.H.Host c.loop.self c.ending.new.self c.loop.host c.ending.new.host c.in_ok-ending.field-0 tt c.in_ok-ending.ensures.moves);
  reader = c.in_ok-ending.ensures.reader ∙ c.loop.invariant.reader;
  unread = c.in_ok-ending.ensures.unread ∙ c.loop.invariant.unread;
}

pub returns-clause-moves : goal.returns-clause-moves
returns-clause-moves g c =
    moves_on g.T.Turns g.H.Source g.H.Host c.args.self.now c.loop.self c.ending.new.self c.args.host.now c.loop.host c.ending.new.host tt (Ok tt) c.loop.invariant.moved
    (moves_over g.T.Turns g.H.Source g.H.Host c.loop.self c.ending.new.self c.loop.host c.ending.new.host c.in_ok-ending.field-0 tt c.in_ok-ending.ensures.moves)
