use Rattle.std.proofs.Common.{Ok, refl, ap, ◌∙◌, arith}
use Rattle.hs_run.proofs.Moving.{moves_failing, moves_none, moves_on, moves_over}
use Rattle.hs_run.proofs.running.Running.settle.Goals as goal

pub loop-init : goal.loop-init
loop-init g c = record { moved = moves_none g.T.Turns g.H.Source g.H.Host c.args.self.now c.args.host.now tt; reader = refl; weight = omega arith; unread = refl }

pub returns-in_err-step-clause-moves : goal.returns-in_err-step-clause-moves
returns-in_err-step-clause-moves g c =
    moves_on g.T.Turns g.H.Source g.H.Host c.args.self.now c.loop.self c.step.new.self c.args.host.now c.loop.host c.step.new.host tt c.from_residual.result c.loop.invariant.moved
    (moves_failing g.T.Turns g.H.Source g.H.Host c.loop.self c.step.new.self c.loop.host c.step.new.host c.in_err-step.field-0.0 c.from_residual.result c.from_residual.ensures.1 c.in_err-step.ensures.moves)

pub loop-preserved : goal.loop-preserved
loop-preserved g c = record {
  moved =
      moves_on g.T.Turns g.H.Source g.H.Host c.args.self.now c.loop.self c.step.new.self c.args.host.now c.loop.host c.step.new.host tt (Ok tt) c.loop.invariant.moved
      (moves_over g.T.Turns g.H.Source g.H.Host c.loop.self c.step.new.self c.loop.host c.step.new.host c.in_ok-step.field-0 tt c.in_ok-step.ensures.moves);
  reader = c.in_ok-step.ensures.reader ∙ c.loop.invariant.reader;
  weight = omega (arith, c.in_ok-step.ensures.weight c.if-branch.true, c.loop.invariant.weight);
  unread = c.in_ok-step.ensures.unread ∙ c.loop.invariant.unread;
}

pub returns-clause-moves : goal.returns-clause-moves
returns-clause-moves g c =
    moves_on g.T.Turns g.H.Source g.H.Host c.args.self.now c.loop.self c.step.new.self c.args.host.now c.loop.host c.step.new.host tt (Ok tt) c.loop.invariant.moved
    (moves_over g.T.Turns g.H.Source g.H.Host c.loop.self c.step.new.self c.loop.host c.step.new.host c.in_ok-step.field-0 tt c.in_ok-step.ensures.moves)

pub returns-clause-weight : goal.returns-clause-weight
returns-clause-weight g c = omega (arith, ap g.T.Turns.weight (c.in_ok-step.ensures.rests c.if-branch.false).1, c.loop.invariant.weight)
