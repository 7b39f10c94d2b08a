use Rattle.hs_run.proofs.Moving.{moves_on}
use Rattle.hs_run.proofs.running.Running.ending.Goals as goal

pub returns-clause-moves : goal.returns-clause-moves
returns-clause-moves g c =
    moves_on g.T.Turns g.H.Source g.H.Host c.args.self.now c.settle.new.self c.close.new.self c.args.host.now c.settle.new.host c.close.new.host tt c.close.result c.in_ok-settle.ensures.moves c.close.ensures.moves
