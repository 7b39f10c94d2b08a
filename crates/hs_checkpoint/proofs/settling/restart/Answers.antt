use Rattle.hs_checkpoint.proofs.Turns.{starting}
use Rattle.hs_checkpoint.proofs.settling.restart.Goals as goal

pub returns-clause-moments : goal.returns-clause-moments
returns-clause-moments g c = λ told p is none on. starting p _ _ c.args.file _ c.args.epoch is none on
    (on c.args.file _ (g.met.H.Host.read_may_be_left c.args.host.now told.tells told.honest c.args.file)) (c.start.ensures.changes.moments told)
