use Rattle.hs_host.specs.Files.{of}
use Rattle.hs_host.specs.Used.{ChangesFile}
use Rattle.hs_host.proofs.Used.{changes_weaker}
use Rattle.hs_gate.specs.Crash.{IsAsBefore}
use Rattle.hs_checkpoint.proofs.Turns.{cutting}
use Rattle.hs_checkpoint.proofs.settling.settle.Goals as goal

pub returns-clause-changes : goal.returns-clause-changes
returns-clause-changes g c = changes_weaker c.settle.ensures.changes (λ told left same. same (c.requires.stands told).calm)

pub returns-clause-moments : goal.returns-clause-moments
returns-clause-moments g c = λ told p file kind held on.
    let changes : ChangesFile g.H.Source g.H.Host c.args.gated.now.file (IsAsBefore (of (g.H.Host.files c.args.host.now) c.args.gated.now.file)) c.args.host.now c.settle.new.host = returns-clause-changes g c in
    cutting p _ _ file c.args.gated.now (g.H.Host.files c.args.host.now) kind held on (on file _ (g.met.H.Host.read_may_be_left c.args.host.now told.tells told.honest file)) (changes.moments told)
