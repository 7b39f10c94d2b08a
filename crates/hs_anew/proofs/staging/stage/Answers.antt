use Rattle.hs_host.proofs.Used.{moves_weaker}
use Rattle.hs_host.specs.Files.{of}
use Rattle.hs_host.specs.Used.{ChangesFile}
use Rattle.hs_gate.specs.Crash.{BeginsWith}
use Rattle.hs_anew.proofs.Staged.{staged_moment, staged_from, staged_on, staged_front}
use Rattle.hs_anew.proofs.staging.stage.Goals as goal
use Rattle.hs_anew.proofs.staging.stage.Goals.{After-write}

wrote : (g : _) (c : After-write g) → ChangesFile g.H.Source g.H.Host c.args.file (BeginsWith 2 (of (g.H.Host.files c.args.host.now) c.args.file)) c.args.host.now c.write.new.host
wrote g c = moves_weaker c.write.ensures.moves (λ told m is.
    let s = c.requires.staged told in
    staged_moment (g.H.Host.history c.args.host.now).now m c.args.file _ s.0 c.args.at _ c.args.at s.1 (staged_from _ _ c.args.at s.0 s.1) is)

pub returns-in_err-write-clause-changes : goal.returns-in_err-write-clause-changes
returns-in_err-write-clause-changes g c = wrote g (goal.at.returns-in_err-write-clause-changes g c).After-write

pub returns-clause-changes : goal.returns-clause-changes
returns-clause-changes g c = wrote g (goal.at.returns-clause-changes g c).After-write

pub write-requires-clause-within : goal.write-requires-clause-within
write-requires-clause-within g c = λ told. (c.requires.staged told).1.within

pub returns-clause-front : goal.returns-clause-front
returns-clause-front g c = λ told.
    let s = c.requires.staged told in
    staged_front (g.H.Host.history c.args.host.now).now (g.H.Host.history c.write.new.host).now c.args.file _ _ s.0 c.args.bytes.now c.args.at s.1 (c.in_ok-write.ensures.now told) (c.in_ok-write.ensures.ok told)

pub returns-clause-staged : goal.returns-clause-staged
returns-clause-staged g c = λ told text staged. staged_on (g.H.Host.history c.args.host.now).now (g.H.Host.history c.write.new.host).now c.args.file _ _ text c.args.bytes.now c.args.at staged (c.in_ok-write.ensures.now told) (c.in_ok-write.ensures.ok told)
