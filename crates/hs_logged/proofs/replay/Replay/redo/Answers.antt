use Rattle.hs_logged.specs.Read.{Redoes, Remakes, StandsFor}
use Rattle.hs_logged.proofs.Replaying.{broken, if_ok, redone}
use Rattle.hs_logged.proofs.replay.Replay.redo.Goals as goal

pub returns-in-Ok : goal.returns-in-Ok
returns-in-Ok g c = λ at s.
    if_ok (Remakes g.D.Restored.takes (StandsFor g.D.Restored.stands c.make.new.self.database c.make.new.self.last) at c.in-Ok.commit.session c.in-Ok.commit.changes)
    (Redoes (g.C.Conditions.wording c.args.conditions.now) g.D.Restored.takes (StandsFor g.D.Restored.stands c.make.new.self.database c.make.new.self.last) at c.args.text.now) c.make.result
    (λ b made.
    redone (g.C.Conditions.wording c.args.conditions.now) g.D.Restored.takes (StandsFor g.D.Restored.stands c.make.new.self.database c.make.new.self.last) at c.catalog.result.now c.args.self.now.last c.args.text.now c.in-Ok.commit.session c.in-Ok.commit.changes b
    (c.catalog.ensures at.database s.held) s.behind c.in-Ok.ensures.read.0 c.in-Ok.ensures.read.1 made)
    (c.make.ensures at s)

pub returns-in-Err-Broken : goal.returns-in-Err-Broken
returns-in-Err-Broken g c = λ at s.
    broken (g.C.Conditions.wording c.args.conditions.now) g.D.Restored.takes (StandsFor g.D.Restored.stands c.args.self.now.database c.args.self.now.last) at c.catalog.result.now c.args.self.now.last c.args.text.now
    (c.catalog.ensures at.database s.held) s.behind (rw c.in-Err-Broken.field-0-is at c.in-Err-Broken.ensures.read)
