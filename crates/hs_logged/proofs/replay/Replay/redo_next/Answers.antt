use Rattle.std.proofs.Common.{refl, subst}
use Rattle.hs_logged.specs.Read.{Redoes, StandsFor}
use Rattle.hs_logged.proofs.replay.Replay.redo_next.Goals as goal

pub returns-then-branch : goal.returns-then-branch
returns-then-branch g c = λ at s.
    subst (Redoes (g.C.Conditions.wording c.args.conditions.now) g.D.Restored.takes (StandsFor g.D.Restored.stands c.redo.new.self.database c.redo.new.self.last) at c.args.text.now) c.if-branch.true (c.in_ok-redo.ensures at s)

pub returns-else-branch : goal.returns-else-branch
returns-else-branch g c = λ at s.
    (refl, subst (Redoes (g.C.Conditions.wording c.args.conditions.now) g.D.Restored.takes (StandsFor g.D.Restored.stands c.redo.new.self.database c.redo.new.self.last) at c.args.text.now) c.if-branch.false (c.in_ok-redo.ensures at s))
