use Rattle.std.proofs.Common.{ℕ, ◌+◌, true, List, ap, subst}
use Rattle.hs_logged.specs.Read.{NextStops, Redoes, StandsFor}
use Rattle.hs_logged.proofs.Replaying.{restored_all, restored_more, stopped_by}
use Rattle.hs_logged.proofs.replay.Replay.redo_all.Goals as goal

pub returns-in_err-redo_next : goal.returns-in_err-redo_next
returns-in_err-redo_next g c = λ at s.
    stopped_by (g.C.Conditions.wording c.args.conditions.now) g.D.Restored.takes (StandsFor g.D.Restored.stands c.loop-text.self.database c.loop-text.self.last) (StandsFor g.D.Restored.stands c.redo_next.new.self.database c.redo_next.new.self.last)
    at c.args.texts.now c.loop-text.text-index (c.loop-text.number + 1) c.text-item.result c.loop-text-test.true c.text-item.is (ap (λ (n : ℕ). n + 1) c.loop-text.invariant.number) (c.loop-text.invariant.so_far at s)
    c.from_residual.result c.in_err-redo_next.field-0.0 c.from_residual.ensures.1
    (λ next held.
    subst (λ (t : List ℕ). NextStops (g.C.Conditions.wording c.args.conditions.now) g.D.Restored.takes (StandsFor g.D.Restored.stands c.redo_next.new.self.database c.redo_next.new.self.last) next (c.loop-text.number + 1) t c.in_err-redo_next.field-0.0) c.as_slice.ensures
    (c.in_err-redo_next.ensures next held))

pub loop-text-preserved : goal.loop-text-preserved
loop-text-preserved g c = record {
  number = ap (λ (n : ℕ). n + 1) c.loop-text.invariant.number;
  stands = let made = c.in_ok-redo_next.ensures c.loop-text.invariant.stands.0 c.loop-text.invariant.stands.1 in (made.0, made.3);
  so_far = λ at s.
      restored_more (g.C.Conditions.wording c.args.conditions.now) g.D.Restored.takes (StandsFor g.D.Restored.stands c.loop-text.self.database c.loop-text.self.last) (StandsFor g.D.Restored.stands c.redo_next.new.self.database c.redo_next.new.self.last)
      at c.args.texts.now c.loop-text.text-index c.text-item.result c.loop-text-test.true c.text-item.is (c.loop-text.invariant.so_far at s)
      (λ next held.
      subst (λ (t : List ℕ). Redoes (g.C.Conditions.wording c.args.conditions.now) g.D.Restored.takes (StandsFor g.D.Restored.stands c.redo_next.new.self.database c.redo_next.new.self.last) next t true) c.as_slice.ensures
      (c.in_ok-redo_next.ensures next held));
}

pub returns : goal.returns
returns g c = λ at s.
    restored_all (g.C.Conditions.wording c.args.conditions.now) g.D.Restored.takes (StandsFor g.D.Restored.stands c.loop-text.self.database c.loop-text.self.last) at c.args.texts.now c.loop-text.text-index c.loop-text-test.false (c.loop-text.invariant.so_far at s)
