use Rattle.std.proofs.Common.{◌∷◌, [], ◌++◌, List, ℕ, ap, ◌∙◌, arith}
use Rattle.hs_gate.proofs.Batches.{viewed_push, push_spelled, push_counted, push_fits}
use Rattle.hs_gate.proofs.batch.Batch.push.Goals as goal

pub overflow_add-self : goal.overflow_add-self
overflow_add-self c = let fits = push_fits _ _ c.args.payload.now _ c.self.invariant.0 c.self.invariant.1 c.in_ok-push_group.ensures.ok c.push_group.ensures.fits in omega (arith, fits)

pub invariant_of-self-2 : goal.invariant_of-self-2
invariant_of-self-2 c = (
  push_spelled _ _ c.args.payload.now c.self.invariant.0 c.in_ok-push_group.ensures.ok c.push_group.ensures.fits,
  push_counted _ _ c.args.payload.now _ c.self.invariant.0 c.self.invariant.1 c.in_ok-push_group.ensures.ok c.push_group.ensures.fits,
)

pub returns-clause-ok : goal.returns-clause-ok
returns-clause-ok c =
    viewed_push _ _ c.args.payload.now c.self.invariant.0 c.in_ok-push_group.ensures.ok c.push_group.ensures.fits
    ∙ ap (λ (l : List (List ℕ)). l ++ c.args.payload.now ∷ []) c.self.view_is
