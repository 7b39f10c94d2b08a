use Rattle.std.proofs.Common.{◌≡◌, ◌++◌, List, ℕ, ap, ap₂, ◌∙◌, arith}
use Rattle.hs_gate.proofs.Batches.{viewed_both, both_spelled, both_counted, both_fit}
use Rattle.hs_gate.proofs.batch.Batch.append.Goals as goal

pub overflow_add-self : goal.overflow_add-self
overflow_add-self c =
    let is = c.in_ok-push_bytes.ensures.ok ∙ ap (λ (l : List ℕ). c.self.inside.bytes.items ++ l) c.deref.ensures.value in
    let fits = both_fit _ _ _ _ _ c.self.invariant.0 c.more.invariant.0 c.self.invariant.1 c.more.invariant.1 is c.push_bytes.ensures.fits in omega (arith, fits)

pub invariant_of-self-2 : goal.invariant_of-self-2
invariant_of-self-2 c =
    let is = c.in_ok-push_bytes.ensures.ok ∙ ap (λ (l : List ℕ). c.self.inside.bytes.items ++ l) c.deref.ensures.value in
    (both_spelled _ _ _ c.self.invariant.0 c.more.invariant.0 is c.push_bytes.ensures.fits, both_counted _ _ _ _ _ c.self.invariant.0 c.more.invariant.0 c.self.invariant.1 c.more.invariant.1 is c.push_bytes.ensures.fits)

pub returns-clause-ok : goal.returns-clause-ok
returns-clause-ok c =
    let is = c.in_ok-push_bytes.ensures.ok ∙ ap (λ (l : List ℕ). c.self.inside.bytes.items ++ l) c.deref.ensures.value in
    viewed_both _ _ _ c.self.invariant.0 c.more.invariant.0 is c.push_bytes.ensures.fits
    ∙ ap₂ (λ (a b : List (List ℕ)). a ++ b) c.self.view_is c.more.view_is
