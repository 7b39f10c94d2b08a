use Rattle.std.proofs.Common.{◌≡◌, ◌∙◌, ◌++◌, ◌∷◌, List, [], Some, ap, sym}
use Rattle.hs_claims.specs.declared.claim.Claim.{Claim}
use Rattle.hs_transactions.proofs.transactions.Transactions.note.Goals as goal

these : (a b : List Claim) → Some a ≡ Some b → a ≡ b
these a b e = cc

pub returns-in_ok-push-in-Some-clause-kept : goal.returns-in_ok-push-in-Some-clause-kept
returns-in_ok-push-in-Some-clause-kept g c = λ some is. (
  c.in_ok-push-in-Some.ensures.first,
  c.in_ok-push-in-Some.ensures.ok ∙ ap (λ (x : List Claim). c.args.self.now.past.claims.items ++ x ∷ []) (these c.in-Some.claims some (sym c.in-Some.is ∙ is)),
)

pub returns-in_ok-push-in-Some-clause-none : goal.returns-in_ok-push-in-Some-clause-none
returns-in_ok-push-in-Some-clause-none g c = λ none. absurd (let clash = sym c.in-Some.is ∙ none in cc)

pub returns-in-None-clause-kept : goal.returns-in-None-clause-kept
returns-in-None-clause-kept g c = λ some is. absurd (let clash = sym c.in-None.is ∙ is in cc)

pub returns-in-None-clause-none : goal.returns-in-None-clause-none
returns-in-None-clause-none g c = λ none. (c.forget.ensures.first, c.forget.ensures.claims)
