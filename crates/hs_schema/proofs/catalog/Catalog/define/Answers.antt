use Rattle.std.proofs.Common.{subst, sym, ap, ◌∙◌}
use Rattle.hs_schema.specs.Catalogue as spec
use Rattle.hs_schema.proofs.Made.{new_one}
use Rattle.hs_schema.proofs.catalog.Catalog.define.Goals as goal

pub alter-requires-in-AddConstraint-clause-free : goal.alter-requires-in-AddConstraint-clause-free
alter-requires-in-AddConstraint-clause-free c =
    let things = c.args.self.now in
    let bound = subst (λ d. spec.IsBound things d) c.in-AddConstraint.is c.requires.bound in
    subst (spec.AreNew things) (sym c.from_ref.ensures.value) (new_one things c.in-AddConstraint.constraint bound.1)

pub alter-requires-in-CreateIndex-clause-free : goal.alter-requires-in-CreateIndex-clause-free
alter-requires-in-CreateIndex-clause-free c =
    let things = c.args.self.now in
    let bound = subst (λ d. spec.IsBound things d) c.in-CreateIndex.is c.requires.bound in
    subst (spec.AreNew things) (sym c.from_ref-in-CreateIndex.ensures.value) (new_one things _ (ap (spec.owner_of things) c.in_ok-copy-in-CreateIndex.ensures ∙ bound.1))
