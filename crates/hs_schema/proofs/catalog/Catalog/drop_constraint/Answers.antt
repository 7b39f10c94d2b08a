use Rattle.std.proofs.Common.{subst, sym, ap, ◌∙◌}
use Rattle.hs_schema.specs.Catalogue as spec
use Rattle.hs_schema.specs.Kept.{IsKept}
use Rattle.hs_schema.proofs.Kept.{kept_without_constraint}
use Rattle.hs_schema.proofs.catalog.Catalog.drop_constraint.Goals as goal

pub invariant_of-self : goal.invariant_of-self
invariant_of-self c =
    let k = kept_without_constraint c.self.inside.things.items c.self.inside.tables.entries c.drop_from.new.tables.entries c.self.inside.numbers.entries c.self.inside.numbers.entries c.self.inside.owners.entries c.drop_name.new.names.entries c.self.inside.children.lists.entries c.forget_constraint.new.self.lists.entries c.self.invariant
    c.args.table c.args.name.now c.drop_from.ensures c.drop_name.ensures c.forget_constraint.ensures in
    subst (λ things. IsKept things c.drop_from.new.tables.entries c.self.inside.numbers.entries c.drop_name.new.names.entries c.forget_constraint.new.self.lists.entries) (sym c.drop_thing.ensures) k

pub returns : goal.returns
returns c = c.drop_thing.ensures ∙ ap (λ t. spec.without_constraint t c.args.name.now c.args.table) c.self.view_is
