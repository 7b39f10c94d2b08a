use Rattle.std.proofs.Common.{subst, sym, ap, ◌∙◌}
use Rattle.hs_schema.specs.Catalogue as spec
use Rattle.hs_schema.specs.Kept.{IsKept}
use Rattle.hs_schema.proofs.Kept.{kept_without_table}
use Rattle.hs_schema.proofs.catalog.Catalog.drop_table.Goals as goal

pub invariant_of-self : goal.invariant_of-self
invariant_of-self c =
    let k = kept_without_table c.self.inside.things.items c.self.inside.tables.entries c.shift_remove.new.self.entries c.self.inside.numbers.entries c.drop_names.new.names.entries c.self.inside.owners.entries c.drop_names-2.new.names.entries c.self.inside.children.lists.entries c.forget_table.new.self.lists.entries c.self.invariant
    c.args.table c.shift_remove.ensures.updates.0 c.drop_names.ensures c.drop_names-2.ensures c.forget_table.ensures in
    subst (λ things. IsKept things c.shift_remove.new.self.entries c.drop_names.new.names.entries c.drop_names-2.new.names.entries c.forget_table.new.self.lists.entries) (sym c.drop_things.ensures) k

pub returns : goal.returns
returns c = c.drop_things.ensures ∙ ap (λ t. spec.without_table t c.args.table) c.self.view_is
