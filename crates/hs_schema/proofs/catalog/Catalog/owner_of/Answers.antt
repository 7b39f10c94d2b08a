use Rattle.std.proofs.Common.{ap, ◌∙◌}
use Rattle.hs_schema.specs.Catalogue as spec
use Rattle.hs_schema.proofs.Texts.{found}
use Rattle.hs_schema.proofs.catalog.Catalog.owner_of.Goals as goal

pub returns : goal.returns
returns c =
    let name = c.args.name.now in
    c.copied.ensures ∙ c.get.ensures.value ∙ found c.self.inside.owners.entries (spec.owned c.self.inside.things.items) name c.self.invariant.by_constraint ∙ ap (λ t. spec.owner_of t name) c.self.view_is
