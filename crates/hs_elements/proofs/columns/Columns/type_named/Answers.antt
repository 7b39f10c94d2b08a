use Rattle.std.proofs.Common.{ap, ◌∙◌}
use Rattle.hs_elements.specs.Columns.{typed_as}
use Rattle.hs_schema.proofs.Texts.{looked}
use Rattle.hs_elements.proofs.columns.Columns.type_named.Goals as goal

pub returns : goal.returns
returns c =
    let name = c.args.name.now in
    c.copied.ensures ∙ c.get.ensures.value ∙ looked c.self.inside.types.entries name ∙ ap (λ t. typed_as t name) c.self.view_is
