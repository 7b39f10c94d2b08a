use Rattle.std.proofs.Common.{ap, ◌∙◌}
use Rattle.std.proofs.lemmas.Iterator.Adapters.{position_from-zero}
use Rattle.std.specs.Map.{keys_of}
use Rattle.hs_elements.specs.Columns.{place_in}
use Rattle.hs_schema.proofs.Texts.{placed}
use Rattle.hs_elements.proofs.columns.Columns.place_of.Goals as goal

pub returns : goal.returns
returns c =
    let name = c.args.name.now in
    let es = c.self.inside.types.entries in
    c.get_index_of.ensures.index ∙ position_from-zero _ (keys_of es) ∙ placed es name 0 ∙ ap (λ t. place_in t name) c.self.view_is
