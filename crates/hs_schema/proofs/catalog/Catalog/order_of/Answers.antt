use Rattle.std.proofs.Common.{ap, map, ◌∙◌}
use Rattle.std.proofs.lemmas.Iterator.Adapters.{position_from-zero}
use Rattle.std.specs.List.{position_from}
use Rattle.std.specs.Map.{keys_of}
use Rattle.std.specs.Str.{bytes_eq}
use Rattle.hs_schema.specs.Catalogue as spec
use Rattle.hs_schema.proofs.Texts.{placed}
use Rattle.hs_schema.proofs.catalog.Catalog.order_of.Goals as goal

pub returns : goal.returns
returns c =
    let name = c.args.name.now in
    let es = c.self.inside.owners.entries in
    c.get_index_of.ensures.index ∙ position_from-zero _ (keys_of es) ∙ placed es name 0 ∙ ap (λ xs. position_from (bytes_eq name) 0 (map (λ e. e.0) xs)) c.self.invariant.by_constraint ∙ ap (λ things. spec.order_of things name) c.self.view_is
