use Rattle.std.proofs.Common.{is_some, ap, ◌∙◌}
use Rattle.hs_schema.specs.Catalogue.{owned}
use Rattle.hs_elements.proofs.Typed.{placed-found}
use Rattle.hs_drops.proofs.taken.is_owned.Goals as goal

pub returns : goal.returns
returns c = c.is_some.ensures ∙ ap is_some c.order_of.ensures ∙ placed-found c.args.name.now 0 (owned c.args.catalog.now)
