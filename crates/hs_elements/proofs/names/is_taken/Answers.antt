use Rattle.std.proofs.Common.{◌||◌, is_some, sym, ap, ◌∙◌}
use Rattle.hs_schema.specs.Catalogue.{owner_of, owned}
use Rattle.hs_elements.proofs.Typed.{placed-found}
use Rattle.hs_elements.proofs.names.is_taken.Goals as goal

pub returns-then-has : goal.returns-then-has
returns-then-has c = sym (ap (λ b. b || is_some (owner_of c.args.cat.now c.args.name.now)) (sym c.has.ensures ∙ c.if-has.true))

pub returns : goal.returns
returns c =
    let things = c.args.cat.now in
    let name = c.args.name.now in
    c.is_some.ensures ∙ ap is_some c.order_of.ensures ∙ placed-found name 0 (owned things) ∙ sym (ap (λ b. b || is_some (owner_of things name)) (sym c.has.ensures ∙ c.if-has.false))
