use Rattle.std.proofs.Common.{◌-◌, length, slice_get, subst, ap, ◌∙◌}
use Rattle.hs_schema.specs.Whole.{IsWhole}
use Rattle.hs_schema.proofs.Last.{all_below}
use Rattle.hs_schema.proofs.catalog.Catalog.are_below.Goals as goal

pub returns-in-Some : goal.returns-in-Some
returns-in-Some c =
    let whole = subst IsWhole c.self.view_is c.self.invariant.whole in
    all_below c.args.self.now c.in-Some.last.now c.args.number whole.ascending (c.in-Some.ensures.value ∙ ap (λ ts. slice_get ts (length ts - 1)) (c.deref.ensures.value ∙ c.self.view_is))
