use Rattle.std.specs.Cmp.{both_ways}
use Rattle.hs_applicable.specs.Bound as bound
use Rattle.hs_applicable.proofs.Tested.{bound_from, bound_test}
use Rattle.hs_applicable.proofs.proper.is_bound.Goals as goal

pub returns : goal.returns
returns c =
    let things = c.args.cat.now in
    let definition = c.args.definition.now in
    both_ways c.is_bound.result (bound.is_bound things definition) (λ h. bound_test things definition (c.is_bound.ensures.0 h)) (λ h. c.is_bound.ensures.1 (bound_from things definition h))
