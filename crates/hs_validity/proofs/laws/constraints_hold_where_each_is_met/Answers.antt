use Rattle.std.specs.Prelude.{[]}
use Rattle.hs_validity.proofs.Asked.{all_hold_from, meets_all}
use Rattle.hs_validity.proofs.laws.constraints_hold_where_each_is_met.Goals as goal

pub returns : goal.returns
returns c = λ checks things maps. (meets_all checks things (λ table. []) maps, all_hold_from checks things maps)
