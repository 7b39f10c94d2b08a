use Rattle.std.proofs.Common.{◌≡◌, [], rules}
use Rattle.hs_gate.proofs.Batches.{viewed_none, none_spelled, none_counted}
use Rattle.hs_gate.proofs.batch.Batch.new.Goals as goal

pub invariant_of-result : goal.invariant_of-result
invariant_of-result c = let none : c.new.result.items ≡ [] = search rules in (none_spelled _ none, none_counted _ none)

pub returns : goal.returns
returns c = let none : c.new.result.items ≡ [] = search rules in viewed_none _ none
