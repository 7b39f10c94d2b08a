use Rattle.std.proofs.Common.{◌≡◌, [], rules}
use Rattle.hs_gate.proofs.Batches.{viewed_none, none_spelled, none_counted}
use Rattle.hs_gate.proofs.batch.Batch.clear.Goals as goal

pub invariant_of-self : goal.invariant_of-self
invariant_of-self c = let none : c.clear.new.self.items ≡ [] = search rules in (none_spelled _ none, none_counted _ none)

pub returns : goal.returns
returns c = let none : c.clear.new.self.items ≡ [] = search rules in viewed_none _ none
