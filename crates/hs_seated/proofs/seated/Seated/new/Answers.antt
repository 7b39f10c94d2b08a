use Rattle.std.specs.FinMap.{empty}
use Rattle.hs_seated.proofs.seated.Seated.new.Goals as goal

pub returns : goal.returns
returns c = c.over.ensures (λ table. empty) c.new.ensures
