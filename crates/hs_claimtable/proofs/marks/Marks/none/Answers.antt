use Rattle.hs_claimtable.proofs.Kept.{nobody}
use Rattle.hs_claimtable.proofs.marks.Marks.none.Goals as goal

pub returns-clause-none : goal.returns-clause-none
returns-clause-none c = λ only s. nobody only s
