use Rattle.hs_claimtable.proofs.Kept.{none_left}
use Rattle.hs_claimtable.proofs.marks.Marks.is_empty.Goals as goal

pub returns-then-is_empty : goal.returns-then-is_empty
returns-then-is_empty c = λ is. none_left c.args.self (c.is_empty.ensures.0 c.if-is_empty.true) (c.is_empty-then-is_empty.ensures.0 is)
