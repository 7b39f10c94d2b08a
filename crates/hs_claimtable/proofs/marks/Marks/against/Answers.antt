use Rattle.std.proofs.Common.{not, sym, ap}
use Rattle.hs_claimtable.specs.Marks.{is_marked}
use Rattle.hs_claimtable.proofs.marks.Marks.against.Goals as goal

pub returns-then-exclusive : goal.returns-then-exclusive
returns-then-exclusive c = λ s. ap (λ b. is_marked (not b) c.args.self s) (sym c.if-exclusive.true)

pub returns : goal.returns
returns c = λ s. ap (λ b. is_marked (not b) c.args.self s) (sym c.if-exclusive.false)
