use Rattle.std.proofs.Common.{refl}
use Rattle.hs_claimtable.proofs.Kept.{with_exclusive, with_shared}
use Rattle.hs_claimtable.proofs.marks.Marks.with.Goals as goal

pub returns-then-exclusive : goal.returns-then-exclusive
returns-then-exclusive c = with_exclusive c.args.self (record { all = c.with-all.result; exclusive = c.with-exclusive.result }) c.args.session.0 c.with-all.ensures.members c.args.exclusive c.if-exclusive.true c.with-exclusive.ensures.members

pub returns : goal.returns
returns c = with_shared c.args.self (record { all = c.with-all.result; exclusive = c.args.self.exclusive }) c.args.session.0 c.with-all.ensures.members c.args.exclusive c.if-exclusive.false refl
