use Rattle.hs_claimtable.proofs.Kept.{without_both}
use Rattle.hs_claimtable.proofs.marks.Marks.without.Goals as goal

pub returns : goal.returns
returns c = without_both c.args.self (record { all = c.without-all.result; exclusive = c.without-exclusive.result }) c.args.session.0 c.without-all.ensures c.without-exclusive.ensures
