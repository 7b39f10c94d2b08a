use Rattle.std.proofs.Common.{◌∙◌}
use Rattle.hs_claimtable.proofs.Kept.{gone_after}
use Rattle.hs_claimtable.proofs.marks.unmark.Goals as goal

pub returns-then-clear : goal.returns-then-clear
returns-then-clear g c = λ only p s h. gone_after g.K.Ord.cmp g.met.K.Ord.total c.clear.new.places c.remove-gone.new.self c.args.place.now (c.clear.ensures.left c.if-clear.true) c.remove-gone.ensures.updates.0 only p s h ∙ c.clear.ensures.marks only p s h
