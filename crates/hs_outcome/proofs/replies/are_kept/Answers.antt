use Rattle.hs_outcome.proofs.Finishing.{kept_by_length}
use Rattle.hs_outcome.proofs.replies.are_kept.Goals as goal

pub returns-in-None : goal.returns-in-None
returns-in-None c = λ count foot. kept_by_length c.args.violation.now c.args.cat.now count c.args.changes.now foot c.in-None.is c.is_long.result c.is_long.ensures
