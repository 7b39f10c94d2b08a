use Rattle.std.proofs.Common.{sym, subst}
use Rattle.hs_plan.specs.declared.change.Change.{Change}
use Rattle.hs_changes.specs.Changes.{setting_of}
use Rattle.hs_applied.specs.Applied.{AreSet}
use Rattle.hs_applied.proofs.applying.apply_one.Goals as goal

pub returns-in_ok-put-in-Put-clause-set : goal.returns-in_ok-put-in-Put-clause-set
returns-in_ok-put-in-Put-clause-set c = subst (λ (change : Change). AreSet (setting_of c.args.inserted change) c.args.draft.now c.put.new.draft) (sym c.in-Put.is) (c.in_ok-put-in-Put.ensures.set c.args.inserted)
