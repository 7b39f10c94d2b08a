use Rattle.std.proofs.Common.{◌∙◌}
use Rattle.hs_applied.proofs.Violating.{held_before, violated_is}
use Rattle.hs_applied.proofs.judging.violated.Goals as goal

pub returns-in-Ok : goal.returns-in-Ok
returns-in-Ok c = λ inserted db changes is.
    c.in-Ok.ensures.whole tt (held_before inserted db changes c.args.catalog.now c.args.draft.now is)
    ∙ violated_is inserted db changes c.args.catalog.now c.args.draft.now is
