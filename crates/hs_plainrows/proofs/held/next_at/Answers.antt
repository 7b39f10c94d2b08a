use Rattle.std.proofs.Common.{ap, ◌∙◌}
use Rattle.hs_rows.specs.Numbers.{next_in}
use Rattle.hs_plainrows.specs.Held.{rows_among}
use Rattle.hs_plainrows.proofs.Ordered.{no-next}
use Rattle.hs_plainrows.proofs.held.next_at.Goals as goal

pub returns-in-None : goal.returns-in-None
returns-in-None c = no-next c.args.after ∙ ap (λ o. next_in (rows_among o) c.args.after) c.in-None.ensures.value
