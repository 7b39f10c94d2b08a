use Rattle.std.proofs.Common.{subst}
use Rattle.hs_changes.specs.Settings.{Maps}
use Rattle.hs_turns.specs.Definitions.{rows_after}
use Rattle.hs_seated.specs.Rows.{AreRows}
use Rattle.hs_redefining.proofs.remaking.remake_all.Goals as goal

pub returns : goal.returns
returns c = λ maps are.
    c.accept.ensures.rows (rows_after c.args.cat.now c.args.definition.now c.args.number maps)
    (subst (λ (m : Maps). AreRows m c.remake.new.rows) (c.in_ok-effect.ensures.rows maps) (c.in_ok-remake.ensures maps are))
