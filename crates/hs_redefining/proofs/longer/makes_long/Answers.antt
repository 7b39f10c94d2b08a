use Rattle.std.proofs.Common.{sym, ap, ◌∙◌}
use Rattle.std.proofs.lemmas.Result.{IfOk-weaker}
use Rattle.hs_redefining.specs.Effects.{are_long}
use Rattle.hs_redefining.specs.declared.effect.Effect.{Effect}
use Rattle.hs_redefining.proofs.Long.{long_same}
use Rattle.hs_redefining.proofs.longer.makes_long.Goals as goal

pub returns-in-Lengthens : goal.returns-in-Lengthens
returns-in-Lengthens c = λ maps are.
    IfOk-weaker c.any_long.result _ _
    (λ is told. told ∙ long_same c.args.cat.now c.in-Lengthens.table c.in-Lengthens.value (maps c.in-Lengthens.table.0) ∙ sym (ap (λ (e : Effect). are_long e c.args.cat.now maps) c.in-Lengthens.is))
    (c.any_long.ensures maps are)
