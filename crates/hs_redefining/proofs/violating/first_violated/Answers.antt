use Rattle.std.proofs.Common.{Some, sym, ap, ◌∙◌}
use Rattle.hs_schema.specs.Catalogue.{Things}
use Rattle.hs_redefining.specs.Effects.{told_by}
use Rattle.hs_redefining.proofs.Staying.{told_none}
use Rattle.hs_redefining.proofs.violating.first_violated.Goals as goal

pub returns-in-Some : goal.returns-in-Some
returns-in-Some c = λ maps are.
    c.told.ensures
    ∙ ap (λ (ts : Things). told_by c.args.effect.now ts (Some c.in-Some.violation)) c.things.ensures
    ∙ ap (told_by c.args.effect.now c.args.cat.now) (sym c.in-Some.is ∙ c.in_ok-first.ensures maps are)

pub returns-in-None : goal.returns-in-None
returns-in-None c = λ maps are. told_none c.args.effect.now c.args.cat.now ∙ ap (told_by c.args.effect.now c.args.cat.now) (sym c.in-None.is ∙ c.in_ok-first.ensures maps are)
