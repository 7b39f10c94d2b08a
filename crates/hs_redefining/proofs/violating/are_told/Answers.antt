use Rattle.std.proofs.Common.{◌≡◌, true, false, refl, sym, subst}
use Rattle.std.specs.List.{All}
use Rattle.hs_schema.specs.declared.thing.Thing.{Thing}
use Rattle.hs_redefining.specs.Effects.{rows_by}
use Rattle.hs_redefining.specs.declared.effect.Effect.{Effect}
use Rattle.hs_redefining.proofs.violating.are_told.Goals as goal

pub returns-in-Nothing : goal.returns-in-Nothing
returns-in-Nothing c = λ yes maps are. subst (λ (e : Effect). All (λ (t : Thing). maps t.table.0 ≡ rows_by e maps t.table.0) c.args.things.now) (sym c.in-Nothing.is) (λ k d lt. refl)

pub returns-in-Clears : goal.returns-in-Clears
returns-in-Clears c = λ yes maps are. subst (λ (e : Effect). All (λ (t : Thing). maps t.table.0 ≡ rows_by e maps t.table.0) c.args.things.now) (sym c.in-Clears.is) (c.may_stay.ensures yes maps are)

pub returns-in-Lengthens : goal.returns-in-Lengthens
returns-in-Lengthens c = λ yes maps are. absurd (let no : false ≡ true = yes in cc)
