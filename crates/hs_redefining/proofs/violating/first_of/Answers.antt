use Rattle.std.proofs.Common.{◌≡◌, get_or, subst, ◌∙◌}
use Rattle.std.specs.List.{All}
use Rattle.hs_schema.specs.Catalogue.{Things}
use Rattle.hs_schema.specs.declared.thing.Thing.{Thing}
use Rattle.hs_redefining.specs.Effects.{rows_by}
use Rattle.hs_redefining.proofs.violating.first_of.Goals as goal

pub returns-then-are_told : goal.returns-then-are_told
returns-then-are_told c = λ maps are.
    let rows = rows_by c.args.effect.now maps in
    let same = subst (λ (ts : Things). All (λ (t : Thing). maps t.table.0 ≡ rows t.table.0) ts) c.things.ensures (c.are_told.ensures c.if-are_told.true maps are) in
    c.first_in.ensures rows (λ k d lt. are.draft (get_or c.args.cat.now k d).table.0 ∙ same k d lt)
