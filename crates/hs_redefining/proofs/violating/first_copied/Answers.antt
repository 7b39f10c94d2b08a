use Rattle.std.proofs.Common.{◌≡◌, get_or, subst, ◌∙◌}
use Rattle.std.specs.List.{All}
use Rattle.hs_draft.specs.Drafted.{after}
use Rattle.hs_schema.specs.Catalogue.{Things}
use Rattle.hs_schema.specs.declared.thing.Thing.{Thing}
use Rattle.hs_redefining.specs.Effects.{rows_by}
use Rattle.hs_redefining.proofs.violating.first_copied.Goals as goal

pub returns : goal.returns
returns c = λ maps are.
    let rows = rows_by c.args.effect.now maps in
    let copies = subst (λ (ts : Things). All (λ (t : Thing). after c.in_ok-draft.draft t.table.0 ≡ rows t.table.0) ts) c.things.ensures (c.in_ok-draft.ensures maps are) in
    c.first_in.ensures rows (λ k d lt. c.index_from.ensures (get_or c.args.cat.now k d).table.0 ∙ copies k d lt)
