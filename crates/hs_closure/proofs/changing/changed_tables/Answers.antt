use Rattle.std.proofs.Common.{ℕ, List, nat_eq, ap, ◌∙◌, subst}
use Rattle.std.specs.List.{flat_map}
use Rattle.indexmap.specs.IndexSet.{insert_all}
use Rattle.hs_closure.specs.Sets.{IsClosure}
use Rattle.hs_closure.specs.Steps.{followers}
use Rattle.hs_closure.specs.declared.way.Way.TheVariants as way
use Rattle.hs_closure.proofs.Exact.{exact}
use Rattle.hs_closure.proofs.changing.changed_tables.Goals as goal

pub returns : goal.returns
returns c =
    let things = c.args.cat.now in
    let deleted = c.close.new.set in
    let updated = c.close-2.new.set in
    let carried = flat_map (followers things way.Deletion way.Update) deleted in
    exact things c.args.plan.now updated deleted
    (subst (λ (xs : List ℕ). IsClosure (followers things way.Deletion way.Deletion) xs deleted) c.in_ok-updated.ensures.deleted c.in_ok-close.ensures)
    (subst (λ (xs : List ℕ). IsClosure (followers things way.Update way.Update) xs updated) (c.in_ok-carry.ensures ∙ ap (λ xs. insert_all nat_eq xs carried) c.in_ok-updated.ensures.updated) c.in_ok-close-2.ensures)
