use Rattle.std.proofs.Common.{◌≡◌, ◌++◌, nat_eq, ap, ◌∙◌}
use Rattle.indexmap.specs.IndexSet.{insert_all}
use Rattle.hs_plan.specs.Named.{named_in_plan}
use Rattle.hs_closure.specs.Steps.{numbers}
use Rattle.hs_closure.proofs.Answered.{has_needed}
use Rattle.hs_closure.proofs.tables.needed.Goals as goal

pub returns : goal.returns
returns c = λ has.
    let plan = c.args.plan.now in
    let named : c.as_slice.result.now ≡ named_in_plan plan = c.as_slice.ensures ∙ c.in_ok-named_in_plan.ensures ∙ ap (λ xs. xs ++ named_in_plan plan) c.new-named.ensures in
    has_needed c.args.cat.now plan c.args.written.now c.add_all.new.self c.add_all_neighbours.new.set has
    (c.in_ok-add_all.ensures ∙ (λ i. insert_all nat_eq (c.new-set.ensures i) (numbers (named i)))) c.in_ok-add_all_neighbours.ensures
