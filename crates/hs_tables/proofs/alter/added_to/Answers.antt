use Rattle.std.proofs.Common.{◌≡◌, List, IfOk, subst}
use Rattle.hs_elements.specs.Faults.{Text}
use Rattle.hs_outlines.specs.Elements.{elements_of}
use Rattle.hs_tables.specs.Additions.{Base, IsAdded}
use Rattle.hs_tables.specs.Definitions.{base_of}
use Rattle.hs_tables.proofs.alter.added_to.Goals as goal

pub returns-clause-constraints : goal.returns-clause-constraints
returns-clause-constraints g c =
    let kept : Base = record { name = c.as_str-its.result.now; columns = c.as_slice-columns.result.now; constraints = c.as_slice-constraints.result.now } in
    let same : kept ≡ base_of c.args.name.now c.args.t.now = λ i. record { name = c.as_str-its.ensures i; columns = c.as_slice-columns.ensures i; constraints = c.as_slice-constraints.ensures i } in
    subst (λ b. IfOk c.added.result (λ made. (names : List Text) × IsAdded c.args.catalog.now c.args.name.now.at b (elements_of c.args.elements) names made.constraints c.args.faults.now c.added.new.faults)) same c.added.ensures.constraints
