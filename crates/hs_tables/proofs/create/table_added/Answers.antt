use Rattle.std.proofs.Common.{◌≡◌, List, [], IfOk, subst}
use Rattle.hs_ast.specs.declared.definition.TableElement.{TableElement}
use Rattle.hs_elements.specs.Faults.{Text}
use Rattle.hs_tables.specs.Additions.{Base, IsAdded}
use Rattle.hs_tables.specs.Definitions.{new_table}
use Rattle.hs_tables.proofs.create.table_added.Goals as goal

pub returns-clause-constraints : goal.returns-clause-constraints
returns-clause-constraints g c =
    let things = c.args.catalog.now in
    let t = c.args.c.now in
    let kept : Base = record { name = c.as_str-name.result.now; columns = []; constraints = [] } in
    let same : kept ≡ new_table t.name = λ i. record { name = c.as_str-name.ensures i; columns = []; constraints = [] } in
    subst (λ (els : List TableElement). IfOk c.added.result (λ made. (names : List Text) × IsAdded things t.name.at (new_table t.name) els names made.constraints c.args.faults.now c.added.new.faults)) c.as_slice-all.ensures
    (subst (λ (b : Base). IfOk c.added.result (λ made. (names : List Text) × IsAdded things t.name.at b c.as_slice-all.result.now names made.constraints c.args.faults.now c.added.new.faults)) same c.added.ensures.constraints)
