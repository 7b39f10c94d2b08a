use Rattle.hs_plan.specs.declared.definition.Definition.{Definition}
use Rattle.hs_parttext.proofs.Known.{known_ok}
use Rattle.hs_shorttext.specs.Plain.{IsPlainText}
use Rattle.hs_committext.specs.Definitions.{IsDefinitionText}
use Rattle.hs_committext.proofs.DefinitionLemmas.{alter_found, table_found, index_found, from_plain, plain_from}
use Rattle.hs_committext.proofs.definitions.read_definition.Goals as goal

pub returns-in-Some : goal.returns-in-Some
returns-in-Some g c =
    alter_found (g.C.Conditions.wording c.args.conditions.now) c.args.catalog.now c.args.text.now c.in-Some.found.0 c.in-Some.found.1 c.altering.result
    (rw c.in-Some.is at c.in_ok-found.ensures)
    c.altering.ensures

pub returns-in-Some-2 : goal.returns-in-Some-2
returns-in-Some-2 g c =
    table_found (g.C.Conditions.wording c.args.conditions.now) c.args.catalog.now c.args.text.now c.in-Some-2.table c.creating.result
    (rw c.in-Some-2.is at c.in_ok-table.ensures)
    c.creating.ensures

pub returns-in-Some-3 : goal.returns-in-Some-3
returns-in-Some-3 g c =
    index_found (g.C.Conditions.wording c.args.conditions.now) c.args.catalog.now c.args.text.now c.in-Some-3.index c.indexing.result
    (rw c.in-Some-3.is at c.in_ok-index.ensures)
    c.indexing.ensures

pub returns : goal.returns
returns g c =
    let wording = g.C.Conditions.wording c.args.conditions.now in
    let things = c.args.catalog.now in
    known_ok (λ (d : Definition). d) (IsPlainText c.args.text.now) (IsDefinitionText wording things c.args.text.now)
    (from_plain wording things c.args.text.now)
    (plain_from wording things c.args.text.now (rw c.in_default.is at c.in_ok-found.ensures) (rw c.in_default-2.is at c.in_ok-table.ensures) (rw c.in_default-3.is at c.in_ok-index.ensures))
    c.read_plain.result c.read_plain.ensures
