use Rattle.std.proofs.Common.{◌==◌, ◌&&◌, Bool, cond, sym, ap, ◌∙◌}
use Rattle.std.proofs.lemmas.Result.{on_ok_weaker}
use Rattle.hs_actions.specs.Referencing.{keys_on}
use Rattle.hs_acting.specs.Kept.{keys_in}
use Rattle.hs_schema.specs.Catalogue.{is_table}
use Rattle.hs_schema.specs.declared.thing.Part.{Part}
use Rattle.hs_references.specs.Collected.{or_these}
use Rattle.hs_references.specs.Referenced.{references_on}
use Rattle.hs_references.proofs.collected.put_thing.Goals as goal

pub returns-in-Table : goal.returns-in-Table
returns-in-Table c =
    let thing = c.args.thing.now in
    let old = keys_on (keys_in c.args.keys.now) in
    on_ok_weaker c.put_table.result
    (λ is t. is t ∙ ap (λ (part : Part). cond (is_table part && (t == thing.table.0)) (or_these (old t) (references_on c.args.cat.now thing.table)) (old t)) (sym c.in-Table.is))
    c.put_table.ensures

pub returns-in-Column : goal.returns-in-Column
returns-in-Column c = λ t.
    let thing = c.args.thing.now in
    let old = keys_on (keys_in c.args.keys.now) in
    ap (λ (part : Part). cond (is_table part && (t == thing.table.0)) (or_these (old t) (references_on c.args.cat.now thing.table)) (old t)) (sym c.in-Column.is)

pub returns-in-Constraint : goal.returns-in-Constraint
returns-in-Constraint c = λ t.
    let thing = c.args.thing.now in
    let old = keys_on (keys_in c.args.keys.now) in
    ap (λ (part : Part). cond (is_table part && (t == thing.table.0)) (or_these (old t) (references_on c.args.cat.now thing.table)) (old t)) (sym c.in-Constraint.is)
