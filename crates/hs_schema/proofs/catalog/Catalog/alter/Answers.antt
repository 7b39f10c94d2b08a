use Rattle.std.proofs.Common.{None, Option, ◌++◌, Bor, is_some, subst, sym, ap, ◌∙◌, ◌≤◌}
use Rattle.std.specs.List.{All}
use Rattle.std.specs.Option.{option_map}
use Rattle.hs_plan.specs.declared.definition.Column.{Column}
use Rattle.hs_schema.specs.declared.thing.Thing.{Thing}
use Rattle.hs_schema.specs.Catalogue as spec
use Rattle.hs_schema.specs.Kept.{IsGrown}
use Rattle.hs_schema.proofs.Made.{grown_parts}
use Rattle.hs_schema.proofs.Things.{named_there}
use Rattle.hs_schema.proofs.catalog.Catalog.alter.Goals as goal

pub returns-in_default-table_numbered-clause-ok : goal.returns-in_default-table_numbered-clause-ok
returns-in_default-table_numbered-clause-ok c =
    let there = named_there c.args.self.now c.args.name.now c.in-Some.table (sym c.in-Some.ensures) in
    let none = ap is_some c.in_default-table_numbered.ensures in
    cc

pub add-requires : goal.add-requires
add-requires c =
    let things = c.args.self.now in
    let order = subst (All (λ (t : Thing). t.table.0 ≤ t.number)) c.self.view_is c.self.invariant.whole.after_table in
    let column : Option Column = option_map (λ (k : Bor Column). k.now) c.args.column in
    let constraints = c.args.constraints.now in
    let number = c.args.number in
    let table = c.in-Some.table in
    let grown_here = grown_parts things table c.in-Some-table_numbered.found.now number column constraints (sym c.in-Some-table_numbered.ensures) c.requires.free c.requires.next order in
    let more = c.in_ok-constraint_things.ensures ∙ ap (λ ts. ts ++ spec.constraints_made number table constraints) (c.in_ok-column_thing.ensures ∙ ap (λ ts. ts ++ spec.column_made number table column) c.new-more.ensures.items) in
    let one = subst (λ t. IsGrown things t None (spec.parts_made number column constraints table)) (sym c.in_ok-made.ensures) grown_here in
    subst (λ ts. IsGrown things c.in_ok-made.made None ts) (sym more) one
