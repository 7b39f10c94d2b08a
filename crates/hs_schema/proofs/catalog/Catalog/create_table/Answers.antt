use Rattle.std.proofs.Common.{◌≡◌, Some, List, ℕ, [], ◌∷◌, ◌++◌, subst, sym, ap, ◌∙◌, ◌≤◌}
use Rattle.std.specs.List.{All}
use Rattle.hs_ast.specs.declared.definition.Storage.{Storage}
use Rattle.hs_plan.specs.declared.definition.Column.{Column}
use Rattle.hs_plan.specs.declared.definition.Constraint.{Constraint}
use Rattle.hs_schema.specs.declared.thing.Part.TheVariants as part
use Rattle.hs_schema.specs.declared.thing.Thing.{Thing}
use Rattle.hs_schema.specs.Catalogue as spec
use Rattle.hs_schema.specs.Kept.{IsGrown}
use Rattle.hs_schema.proofs.Made.{grown_table}
use Rattle.hs_schema.proofs.catalog.Catalog.create_table.Goals as goal

-- copies of a name, columns and constraints stand for them
by_copies : (things : List Thing) (number : ℕ) (storage : Storage) (name name_2 name_3 : List ℕ) (columns columns_2 : List Column) (constraints constraints_2 : List Constraint) (more : List Thing)
    → name_2 ≡ name → name_3 ≡ name → columns_2 ≡ columns → constraints_2 ≡ constraints → more ≡ spec.table_made number storage name columns constraints
    → IsGrown things (record { name = name; number = record { 0 = number }; storage = storage; columns = columns; constraints = constraints }) (Some name) (spec.table_made number storage name columns constraints)
    → IsGrown things (record { name = name_2; number = record { 0 = number }; storage = storage; columns = columns_2; constraints = constraints_2 }) (Some name_3) more
by_copies things number storage name name_2 name_3 columns columns_2 constraints constraints_2 more a b d e f grown =
    let one = subst (λ n. IsGrown things (record { name = n; number = record { 0 = number }; storage = storage; columns = columns; constraints = constraints }) (Some name) (spec.table_made number storage name columns constraints)) (sym a) grown in
    let two = subst (λ n. IsGrown things (record { name = name_2; number = record { 0 = number }; storage = storage; columns = columns; constraints = constraints }) (Some n) (spec.table_made number storage name columns constraints)) (sym b) one in
    let three = subst (λ cs. IsGrown things (record { name = name_2; number = record { 0 = number }; storage = storage; columns = cs; constraints = constraints }) (Some name_3) (spec.table_made number storage name columns constraints)) (sym d) two in
    let four = subst (λ cs. IsGrown things (record { name = name_2; number = record { 0 = number }; storage = storage; columns = columns_2; constraints = cs }) (Some name_3) (spec.table_made number storage name columns constraints)) (sym e) three in
    subst (λ ts. IsGrown things (record { name = name_2; number = record { 0 = number }; storage = storage; columns = columns_2; constraints = constraints_2 }) (Some name_3) ts) (sym f) four

pub add-requires : goal.add-requires
add-requires c =
    let things = c.args.self.now in
    let name = c.args.name.now in
    let number = c.args.number in
    let order = subst (All (λ (t : Thing). t.table.0 ≤ t.number)) c.self.view_is c.self.invariant.whole.after_table in
    let grown = grown_table things number c.args.storage name c.args.columns.now c.args.constraints.now c.requires.new c.requires.free c.requires.next order in
    let rest = spec.constraints_made number (record { 0 = number }) c.args.constraints.now in
    let more = c.in_ok-constraint_things.ensures ∙ ap (λ ts. ts ++ rest) (c.in_ok-push.ensures.items ∙ ap (λ ts. ts ++ spec.made number (record { 0 = number }) (part.Table c.in_ok-copy-2.field-0 c.args.storage c.in_ok-copy_columns-2.field-0) ∷ []) c.new-more.ensures.items)
    ∙ (λ i. spec.made number (record { 0 = number }) (part.Table (c.in_ok-copy-2.ensures i) c.args.storage (c.in_ok-copy_columns-2.ensures i)) ∷ rest) in
    by_copies things number c.args.storage name _ _ c.args.columns.now _ c.args.constraints.now _ _ c.in_ok-copy.ensures (c.into_string-key.ensures ∙ c.in_ok-copy-3.ensures) c.in_ok-copy_columns.ensures c.in_ok-copy_constraints.ensures more grown
