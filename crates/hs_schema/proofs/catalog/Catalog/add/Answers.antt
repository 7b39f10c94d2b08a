use Rattle.std.proofs.Common.{ℕ, nat_eq, Some, is_ok, if◌then◌else◌, ◌++◌, cond, List, [], ◌∷◌, Option, take, subst, sym, ap, ◌∙◌, string_bytes, String, Global}
use Rattle.std.proofs.lemmas.List.{length-map}
use Rattle.std.proofs.lemmas.Result.{IfOk-at_ok}
use Rattle.std.specs.HashMap.{Updates}
use Rattle.std.specs.List.{take-map}
use Rattle.std.specs.Map.{lookup}
use Rattle.std.specs.Option.{option_map, option_map_or}
use Rattle.hs_base.specs.declared.numbers.TableNo.{TableNo}
use Rattle.hs_schema.specs.Catalogue as spec
use Rattle.hs_schema.specs.Kept.{IsKept, IsGrown, children_at}
use Rattle.hs_schema.specs.Texts.{texts}
use Rattle.hs_schema.specs.Whole.{IsWhole}
use Rattle.hs_schema.proofs.Kept.{kept_grown}
use Rattle.hs_schema.proofs.Lists.{front_taken}
use Rattle.hs_schema.proofs.Texts.{name_put}
use Rattle.hs_schema.proofs.catalog.Catalog.add.Goals as goal

pub invariant_of-self-in-Err : goal.invariant_of-self-in-Err
invariant_of-self-in-Err c =
    let inv = c.self.invariant in
    let same = c.reserve.ensures.items in
    let old = c.self.inside.owners.entries in
    let more = spec.owned c.args.more.items in
    let kept = c.len-kept.ensures.len ∙ sym (length-map old (λ (e : String Global × TableNo). (string_bytes e.0, e.1))) in
    record {
      by_number = λ m. ap (lookup (nat_eq m.0)) c.reserve-2.ensures.entries ∙ inv.by_number m ∙ ap (λ t. spec.table_numbered t m) (sym same);
      by_name = ap texts c.reserve-3.ensures.entries ∙ inv.by_name ∙ ap spec.named (sym same);
      by_constraint = ap texts c.truncate.ensures.entries ∙ sym (take-map (λ (e : String Global × TableNo). (string_bytes e.0, e.1)) c.len-kept.result c.own_all.new.owners.entries)
          ∙ ap (take c.len-kept.result) c.in_ok-own_all.ensures.ok ∙ ap (λ n. take n (texts old ++ spec.owned c.deref.result.now)) kept ∙ front_taken (texts old) (spec.owned c.deref.result.now) ∙ inv.by_constraint ∙ ap spec.owned (sym same);
      by_parent = λ n. c.in-Err.ensures.err n ∙ inv.by_parent n ∙ ap (λ t. spec.children_of t n) (sym same);
      whole = subst IsWhole (sym same) inv.whole;
    }

pub invariant_of-self-2 : goal.invariant_of-self-2
invariant_of-self-2 c =
    let things = c.self.inside.things.items in
    let more = c.args.more.items in
    let table = c.args.table in
    let name : Option (List ℕ) = option_map (λ (n : String Global). string_bytes n) c.args.name in
    let grown : IsGrown things table name more = subst (λ t. IsGrown t table name more) (sym c.self.view_is) c.requires in
    let all = c.append.ensures.items ∙ ap (λ r. if is_ok r then c.reserve.new.self.items ++ more else c.reserve.new.self.items) c.unwrap.ensures ∙ ap (λ t. t ++ more) c.reserve.ensures.items in
    let put = IfOk-at_ok (λ _. Updates nat_eq c.reserve-2.new.self c.insert.new.self table.number.0 (Some table)) c.unwrap-old.ensures c.insert.ensures.updates in
    let numbers = c.name_table.ensures ∙ ap (λ es. texts es ++ option_map_or (λ (n : String Global). (string_bytes n, table.number) ∷ []) c.args.name []) c.reserve-3.ensures.entries ∙ ap (λ es. texts c.self.inside.numbers.entries ++ es) (name_put table.number c.args.name) in
    let owners = c.in_ok-own_all.ensures.ok ∙ ap (λ t. texts c.self.inside.owners.entries ++ spec.owned t) c.deref.ensures.value in
    let kept = kept_grown things c.self.inside.tables.entries c.insert.new.self.entries c.self.inside.numbers.entries c.name_table.new.numbers.entries c.self.inside.owners.entries c.own_all.new.owners.entries c.self.inside.children.lists.entries c.add_all.new.self.lists.entries c.self.invariant
    table name more grown
    (λ m. put.0 m ∙ ap (λ es. cond (nat_eq table.number.0 m) (Some table) (lookup (nat_eq m) es)) c.reserve-2.ensures.entries)
    numbers owners
    (λ n. c.in_default.ensures.ok n ∙ ap (λ t. children_at c.self.inside.children.lists.entries n ++ spec.children_of t n) c.deref-2.ensures.value) in
    subst (λ t. IsKept t c.insert.new.self.entries c.name_table.new.numbers.entries c.own_all.new.owners.entries c.add_all.new.self.lists.entries) (sym all) kept
