use Rattle.std.proofs.Common.{◌≡◌, ℕ, List, Some, None, Option, sym, ap, subst, ◌∙◌}
use Rattle.std.proofs.lemmas.Result.{on_ok_weaker}
use Rattle.std.specs.FinMap.{get, insert, remove}
use Rattle.std.specs.Option.{option_map_or}
use Rattle.hs_values.specs.declared.value.Value.{Value}
use Rattle.hs_index.specs.Table.{Rows}
use Rattle.hs_keyed.specs.Kept.{rows_of, moved, AreOf}
use Rattle.hs_keyed.proofs.Stored.{Entries, get-rows_of, rows_taken}
use Rattle.hs_keyed.proofs.entries.move_entry.Goals as goal

-- where a row is, or isn't, it gets another number, or none does
moved_at : (rows : Rows) (from to : ℕ) (o : Option (List Value)) → get rows from ≡ o → moved rows from to ≡ option_map_or (λ values. insert (remove rows from) to values) o rows
moved_at rows from to o is = ap (λ o. option_map_or (λ values. insert (remove rows from) to values) o rows) is

pub returns-in_default-clause-kept : goal.returns-in_default-clause-kept
returns-in_default-clause-kept c = subst (λ (es : Entries). AreOf (rows_of es) c.args.indexes.now.items) (sym c.in_default.ensures.unchanged) c.requires

pub returns-in_default-clause-ok : goal.returns-in_default-clause-ok
returns-in_default-clause-ok c =
    let rows = rows_of c.args.rows.now.entries in
    let none : get rows c.args.from.0 ≡ None = get-rows_of c.args.rows.now.entries c.args.from.0 ∙ sym c.in_default.ensures.value in
    ap rows_of c.in_default.ensures.unchanged ∙ sym (moved_at rows c.args.from.0 c.args.to.0 None none)

pub returns-clause-kept : goal.returns-clause-kept
returns-clause-kept c =
    let rows = rows_of c.args.rows.now.entries in
    let gone : rows_of c.remove.new.self.entries ≡ remove rows c.args.from.0 = rows_taken c.args.rows.now.entries c.remove.new.self.entries c.args.from.0 c.in-Some.ensures.updates.0 in
    let there : get rows c.args.from.0 ≡ Some c.as_slice.result.now =
    get-rows_of c.args.rows.now.entries c.args.from.0 ∙ sym c.in-Some.ensures.value ∙ ap (λ (values : List Value). Some values) (sym c.as_slice.ensures) in
    c.place_entry.ensures.kept
    (λ none.
    subst (λ (m : Rows). AreOf m c.exchange_keys.new.indexes.items) (λ i. insert (sym gone i) c.args.to.0 (c.as_slice.ensures i))
    (c.in_ok-exchange_keys.ensures.ok rows there (ap (λ (m : Rows). get m c.args.to.0) (sym gone) ∙ none) c.requires))

pub returns-clause-ok : goal.returns-clause-ok
returns-clause-ok c =
    let rows = rows_of c.args.rows.now.entries in
    let gone : rows_of c.remove.new.self.entries ≡ remove rows c.args.from.0 = rows_taken c.args.rows.now.entries c.remove.new.self.entries c.args.from.0 c.in-Some.ensures.updates.0 in
    let there : get rows c.args.from.0 ≡ Some c.in-Some.values = get-rows_of c.args.rows.now.entries c.args.from.0 ∙ sym c.in-Some.ensures.value in
    on_ok_weaker c.place_entry.result
    (λ is. is ∙ ap (λ (m : Rows). insert m c.args.to.0 c.in-Some.values) gone ∙ sym (moved_at rows c.args.from.0 c.args.to.0 (Some c.in-Some.values) there))
    c.place_entry.ensures.ok
