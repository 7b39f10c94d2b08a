use Rattle.std.proofs.Common.{◌≡◌, List, sym, ap, subst, ◌∙◌}
use Rattle.std.specs.FinMap.{insert, remove}
use Rattle.hs_index.specs.Table.{Rows}
use Rattle.hs_keyed.specs.declared.indexes.KeyIndex.{KeyIndex}
use Rattle.hs_keyed.specs.Kept.{rows_of, AreOf}
use Rattle.hs_keyed.proofs.Stored.{insert-remove, get-removed}
use Rattle.hs_keyed.proofs.entries.put_entry.Goals as goal

pub returns-clause-kept : goal.returns-clause-kept
returns-clause-kept c =
    let rows = rows_of c.args.rows.now.entries in
    let row = c.args.row.0 in
    let put = c.in_ok-put_keys.ensures.ok (remove rows row) (get-removed rows row) c.in_ok-forget.ensures.ok in
    let is : rows_of c.set_entry.new.rows.entries ≡ insert (remove rows row) row c.as_slice.result.now =
    c.in_ok-set_entry.ensures.ok ∙ sym (insert-remove rows row c.args.values) ∙ ap (insert (remove rows row) row) (sym c.as_slice.ensures) in
    subst (λ (all : List KeyIndex). AreOf (rows_of c.set_entry.new.rows.entries) all) (sym c.in_ok-set_entry.ensures.same)
    (subst (λ (m : Rows). AreOf m c.put_keys.new.indexes.items) (sym is) put)
