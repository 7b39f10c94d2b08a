use Rattle.std.proofs.Common.{◌≡◌, None, [], sym, subst, ◌∙◌}
use Rattle.std.specs.FinMap.{get, insert}
use Rattle.hs_index.specs.Table.{Rows}
use Rattle.hs_keyed.specs.Kept.{rows_of, AreOf}
use Rattle.hs_keyed.proofs.Stored.{get-rows_of, rows_put}
use Rattle.hs_keyed.proofs.entries.place_entry.Goals as goal

pub returns-in-Ok-None-clause-ok : goal.returns-in-Ok-None-clause-ok
returns-in-Ok-None-clause-ok c = rows_put c.args.rows.now.entries c.insert.new.self.entries c.args.row.0 c.args.values c.in-Ok-None.ensures.updates.0

pub returns-in-Ok-None-clause-kept : goal.returns-in-Ok-None-clause-kept
returns-in-Ok-None-clause-kept c = λ kept.
    let none : get (rows_of c.args.rows.now.entries) c.args.row.0 ≡ None = get-rows_of c.args.rows.now.entries c.args.row.0 ∙ sym c.in-Ok-None.ensures.old ∙ c.in-Ok-None.field-0-is in
    subst (λ (m : Rows). AreOf m c.args.indexes.now.items) (sym (rows_put c.args.rows.now.entries c.insert.new.self.entries c.args.row.0 c.args.values c.in-Ok-None.ensures.updates.0)) (kept none)

pub returns-in-Ok-Some-clause-ok : goal.returns-in-Ok-Some-clause-ok
returns-in-Ok-Some-clause-ok c = rows_put c.args.rows.now.entries c.insert.new.self.entries c.args.row.0 c.args.values c.in-Ok-Some.ensures.updates.0
