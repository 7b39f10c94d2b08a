use Rattle.std.proofs.Common.{◌≡◌, Some, None, inl, inr, ap, ◌∙◌}
use Rattle.std.proofs.lemmas.Result.{on_ok_weaker}
use Rattle.std.specs.FinMap.{get}
use Rattle.hs_index.specs.Table.{Rows}
use Rattle.hs_index.proofs.Stored.{ok_or_err}
use Rattle.hs_draft.specs.Drafted.{rows_at}
use Rattle.hs_draft.proofs.Drafted.{before_set, before_failed, before_forgotten, touched_set}
use Rattle.hs_draft.proofs.draft.Draft.put.Goals as goal

pub returns-in_err-remember-clause-before : goal.returns-in_err-remember-clause-before
returns-in_err-remember-clause-before c = before_forgotten c.args.self.now.olds.entries c.remember.new.olds.entries c.args.self.now.tables.entries c.in_err-remember.ensures.err

pub returns-clause-before : goal.returns-clause-before
returns-clause-before c =
    let olds = c.args.self.now.olds.entries in
    let more = c.remember.new.olds.entries in
    let tables = c.args.self.now.tables.entries in
    let changed = c.put_into.new.tables.entries in
    let same : c.in_ok-old.old ≡ get (rows_at tables c.args.table.0) c.args.row.0 = c.in_ok-old.ensures ∙ c.get.ensures ∙ ap (λ (m : Rows). get m c.args.row.0) c.rows.ensures in
    elim (ok_or_err c.put_into.result c.put_into.ensures.ok c.put_into.ensures.err) [
      | inl set ↦ before_set olds more tables changed c.args.table.0 c.args.row.0 c.in_ok-old.old same c.in_ok-remember.ensures.ok (Some c.args.values) set
      | inr still ↦ before_failed olds more tables changed c.args.table.0 c.args.row.0 c.in_ok-old.old same c.in_ok-remember.ensures.ok still
    ]

pub returns-clause-touched : goal.returns-clause-touched
returns-clause-touched c =
    let tables = c.args.self.now.tables.entries in
    let same : c.in_ok-old.old ≡ get (rows_at tables c.args.table.0) c.args.row.0 = c.in_ok-old.ensures ∙ c.get.ensures ∙ ap (λ (m : Rows). get m c.args.row.0) c.rows.ensures in
    on_ok_weaker c.put_into.result
    (λ set. touched_set c.args.self.now.olds.entries c.remember.new.olds.entries tables c.put_into.new.tables.entries c.args.table.0 c.args.row.0 c.in_ok-old.old same c.in_ok-remember.ensures.ok)
    c.put_into.ensures.ok
