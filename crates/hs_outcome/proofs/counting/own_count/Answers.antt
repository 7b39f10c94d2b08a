use Rattle.std.proofs.Common.{[], map, refl, sym, ◌∙◌}
use Rattle.std.proofs.lemmas.List.{length-map}
use Rattle.std.proofs.lemmas.Result.{IfOk-weaker}
use Rattle.hs_acting.specs.Kept.{keys_in}
use Rattle.hs_actions.specs.Work.{change_of}
use Rattle.hs_dml.specs.Told.{columns_in}
use Rattle.hs_references.proofs.Collecting.{empty_from}
use Rattle.hs_outcome.proofs.Alike.{made_acting}
use Rattle.hs_outcome.proofs.OwnRows.{all_own, own_of}
use Rattle.hs_outcome.proofs.counting.own_count.Goals as goal

pub returns-then-is_empty-clause-count : goal.returns-then-is_empty-clause-count
returns-then-is_empty-clause-count g c = λ tells same made.
    let none = sym c.on.ensures ∙ empty_from c.on.result.now c.is_empty.result c.is_empty.ensures c.if-is_empty.true in
    c.len-then-is_empty.ensures
    ∙ all_own (g.R.Rows.tables c.args.rows.now) (columns_in c.args.cat.now) (keys_in c.args.keys.now) c.args.plan.now c.in-Some.table c.args.changes.now (sym c.in-Some.ensures) none made

pub returns-clause-count : goal.returns-clause-count
returns-clause-count g c = λ tells same made.
    let tables = g.R.Rows.tables c.args.rows.now in
    let own = own_of tables (columns_in c.args.cat.now) (keys_in c.args.keys.now) c.args.plan.now c.in-Some.table c.args.changes.now (sym c.in-Some.ensures) made in
    IfOk-weaker c.alone.result _ _ (λ n is. is ∙ length-map own.edits change_of ∙ own.count)
    (c.alone.ensures.count tells same (map change_of own.edits) (made_acting tables c.args.cat.now [] c.args.plan.now c.in-Some.table (map change_of own.edits) (sym c.in-Some.ensures) (own.alone [] refl)))
