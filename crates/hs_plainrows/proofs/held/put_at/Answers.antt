use Rattle.std.proofs.Common.{rules, cond, Some, ap, ◌∙◌}
use Rattle.std.proofs.lemmas.Result.{on_ok_weaker, on_err_weaker}
use Rattle.std.specs.FinMap.{insert}
use Rattle.std.specs.Map.{lookup}
use Rattle.hs_plainrows.specs.Held.{is, rows_among}
use Rattle.hs_plainrows.proofs.Ordered.{rows_placed, rows_same}
use Rattle.hs_plainrows.proofs.held.put_at.Goals as goal

pub returns-in-Some-clause-ok : goal.returns-in-Some-clause-ok
returns-in-Some-clause-ok c =
    let up = (c.get_mut.follows.holds c.put_row.new.rows).3 (search rules) in
    on_ok_weaker c.put_row.result
    (λ made. rows_placed c.args.tables.now.entries (c.get_mut.follows.lender c.put_row.new.rows).entries c.args.table.0 c.put_row.new.rows up.0
    (λ rows. insert rows c.args.row.0 c.args.values)
    (made ∙ ap (λ o. insert (rows_among o) c.args.row.0 c.args.values) c.in-Some.ensures.value))
    c.put_row.ensures.ok

pub returns-in-Some-clause-err : goal.returns-in-Some-clause-err
returns-in-Some-clause-err c =
    let up = (c.get_mut.follows.holds c.put_row.new.rows).3 (search rules) in
    on_err_weaker c.put_row.result
    (λ same. rows_same c.args.tables.now.entries (c.get_mut.follows.lender c.put_row.new.rows).entries c.args.table.0 c.put_row.new.rows up.0 (same ∙ ap rows_among c.in-Some.ensures.value))
    c.put_row.ensures.err

pub returns-clause-ok : goal.returns-clause-ok
returns-clause-ok c =
    rows_placed c.args.tables.now.entries c.insert.new.self.entries c.args.table.0 c.in_ok-made.made
    (λ q. c.in_ok-insert.ensures.updates.0 q ∙ ap (λ (m : _). cond (is c.args.table.0 q) (Some c.in_ok-made.made) (lookup (is q) m.entries)) c.get_mut.follows.holds-at-none)
    (λ rows. insert rows c.args.row.0 c.args.values)
    (c.in_ok-made.ensures ∙ ap (λ o. insert (rows_among o) c.args.row.0 c.args.values) c.in_default.ensures.value)
