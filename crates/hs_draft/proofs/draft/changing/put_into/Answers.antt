use Rattle.std.proofs.Common.{rules, cond, Some, sym, ap, ◌∙◌}
use Rattle.std.proofs.lemmas.Result.{on_ok_weaker, on_err_weaker}
use Rattle.std.specs.FinMap.{empty}
use Rattle.std.specs.Map.{lookup}
use Rattle.std.specs.Option.{unwrap_or}
use Rattle.hs_index.specs.Table.{Rows}
use Rattle.hs_changes.specs.Settings.{with_values}
use Rattle.hs_draft.specs.Drafted.{is}
use Rattle.hs_draft.proofs.Drafted.{rows_placed, rows_same}
use Rattle.hs_draft.proofs.draft.changing.put_into.Goals as goal

pub returns-in-Some-clause-ok : goal.returns-in-Some-clause-ok
returns-in-Some-clause-ok c =
    let up = (c.get_mut.follows.holds c.put.new.self).3 (search rules) in
    on_ok_weaker c.put.result
    (λ made. rows_placed c.args.tables.now.entries (c.get_mut.follows.lender c.put.new.self).entries c.args.table.0 c.put.new.self up.0
    (λ rows. with_values rows c.args.row.0 (Some c.args.values))
    (made ∙ ap (λ o. with_values (unwrap_or o empty) c.args.row.0 (Some c.args.values)) c.in-Some.ensures.value))
    c.put.ensures.ok

pub returns-in-Some-clause-err : goal.returns-in-Some-clause-err
returns-in-Some-clause-err c =
    let up = (c.get_mut.follows.holds c.put.new.self).3 (search rules) in
    on_err_weaker c.put.result
    (λ same. rows_same c.args.tables.now.entries (c.get_mut.follows.lender c.put.new.self).entries c.args.table.0 c.put.new.self up.0 (same ∙ ap (λ o. unwrap_or o empty) c.in-Some.ensures.value))
    c.put.ensures.err

pub returns-clause-ok : goal.returns-clause-ok
returns-clause-ok c =
    rows_placed c.args.tables.now.entries c.insert.new.self.entries c.args.table.0 c.in_ok-made.made
    (λ q. c.in_ok-insert.ensures.updates.0 q ∙ ap (λ (m : _). cond (is c.args.table.0 q) (Some c.in_ok-made.made) (lookup (is q) m.entries)) c.get_mut.follows.holds-at-none)
    (λ rows. with_values rows c.args.row.0 (Some c.args.values))
    (c.in_ok-made.ensures ∙ ap (λ o. with_values (unwrap_or o empty) c.args.row.0 (Some c.args.values)) c.in_default.ensures.value)
