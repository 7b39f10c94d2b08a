use Rattle.std.proofs.Common.{rules, None, sym, ap, ◌∙◌}
use Rattle.std.proofs.lemmas.Result.{on_ok_weaker, on_err_weaker}
use Rattle.std.specs.FinMap.{empty}
use Rattle.std.specs.Option.{unwrap_or}
use Rattle.hs_changes.specs.Settings.{with_values}
use Rattle.hs_draft.specs.Drafted.{rows_at}
use Rattle.hs_draft.proofs.Drafted.{rows_placed, rows_same, rows_none}
use Rattle.hs_draft.proofs.draft.changing.take_from.Goals as goal

pub returns-in-Some-clause-ok : goal.returns-in-Some-clause-ok
returns-in-Some-clause-ok c =
    let up = (c.get_mut.follows.holds c.take.new.self).3 (search rules) in
    on_ok_weaker c.take.result
    (λ made. rows_placed c.args.tables.now.entries (c.get_mut.follows.lender c.take.new.self).entries c.args.table.0 c.take.new.self up.0
    (λ rows. with_values rows c.args.row.0 None)
    (made ∙ ap (λ o. with_values (unwrap_or o empty) c.args.row.0 None) c.in-Some.ensures.value))
    c.take.ensures.ok

pub returns-in-Some-clause-err : goal.returns-in-Some-clause-err
returns-in-Some-clause-err c =
    let up = (c.get_mut.follows.holds c.take.new.self).3 (search rules) in
    on_err_weaker c.take.result
    (λ same. rows_same c.args.tables.now.entries (c.get_mut.follows.lender c.take.new.self).entries c.args.table.0 c.take.new.self up.0 (same ∙ ap (λ o. unwrap_or o empty) c.in-Some.ensures.value))
    c.take.ensures.err

pub returns-clause-ok : goal.returns-clause-ok
returns-clause-ok c = λ t. ap (λ (m : _). rows_at m.entries t) c.get_mut.follows.holds-at-none ∙ rows_none c.args.tables.now.entries c.args.table.0 c.args.row.0 (sym c.in_default.ensures.value) t
