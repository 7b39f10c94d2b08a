use Rattle.std.proofs.Common.{rules, sym, ap, ◌∙◌}
use Rattle.std.specs.FinMap.{remove}
use Rattle.hs_plainrows.specs.Held.{rows_among, rows_at}
use Rattle.hs_plainrows.proofs.Ordered.{rows_placed, rows_none}
use Rattle.hs_plainrows.proofs.held.remove_at.Goals as goal

pub returns-in-Some : goal.returns-in-Some
returns-in-Some c =
    let up = (c.get_mut.follows.holds c.remove_row.new.rows).3 (search rules) in
    rows_placed c.args.tables.now.entries (c.get_mut.follows.lender c.remove_row.new.rows).entries c.args.table.0 c.remove_row.new.rows up.0
    (λ rows. remove rows c.args.row.0)
    (c.remove_row.ensures ∙ ap (λ o. remove (rows_among o) c.args.row.0) c.in-Some.ensures.value)

pub returns-in_default : goal.returns-in_default
returns-in_default c = λ t. ap (λ (m : _). rows_at m.entries t) c.get_mut.follows.holds-at-none ∙ rows_none c.args.tables.now.entries c.args.table.0 c.args.row.0 (sym c.in_default.ensures.value) t
