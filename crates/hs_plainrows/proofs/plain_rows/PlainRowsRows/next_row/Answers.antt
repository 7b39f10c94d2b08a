use Rattle.std.proofs.Common.{sym, subst}
use Rattle.hs_rows.specs.Numbers.{IsBehind}
use Rattle.hs_plainrows.specs.Held.{rows_at}
use Rattle.hs_keyed.proofs.Ordered.{next_is_behind}
use Rattle.hs_plainrows.proofs.plain_rows.PlainRowsRows.next_row.Goals as goal

pub returns-clause-behind : goal.returns-clause-behind
returns-clause-behind c = subst (IsBehind c.args.after) (sym c.next_at.ensures) (next_is_behind (rows_at c.args.self.now.tables.entries c.args.table.0) c.args.after)
