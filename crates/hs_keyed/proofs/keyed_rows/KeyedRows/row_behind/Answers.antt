use Rattle.std.proofs.Common.{sym, subst}
use Rattle.hs_rows.specs.Numbers.{IsBehind}
use Rattle.hs_keyed.proofs.Ordered.{next_is_behind}
use Rattle.hs_keyed.proofs.keyed_rows.KeyedRows.row_behind.Goals as goal

pub returns-clause-behind : goal.returns-clause-behind
returns-clause-behind c = subst (IsBehind c.args.after) (sym c.row_behind.ensures) (next_is_behind _ c.args.after)
