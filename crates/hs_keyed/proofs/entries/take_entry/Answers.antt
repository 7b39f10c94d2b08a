use Rattle.std.proofs.Common.{sym, subst}
use Rattle.hs_index.specs.Table.{Rows}
use Rattle.hs_keyed.specs.Kept.{AreOf}
use Rattle.hs_keyed.proofs.entries.take_entry.Goals as goal

pub returns-clause-kept : goal.returns-clause-kept
returns-clause-kept c = subst (λ (m : Rows). AreOf m c.forget.new.indexes.items) (sym c.drop_entry.ensures) c.in_ok-forget.ensures.ok
