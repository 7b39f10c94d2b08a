use Rattle.std.proofs.Common.{◌≡◌, ◌-◌, ◌^◌, [], ◌∷◌, ◌++◌}
use Rattle.std.specs.List.{list_any}
use Rattle.hs_changes.specs.Settings.{Maps}
use Rattle.hs_rowlimit.specs.Long as limit
use Rattle.hs_rows.specs.Numbers.{rows_from, start}
use Rattle.hs_seated.specs.Rows.{AreRows}
use Rattle.hs_redefining.specs.Longer.{has_longer}
use Rattle.hs_redefining.proofs.longer.any_long.Given as goal

abbrev pub invariant-loop-row : goal.invariant-loop-row
invariant-loop-row l = (maps : Maps) → AreRows maps l.rows →
    has_longer (limit.is_long l.cat l.table) l.value (maps l.table.0) ≡ list_any (λ row. limit.is_long l.cat l.table (row ++ l.value ∷ [])) (rows_from (maps l.table.0) (start l.last))

abbrev pub decreases-loop-row : goal.decreases-loop-row
decreases-loop-row l = 2 ^ 64 - start l.last
