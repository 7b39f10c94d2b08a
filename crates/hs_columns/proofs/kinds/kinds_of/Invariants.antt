use Rattle.std.proofs.Common.{◌≡◌, map, drop, fold, Some}
use Rattle.hs_meaning.specs.Expressions.{kinds_of}
use Rattle.hs_meaning.specs.Parts.{with_part}
use Rattle.hs_columns.proofs.kinds.kinds_of.Given as goal

abbrev pub invariant-loop-column : goal.invariant-loop-column
invariant-loop-column l = fold with_part (Some l.kinds) (map (λ c. c.column.kind) (drop l.column-index l.columns)) ≡ kinds_of l.columns
