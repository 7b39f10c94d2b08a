use Rattle.std.proofs.Common.{◌≡◌, ◌++◌, take, drop}
use Rattle.hs_meaning.specs.Queries.{unknown}
use Rattle.hs_columns.proofs.kinds.forget_kinds.Given as goal

abbrev pub invariant-loop-column : goal.invariant-loop-column
invariant-loop-column l = take l.column-index l.columns ++ unknown (drop l.column-index l.columns) ≡ unknown l.fn.columns
