use Rattle.std.proofs.Common.{◌≡◌, ◌++◌, drop, take, filter, not}
use Rattle.std.specs.Str.{bytes_eq}
use Rattle.hs_schema.proofs.table.drop_named.Given as goal

abbrev pub invariant-loop-at : goal.invariant-loop-at
invariant-loop-at l = l.constraints ≡ take l.at l.fn.constraints ++ filter (λ c. not (bytes_eq l.name c.name)) (drop l.at l.fn.constraints)
