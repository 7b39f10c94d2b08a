use Rattle.std.proofs.Common.{◌≡◌, ◌++◌, not, map, filter, drop}
use Rattle.hs_closure.specs.Sets.{is_in}
use Rattle.hs_closure.proofs.table_set.numbers_without.Given as goal

abbrev pub invariant-loop-number : goal.invariant-loop-number
invariant-loop-number l = map (λ t. t.0) l.tables ++ filter (λ n. not (is_in l.other n)) (drop l.number-index l.numbers) ≡ filter (λ n. not (is_in l.other n)) l.numbers
