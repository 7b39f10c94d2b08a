use Rattle.std.proofs.Common.{◌≡◌, ◌++◌, map}
use Rattle.hs_rows.specs.Numbers.{numbers_among}
use Rattle.hs_keyed.proofs.scan.numbers_in.Given as goal

abbrev pub invariant-loop-number : goal.invariant-loop-number
invariant-loop-number l = map (λ r. r.0) l.found ++ numbers_among l.columns l.key l.number-iterator ≡ numbers_among l.columns l.key l.rows.entries
