use Rattle.std.proofs.Common.{◌≡◌, ◌+◌, ◌*◌, ◌^◌, ◌<◌}
use Rattle.hs_decimal.proofs.division.quotient.Given as goal

abbrev pub invariant-loop-place : goal.invariant-loop-place
invariant-loop-place l = record {
  so_far : l.whole * l.divisor + l.rest ≡ l.n * 10 ^ l._place;
  below : l.rest < l.divisor;
  short : l.whole < 10 ^ 38;
}
