use Rattle.std.proofs.Common.{◌≡◌, ◌≤◌, length, take, drop}
use Rattle.hs_answer.specs.Bodies.{widened}
use Rattle.hs_stages.proofs.Widened.{given_behind}
use Rattle.hs_stages.proofs.given.given_row.Given as goal

abbrev pub invariant-loop-i : goal.invariant-loop-i
invariant-loop-i l = record {
  long : l.i-end ≡ length l.values.items;
  short : length l.values.items ≤ length l.kinds;
  so_far : widened l.kinds l.fn.row ≡ given_behind (take l.i l.values.items) (drop l.i l.kinds) (drop l.i l.values.items);
}
