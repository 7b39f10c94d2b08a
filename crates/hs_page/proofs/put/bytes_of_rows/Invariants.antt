use Rattle.std.proofs.Common.{◌≡◌, ℕ, ◌+◌, ◌*◌, ◌<◌, ◌≤◌, length, map}
use Rattle.std.specs.List.{range_with_len, sum_by}
use Rattle.hs_page.specs.Pages.{slot_bytes}
use Rattle.hs_page.proofs.put.bytes_of_rows.Given as goal

abbrev pub invariant-loop-i : goal.invariant-loop-i
invariant-loop-i l = record {
  bound : l.total ≤ l.i * 65536;
  sum : l.total ≡ sum_by length (map (slot_bytes l.bytes) (range_with_len 0 l.i));
}
