use Rattle.std.proofs.Common.{◌≡◌, ◌++◌, drop}
use Rattle.hs_rowtext.specs.Rows.{others_text}
use Rattle.hs_rowtext.proofs.printing.print_others.Given as goal

abbrev pub invariant-loop-value : goal.invariant-loop-value
invariant-loop-value l = l.out ++ others_text (drop l.value-index l.row) ≡ l.fn.out ++ others_text l.row
