use Rattle.std.proofs.Common.{◌≡◌, ◌++◌, drop}
use Rattle.hs_keytext.specs.Owners.{seen}
use Rattle.hs_tabletext.specs.Constraints.{constraint_text}
use Rattle.hs_parttext.specs.Lines.{lines_text}
use Rattle.hs_tabletext.proofs.line_printing.print_lines.Given as goal

abbrev pub invariant-loop-constraint : goal.invariant-loop-constraint
invariant-loop-constraint g l =
    l.out ++ lines_text l.front (constraint_text (g.C.Conditions.wording l.conditions) (seen l.owner)) (drop l.constraint-index l.constraints)
    ≡ l.fn.out ++ lines_text l.front (constraint_text (g.C.Conditions.wording l.conditions) (seen l.owner)) l.constraints
