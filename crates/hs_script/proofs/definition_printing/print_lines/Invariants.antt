-- What was printed, and what is left.
use Rattle.std.proofs.Common.{◌≡◌, ◌++◌, length}
use denote.Text.{Utf8}
use denote.Shadow.{shadow}
use Rattle.hs_script.specs.Numbered.{numbered_text}
use Rattle.hs_script.proofs.definition_printing.print_lines.Given as goal

abbrev pub invariant-loop-line : goal.invariant-loop-line
invariant-loop-line l = shadow (Utf8 l.rest) × (l.out ++ numbered_text l.number l.rest ≡ l.fn.out ++ numbered_text l.number l.text)

abbrev pub decreases-loop-line : goal.decreases-loop-line
decreases-loop-line l = length l.rest
