-- What is read, and what is left.
use Rattle.std.proofs.Common.{length}
use denote.Text.{Utf8}
use denote.Shadow.{shadow}
use Rattle.hs_script.specs.Rows.{seen, IsStoredLine}
use Rattle.hs_committext.proofs.LineLemmas.{SameLines}
use Rattle.hs_script.proofs.row_reading.read_lines.Given as goal

abbrev pub invariant-loop-rest : goal.invariant-loop-rest
invariant-loop-rest l = shadow (Utf8 l.rest) × SameLines (IsStoredLine (seen l.shelf)) l.text l.rows.items l.rest

abbrev pub decreases-loop-rest : goal.decreases-loop-rest
decreases-loop-rest l = length l.rest
