-- The lists that are meant are those that complete what was read.
use Rattle.std.proofs.Common.{length}
use denote.Text.{Utf8}
use denote.Shadow.{shadow}
use Rattle.hs_keytext.specs.Owners.{seen}
use Rattle.hs_tabletext.specs.Constraints.{constraint_text, IsConstraint}
use Rattle.hs_parttext.proofs.FeedLemmas.{SameLines}
use Rattle.hs_tabletext.proofs.lines.read_lines.Given as goal

abbrev pub invariant-loop-inner : goal.invariant-loop-inner
invariant-loop-inner g l =
    shadow (Utf8 l.rest) × SameLines (IsConstraint (g.C.Conditions.wording l.conditions) (seen l.owner)) l.front (constraint_text (g.C.Conditions.wording l.conditions) (seen l.owner)) l.text l.constraints l.rest

abbrev pub decreases-loop-inner : goal.decreases-loop-inner
decreases-loop-inner g l = length l.rest
