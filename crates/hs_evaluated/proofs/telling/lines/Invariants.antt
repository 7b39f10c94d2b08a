use Rattle.std.proofs.Common.{◌≡◌, map, take}
use Rattle.hs_language.specs.Words.{row_words}
use Rattle.hs_evaluated.proofs.telling.lines.Given as goal

abbrev pub invariant-loop-row : goal.invariant-loop-row
invariant-loop-row l = l.lines.items ≡ map row_words (take l.row-index l.rows)
