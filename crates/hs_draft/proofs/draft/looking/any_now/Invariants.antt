use Rattle.std.proofs.Common.{◌≡◌}
use Rattle.std.specs.Map.{keys_of}
use Rattle.hs_sentences.specs.Asking.{any_of}
use Rattle.hs_draft.proofs.draft.looking.any_now.Given as goal

abbrev pub invariant-loop-number : goal.invariant-loop-number
invariant-loop-number g l = let test = g.T.RowTest.test l.test in any_of (keys_of l.olds.entries) test l.rows ≡ any_of l.number-iterator test l.rows
