use Rattle.std.proofs.Common.{◌≡◌, take}
use Rattle.hs_ast.proofs.copies_of_statements.copy_tuples.Given as goal

abbrev pub invariant-loop-tuple : goal.invariant-loop-tuple
invariant-loop-tuple l = l.copied ≡ take l.tuple-index l.tuples
