use Rattle.std.proofs.Common.{◌≡◌, ◌++◌, drop, map}
use Rattle.hs_syntax.specs.Classes.{class_of}
use Rattle.hs_syntax.proofs.class.classes.Given as goal

abbrev pub invariant-loop-token : goal.invariant-loop-token
invariant-loop-token l = l.classes.items ++ map (class_of l.source) (drop l.token-index l.tokens) ≡ map (class_of l.source) l.tokens
