use Rattle.std.proofs.Common.{reverse}
use Rattle.hs_grammar.specs.Grammar.{grammar}
use Rattle.hs_grammar.specs.Check.{work}
use Rattle.hs_grammar.specs.Machine.{StandsAt}
use Rattle.hs_grammar.proofs.machine.Machine.settle.Given as goal

abbrev pub invariant-loop-next : goal.invariant-loop-next
invariant-loop-next g l = StandsAt (grammar l.tables) g.table l.self l.classes l.at

abbrev pub decreases-loop-next : goal.decreases-loop-next
decreases-loop-next g l = work g.table (reverse l.self.stack.items)
