use Rattle.hs_grammar.specs.Grammar.{grammar}
use Rattle.hs_grammar.proofs.LeftmostLaw.{leftmost}
use Rattle.hs_grammar.proofs.recogniser.law_of_leftmost_derivation.Goals as goal

pub returns : goal.returns
returns c = leftmost (grammar c.args._tables.now)
