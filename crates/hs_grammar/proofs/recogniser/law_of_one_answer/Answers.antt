use Rattle.hs_grammar.specs.Grammar.{grammar}
use Rattle.hs_grammar.proofs.LeftmostLaw.{one_answer}
use Rattle.hs_grammar.proofs.recogniser.law_of_one_answer.Goals as goal

pub returns : goal.returns
returns c = one_answer (grammar c.args._tables.now)
