use Rattle.hs_lexer.proofs.Fronts.{tokens_alone, fault_alone, not_both}
use Rattle.hs_lexer.proofs.laws.tokens_are_unique.Goals as goal

pub returns-clause-tokens : goal.returns-clause-tokens
returns-clause-tokens c = tokens_alone

pub returns-clause-fault : goal.returns-clause-fault
returns-clause-fault c = fault_alone

pub returns-clause-either : goal.returns-clause-either
returns-clause-either c = not_both
