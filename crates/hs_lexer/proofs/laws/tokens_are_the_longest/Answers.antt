use Rattle.hs_lexer.proofs.Fronts.{tokens_found, tokens_only, fault_found, fault_only}
use Rattle.hs_lexer.proofs.laws.tokens_are_the_longest.Goals as goal

pub returns-clause-found : goal.returns-clause-found
returns-clause-found c = tokens_found

pub returns-clause-only : goal.returns-clause-only
returns-clause-only c = tokens_only

pub returns-clause-fault : goal.returns-clause-fault
returns-clause-fault c = fault_found

pub returns-clause-only_fault : goal.returns-clause-only_fault
returns-clause-only_fault c = fault_only
