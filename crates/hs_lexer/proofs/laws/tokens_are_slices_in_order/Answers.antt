use Rattle.hs_lexer.proofs.Slices.{tokens_in_order, tokens_are_slices}
use Rattle.hs_lexer.proofs.laws.tokens_are_slices_in_order.Goals as goal

pub returns-clause-order : goal.returns-clause-order
returns-clause-order c = tokens_in_order

pub returns-clause-slices : goal.returns-clause-slices
returns-clause-slices c = tokens_are_slices
