use Rattle.hs_spelling.proofs.Answered.{answers_spelled}
use Rattle.hs_spelling.proofs.laws.statements_are_spelled_by_their_tokens.Goals as goal

pub returns : goal.returns
returns c = answers_spelled
