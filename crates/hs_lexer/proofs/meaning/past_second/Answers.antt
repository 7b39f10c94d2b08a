use Rattle.std.proofs.Common.{sym}
use Rattle.hs_lexer.proofs.Parts.{past_second_none}
use Rattle.hs_lexer.proofs.meaning.past_second.Goals as goal

pub returns-in-None : goal.returns-in-None
returns-in-None c = sym (past_second_none c.args.quote c.args.behind.now c.requires c.in-None.ensures.cases)
