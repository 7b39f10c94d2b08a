use Rattle.hs_lexer.proofs.Sound.{tokens_are_sound}
use Rattle.hs_lexer.proofs.laws.tokens_are_sound.Goals as goal

pub returns : goal.returns
returns c = tokens_are_sound
