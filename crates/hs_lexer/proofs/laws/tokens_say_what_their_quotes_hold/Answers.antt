use Rattle.hs_lexer.proofs.Sayings.{quoted_named, text_told, unicode_told}
use Rattle.hs_lexer.proofs.laws.tokens_say_what_their_quotes_hold.Goals as goal

pub returns-clause-quoted : goal.returns-clause-quoted
returns-clause-quoted c = quoted_named

pub returns-clause-text : goal.returns-clause-text
returns-clause-text c = text_told

pub returns-clause-unicode : goal.returns-clause-unicode
returns-clause-unicode c = unicode_told
