use Rattle.hs_lexer.proofs.Sayings.{undoubled_doubled, unescaped_means}
use Rattle.hs_lexer.proofs.laws.quotes_and_escapes_are_undone.Goals as goal

pub returns-clause-quotes : goal.returns-clause-quotes
returns-clause-quotes c = undoubled_doubled

pub returns-clause-escapes : goal.returns-clause-escapes
returns-clause-escapes c bytes means h = unescaped_means h
