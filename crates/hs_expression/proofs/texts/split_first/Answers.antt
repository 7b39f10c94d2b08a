use Rattle.std.proofs.Common.{rules}
use Rattle.std.proofs.lemmas.Str.{chars_past_char}
use Rattle.hs_scalar.proofs.CharLemmas.{chars_of_none}
use Rattle.hs_expression.proofs.texts.split_first.Goals as goal

pub returns-in-Some : goal.returns-in-Some
returns-in-Some c = chars_past_char c.args.text.now c.as_str.result.now c.in-Some.first c.utf8.text (search rules)

pub returns-in-None : goal.returns-in-None
returns-in-None c = chars_of_none c.args.text.now (search rules)
