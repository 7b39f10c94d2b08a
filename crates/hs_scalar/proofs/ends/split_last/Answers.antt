use Rattle.std.proofs.Common.{rules}
use Rattle.hs_scalar.proofs.CharLemmas.{chars_of_none, chars_before_char}
use Rattle.hs_scalar.proofs.ends.split_last.Goals as goal

pub returns-in-Some-clause-parts : goal.returns-in-Some-clause-parts
returns-in-Some-clause-parts c = chars_before_char c.args.text.now c.as_str.result.now c.in-Some.last c.utf8.text c.as_str.utf8 (search rules)

pub returns-in-None-clause-parts : goal.returns-in-None-clause-parts
returns-in-None-clause-parts c = chars_of_none c.args.text.now (search rules)
