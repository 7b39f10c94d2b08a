use Rattle.std.proofs.Common.{lit<}
use Rattle.std.proofs.lemmas.Str.Pattern.{strip_suffix_char}
use Rattle.hs_valuetext.proofs.Splits.{between_from}
use Rattle.hs_valuetext.proofs.tokens.between.Goals as goal

pub returns-in-Some : goal.returns-in-Some
returns-in-Some c =
    between_from c.args.text.now c.args.front.now c.in-Some.rest.now c.strip_suffix.result c.in-Some.ensures
    (strip_suffix_char 39 c.in-Some.rest.now c.strip_suffix.result c.strip_suffix.ensures.cases (lit< tt))
