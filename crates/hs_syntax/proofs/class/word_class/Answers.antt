use Rattle.std.proofs.Common.{◌∙◌}
use Rattle.hs_syntax.proofs.Letters.{by_letter}
use Rattle.hs_syntax.proofs.class.word_class.Goals as goal

pub returns : goal.returns
returns c = c.lookup_by_letter.ensures ∙ by_letter c.args.word.now
