use Rattle.std.proofs.Common.{refl}
use Rattle.hs_grammar.proofs.tests.read_expression.Goals as goal

pub recognise-requires : goal.recognise-requires
recognise-requires c = (refl, refl)
