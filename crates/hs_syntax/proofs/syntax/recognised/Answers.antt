use Rattle.hs_syntax.proofs.Answers.{answered}
use Rattle.hs_syntax.proofs.OneReading.{served}
use Rattle.hs_syntax.proofs.syntax.recognised.Goals as goal

pub recognise-requires : goal.recognise-requires
recognise-requires c = served

pub returns-clause-statement : goal.returns-clause-statement
returns-clause-statement c = answered (λ v. v.items) c.args.classes.now c.recognise.result c.recognise.ensures
