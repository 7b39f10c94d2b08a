use Rattle.std.proofs.Common.{rules}
use Rattle.hs_decimal.specs.Text.{read_of}
use Rattle.hs_decimal.proofs.Spelling.{spelled}
use Rattle.hs_decimal.proofs.reading.read.Goals as goal

pub returns-in-None-clause-spelled : goal.returns-in-None-clause-spelled
unfolding read_of
returns-in-None-clause-spelled c = spelled c.args.text.now _ (search rules)

pub returns-then-is_empty-clause-spelled : goal.returns-then-is_empty-clause-spelled
unfolding read_of
returns-then-is_empty-clause-spelled c = spelled c.args.text.now _ (search rules)

pub returns-else-is_empty-clause-spelled : goal.returns-else-is_empty-clause-spelled
unfolding read_of
returns-else-is_empty-clause-spelled c = spelled c.args.text.now _ (search rules)
