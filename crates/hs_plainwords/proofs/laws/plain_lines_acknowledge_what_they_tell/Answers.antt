use Rattle.hs_plainwords.proofs.Printed.{acknowledged, whole_lines}
use Rattle.hs_plainwords.proofs.laws.plain_lines_acknowledge_what_they_tell.Goals as goal

pub returns-clause-told : goal.returns-clause-told
returns-clause-told c = acknowledged

pub returns-clause-whole : goal.returns-clause-whole
returns-clause-whole c = whole_lines
