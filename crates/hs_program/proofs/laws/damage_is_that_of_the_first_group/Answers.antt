use Rattle.hs_program.proofs.Damaged.{damaged_group, damaged_header, header_damaged}
use Rattle.hs_program.proofs.laws.damage_is_that_of_the_first_group.Goals as goal

pub returns-clause-group : goal.returns-clause-group
returns-clause-group g c = damaged_group g.E.Engine.meaning

pub returns-clause-header : goal.returns-clause-header
returns-clause-header g c = damaged_header g.E.Engine.meaning

pub returns-clause-no_header : goal.returns-clause-no_header
returns-clause-no_header g c = header_damaged g.E.Engine.meaning
