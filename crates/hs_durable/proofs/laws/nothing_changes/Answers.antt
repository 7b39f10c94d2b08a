use Rattle.hs_durable.proofs.Durable.{still_left, told_left, read_left, served_on}
use Rattle.hs_durable.proofs.laws.nothing_changes.Goals as goal

pub returns-clause-reads : goal.returns-clause-reads
returns-clause-reads c = still_left

pub returns-clause-tells : goal.returns-clause-tells
returns-clause-tells c = told_left

pub returns-clause-asks : goal.returns-clause-asks
returns-clause-asks c = read_left

pub returns-clause-served : goal.returns-clause-served
returns-clause-served c = served_on
