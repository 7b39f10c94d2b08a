use Rattle.hs_reached.proofs.Tables.{read_ascends, written_ascends}
use Rattle.hs_reached.proofs.laws.reached_tables_ascend.Goals as goal

pub returns-clause-read : goal.returns-clause-read
returns-clause-read c = read_ascends

pub returns-clause-written : goal.returns-clause-written
returns-clause-written c = written_ascends
