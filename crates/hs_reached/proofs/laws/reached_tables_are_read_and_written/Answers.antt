use Rattle.hs_reached.proofs.Tables.{read, written}
use Rattle.hs_reached.proofs.laws.reached_tables_are_read_and_written.Goals as goal

pub returns-clause-read : goal.returns-clause-read
returns-clause-read c = read

pub returns-clause-written : goal.returns-clause-written
returns-clause-written c = written
