use Rattle.hs_items.proofs.OfStatements.{as_meant, by_table, never_memory}
use Rattle.hs_items.proofs.laws.classes_have_one_answer.Goals as goal

pub returns-clause-statement : goal.returns-clause-statement
returns-clause-statement c = as_meant

pub returns-clause-table : goal.returns-clause-table
returns-clause-table c = by_table

pub returns-clause-memory : goal.returns-clause-memory
returns-clause-memory c = never_memory
