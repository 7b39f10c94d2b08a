use Rattle.hs_columnlaws.proofs.CleanValues.{clean_value}
use Rattle.hs_columnlaws.proofs.CleanColumns.{clean_name, clean_column}
use Rattle.hs_columnlaws.proofs.a_column_stands_in_one_line.Goals as goal

pub returns-clause-name : goal.returns-clause-name
returns-clause-name c = clean_name

pub returns-clause-value : goal.returns-clause-value
returns-clause-value c = clean_value

pub returns-clause-column : goal.returns-clause-column
returns-clause-column c = clean_column
