use Rattle.hs_schema.proofs.After.{number_of_name, name_of_number}
use Rattle.hs_schema.proofs.laws.a_table_is_found_by_its_name_and_its_number.Goals as goal

pub returns : goal.returns
returns c = record { by_name = number_of_name; by_number = name_of_number }
