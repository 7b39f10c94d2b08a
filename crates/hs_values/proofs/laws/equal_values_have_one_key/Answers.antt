use Rattle.hs_values.proofs.Keys.{equal_keys, order_of-key_of, equal_row_keys}
use Rattle.hs_values.proofs.laws.equal_values_have_one_key.Goals as goal

pub returns : goal.returns
returns c = record { values = equal_keys; in_order = order_of-key_of; rows = equal_row_keys }
