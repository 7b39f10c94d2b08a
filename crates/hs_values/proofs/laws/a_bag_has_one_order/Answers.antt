use Rattle.hs_values.proofs.KeyedBags.{keyed_bag, keyed_typed_bag}
use Rattle.hs_values.proofs.laws.a_bag_has_one_order.Goals as goal

pub returns : goal.returns
returns c = record { telling = keyed_bag; typed = keyed_typed_bag }
