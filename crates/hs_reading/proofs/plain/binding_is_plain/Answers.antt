use Rattle.hs_reading.proofs.Binding.{binds_plainly}
use Rattle.hs_reading.proofs.plain.binding_is_plain.Goals as goal

pub returns : goal.returns
returns c = binds_plainly
