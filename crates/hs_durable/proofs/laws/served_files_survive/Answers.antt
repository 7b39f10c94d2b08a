use Rattle.hs_durable.proofs.Durable.{served_safe}
use Rattle.hs_durable.proofs.laws.served_files_survive.Goals as goal

pub returns : goal.returns
returns c = served_safe
