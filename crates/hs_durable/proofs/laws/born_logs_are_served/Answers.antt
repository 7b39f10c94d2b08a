use Rattle.std.proofs.Common.{refl}
use Rattle.hs_durable.proofs.laws.born_logs_are_served.Goals as goal

pub returns : goal.returns
returns c = λ h files held is. record { log = is; epoch = refl; logged = refl }
