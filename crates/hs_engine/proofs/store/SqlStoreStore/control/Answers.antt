use Rattle.std.proofs.Common.{◌∙◌}
use Rattle.hs_engine.proofs.store.SqlStoreStore.control.Goals as goal

pub returns : goal.returns
returns g c = λ w commits seated s. c.kind_of.ensures ∙ s.lawful.is.control
