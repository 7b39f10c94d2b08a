use Rattle.hs_seams.specs.Stores.{present}
use Rattle.hs_engine.proofs.store.SqlStoreStore.copy.Goals as goal

pub returns : goal.returns
returns g c = λ w commits s. record { start = s.start; world = s.world; lawful = c.in_ok-copy.ensures (present w commits) s.lawful; behind = s.behind }
