use Rattle.hs_engine.proofs.store.SqlStoreStore.level.Goals as goal

pub returns : goal.returns
returns g c = λ w commits seated s. s.lawful.is.level
