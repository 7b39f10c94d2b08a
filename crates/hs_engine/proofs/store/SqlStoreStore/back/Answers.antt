use Rattle.std.proofs.Common.{take}
use Rattle.std.proofs.lemmas.Result.{on_ok_weaker}
use Rattle.hs_seams.specs.Stores.{present}
use Rattle.hs_engine.proofs.Standing.{seated_so}
use Rattle.hs_engine.proofs.store.SqlStoreStore.back.Goals as goal

pub returns : goal.returns
returns g c = λ w commits seated s.
    on_ok_weaker c.back.result
    (λ here. seated_so (g.C.Conditions.wording c.args.self.now.conditions) c.args.self.now.database.instance c.back.new.instance c.args.self.now.logbook w commits seated (take c.args.len seated) s here)
    (c.back.ensures (present w commits) seated s.lawful.is)
