use Rattle.std.proofs.Common.{◌++◌}
use Rattle.std.proofs.lemmas.Result.{on_ok_weaker}
use Rattle.hs_seams.specs.Stores.{present}
use Rattle.hs_engine.proofs.Standing.{seated_so}
use Rattle.hs_engine.proofs.store.SqlStoreStore.advance.Goals as goal

pub returns : goal.returns
returns g c = λ w commits seated s.
    on_ok_weaker c.advance.result
    (λ here. seated_so (g.C.Conditions.wording c.args.self.now.conditions) c.args.self.now.database.instance c.advance.new.instance c.args.self.now.logbook w commits seated (seated ++ c.args.changes.now) s here)
    (c.advance.ensures (present w commits) seated s.lawful.is)
