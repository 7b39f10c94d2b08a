use Rattle.std.proofs.Common.{◌∙◌, sym}
use Rattle.std.proofs.lemmas.Result.{IfOk-weaker}
use Rattle.hs_engine.proofs.Speaking.{name_is}
use Rattle.hs_engine.proofs.store.SqlStoreStore.printed_name.Goals as goal

pub returns : goal.returns
returns g c = λ w commits seated s. IfOk-weaker c.printed.result _ _ (λ text is. is ∙ sym (name_is w s.world.speaks c.args.name.now)) c.printed.ensures
