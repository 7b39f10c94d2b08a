use Rattle.std.proofs.Common.{◌∙◌, sym}
use Rattle.std.proofs.lemmas.Result.{IfOk-weaker}
use Rattle.hs_queue.specs.Entries.{entry_of}
use Rattle.hs_engine.proofs.Speaking.{request_is}
use Rattle.hs_engine.proofs.store.SqlStoreStore.read.Goals as goal

pub returns-clause-asked : goal.returns-clause-asked
returns-clause-asked g c = λ w commits seated s. IfOk-weaker c.asked.result _ _ (λ asked is. is ∙ sym (request_is w s.world.speaks (entry_of c.args.entry.now).text)) c.asked.ensures.asked

pub returns-clause-tree : goal.returns-clause-tree
returns-clause-tree g c = c.asked.ensures.tree
