use Rattle.std.proofs.lemmas.Result.{IfOk-weaker}
use Rattle.hs_queue.specs.Entries.{entry_of}
use Rattle.hs_engine.proofs.Outcomes.{evaluates_at}
use Rattle.hs_engine.proofs.Standing.{seated_so}
use Rattle.hs_engine.specs.Store.{IsHere, Stands}
use Rattle.hs_engine.proofs.store.SqlStoreStore.evaluate.Goals as goal

pub returns : goal.returns
returns g c = λ w commits seated s valid.
    let wording = g.C.Conditions.wording c.args.self.now.conditions in
    let book = c.args.self.now.logbook in
    IfOk-weaker c.evaluated.result _ _
    (λ answer is.
    evaluates_at (IsHere c.evaluated.new.instance) (Stands wording c.evaluated.new.instance book) w commits seated c.args.read_only (entry_of c.args.entry.now).text answer
    (λ all here. seated_so wording c.args.self.now.database.instance c.evaluated.new.instance book w commits seated all s here) is)
    (c.evaluated.ensures w commits seated s.world.speaks s.lawful.is valid)
