use Rattle.std.proofs.Common.{◌∙◌, ap, sym}
use Rattle.std.proofs.lemmas.Result.{IfOk-weaker}
use Rattle.hs_language.specs.Sql.{refused_by}
use Rattle.hs_queue.specs.Entries.{entry_of}
use Rattle.hs_requests.specs.Plans.{plan_of}
use Rattle.hs_schema.specs.Catalogue.{Things}
use Rattle.hs_seams.specs.Stores.{seen}
use Rattle.hs_engine.proofs.Speaking.{refusal_is}
use Rattle.hs_engine.proofs.store.SqlStoreStore.refusal.Goals as goal

pub returns : goal.returns
returns g c = λ w commits seated s.
    let text = (entry_of c.args.entry.now).text in
    IfOk-weaker c.refusal.result _ _
    (λ why is. is ∙ (ap (λ (t : Things). refused_by c.args.read_only (plan_of t text)) s.lawful.is.things ∙ sym (refusal_is w s.world.speaks c.args.read_only (seen w commits seated) text))) c.refusal.ensures
