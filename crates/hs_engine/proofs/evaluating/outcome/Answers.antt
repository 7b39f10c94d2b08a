use Rattle.std.proofs.Common.{subst, sym}
use Rattle.std.proofs.lemmas.Result.{IfOk-weaker}
use Rattle.hs_acting.specs.Kept.{keys_in}
use Rattle.hs_references.specs.Referenced.{AreOf}
use Rattle.hs_schema.specs.Catalogue.{Things}
use Rattle.hs_engine.proofs.evaluating.outcome.Goals as goal

pub returns : goal.returns
returns c = λ r tells lists db seated is held.
    IfOk-weaker c.evaluate.result _ _
    (λ o told. (told.outcome, record { things = is.things; keys = is.keys; rows = told.seated; count = is.count; level = is.level; control = is.control }))
    (c.evaluate.ensures r tells lists (subst (λ (t : Things). AreOf t (keys_in c.args.instance.now.keys)) (sym is.things) is.keys) db seated is.rows (sym is.things) held)
