use Rattle.std.proofs.Common.{ℕ, ◌+◌, ◌∙◌, Ok, ap, arith, subst, sym}
use Rattle.std.proofs.lemmas.Result.{IfOk-weaker}
use Rattle.hs_turns.specs.Database.{view}
use Rattle.hs_language.specs.Sql.{definition_by}
use Rattle.hs_plan.specs.declared.plan.Plan.{Plan}
use Rattle.hs_queue.specs.Entries.{entry_of}
use Rattle.hs_requests.specs.Plans.{plan_of}
use Rattle.hs_schema.specs.Catalogue.{IsNext, Things}
use Rattle.hs_schema.specs.Whole.{IsWhole}
use Rattle.hs_seams.specs.Stores.{present}
use Rattle.hs_engine.proofs.Defined.{next_in, proper_in, whole_in}
use Rattle.hs_engine.proofs.Speaking.{definition_is, valid_is}
use Rattle.hs_engine.proofs.defining.definition.Goals as goal

pub judged-requires-clause-count : goal.judged-requires-clause-count
judged-requires-clause-count c = let same = c.requires.valid.lawful.is.count in let few = c.requires.valid.lawful.sound.numbered.few in omega (arith, same, few)

pub judged-requires-clause-bound : goal.judged-requires-clause-bound
judged-requires-clause-bound c = λ definition is.
    let v = c.requires.valid in
    (proper_in c.args.instance.now.catalog (entry_of c.args.entry.now).text definition (subst IsWhole (sym v.lawful.is.things) (whole_in (view v.db v.seated) v.valid)) (sym c.in_ok-answer.ensures ∙ (c.in-Ok.is ∙ ap (λ (p : Plan). Ok p) is))).bound

pub judged-requires-clause-next : goal.judged-requires-clause-next
judged-requires-clause-next c = λ definition.
    let v = c.requires.valid in
    subst (λ (p : Things × ℕ). IsNext p.0 definition (p.1 + 1)) (λ i. (sym v.lawful.is.things i, sym v.lawful.is.count i)) (next_in (view v.db v.seated) definition v.valid)

pub returns-in-Ok : goal.returns-in-Ok
returns-in-Ok c = λ w commits speaks here valid.
    let text = (entry_of c.args.entry.now).text in
    let db = present w commits in
    IfOk-weaker c.judged.result _ _
    (λ answer is.
    is
    ∙ sym
    (definition_is w speaks db text
    ∙ (ap (λ (t : Things). definition_by db (plan_of t text)) (sym here.things) ∙ ap (definition_by db) (sym c.in_ok-answer.ensures ∙ c.in-Ok.is))))
    (c.judged.ensures db here (whole_in db (sym (valid_is w speaks db) ∙ valid)))

pub returns-in-Err : goal.returns-in-Err
returns-in-Err c = λ w commits speaks here valid.
    let text = (entry_of c.args.entry.now).text in
    let db = present w commits in
    sym (definition_is w speaks db text ∙ (ap (λ (t : Things). definition_by db (plan_of t text)) (sym here.things) ∙ ap (definition_by db) (sym c.in_ok-answer.ensures ∙ c.in-Err.is)))
