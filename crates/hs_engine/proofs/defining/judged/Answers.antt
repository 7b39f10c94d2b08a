use Rattle.std.proofs.Common.{◌≡◌, IfOk, Result, subst, sym}
use Rattle.hs_language.specs.Sql.{definition_in}
use Rattle.hs_plan.specs.declared.definition.Definition.{Definition}
use Rattle.hs_plan.specs.declared.plan.Plan.{Plan}
use Rattle.hs_schema.specs.Catalogue.{Text}
use Rattle.hs_engine.proofs.defining.judged.Goals as goal

pub judge-requires-clause-bound : goal.judge-requires-clause-bound
judge-requires-clause-bound c = c.requires.bound c.in-Define.definition c.in-Define.is

pub judge-requires-clause-next : goal.judge-requires-clause-next
judge-requires-clause-next c = c.requires.next c.in-Define.definition

pub returns-in-Define : goal.returns-in-Define
returns-in-Define c = λ db is whole.
    subst (λ (p : Plan). IfOk c.judge.result (λ (answer : Result Definition Text). answer ≡ definition_in db p)) (sym c.in-Define.is) (c.judge.ensures db (sym is.things) whole is.rows.rows (sym is.count))
