use Rattle.hs_requested.proofs.Telling.{fault_as, is_fault, is_plan, plan_as}
use Rattle.hs_requested.proofs.reading.plan_statement.Goals as goal

pub returns-in-Ok-clause-exact : goal.returns-in-Ok-clause-exact
returns-in-Ok-clause-exact c = λ entry read here.
    plan_as c.args.catalog.now c.args.at c.args.statement.now entry read here c.in-Ok.plan c.in-Ok.ensures

pub returns-in_ok-bind_words-in-Err-clause-exact : goal.returns-in_ok-bind_words-in-Err-clause-exact
returns-in_ok-bind_words-in-Err-clause-exact c = λ entry read here.
    fault_as c.args.catalog.now c.args.at c.args.statement.now entry read here c.in-Err.fault c.in_ok-bind_words-in-Err.field-0 c.in-Err.ensures c.in_ok-bind_words-in-Err.ensures.some c.in_ok-bind_words-in-Err.ensures.told

pub returns-in-Ok-clause-plan : goal.returns-in-Ok-clause-plan
returns-in-Ok-clause-plan c = is_plan c.args.catalog.now c.args.at c.args.statement.now c.in-Ok.plan c.in-Ok.ensures

pub returns-in_ok-bind_words-in-Err-clause-plan : goal.returns-in_ok-bind_words-in-Err-clause-plan
returns-in_ok-bind_words-in-Err-clause-plan c =
    is_fault c.args.catalog.now c.args.at c.args.statement.now c.in-Err.fault c.in_ok-bind_words-in-Err.field-0 c.in-Err.ensures c.in_ok-bind_words-in-Err.ensures.some c.in_ok-bind_words-in-Err.ensures.told
