-- Answers that are made of others, and what kinds of statements give.
use Rattle.std.proofs.Common.{◌≡◌, false, [], Result, Ok, Err, refl, subst, ap}
use Rattle.std.specs.Option.{option_map_or}
use Rattle.hs_plan.specs.declared.plan.Plan.{Plan}
use Rattle.hs_plan.specs.declared.plan.Plan.TheVariants as p
use Rattle.hs_plan.specs.declared.query.Query.{Query}
use Rattle.hs_rel.specs.declared.stop.EvalStop.{EvalStop}
use Rattle.hs_rel.specs.declared.stop.EvalStop.TheVariants.{Fault, Stop}
use Rattle.hs_rel.specs.Outcome.{Answers}
use Rattle.hs_values.specs.declared.fault.EvalFault.{EvalFault}
use Rattle.hs_values.specs.Outcome.{◌>>=◌}
use Rattle.hs_schema.specs.Catalogue.{Things}
use Rattle.hs_changes.specs.Settings.{Maps}
use Rattle.hs_actions.specs.Referencing.{Keys}
use Rattle.hs_answer.specs.Answer.{answer}
use Rattle.hs_dml.specs.Told.{tentative}
use Rattle.hs_tentative.specs.Statements.{Around}
use Rattle.hs_exec.specs.declared.answer.Answer.TheVariants as a
use Rattle.hs_exec.specs.Executed.{changes_made, executed}
use Rattle.hs_exec.specs.Needed.{is_writing, query_in}

pub carried : {A B : Type 0} (means : Result A EvalFault) (f : A → B) (given : Result A EvalStop) → Answers means given → (x : A) → given ≡ Ok x → (means >>= λ x. Ok (f x)) ≡ Ok (f x)
carried {A = A} means f given told x is =
    let same : means ≡ Ok x = subst (λ (g : Result A EvalStop). Answers means g) is told in
    ap (λ (r : Result A EvalFault). r >>= λ x. Ok (f x)) same

carried_stop : {A B : Type 0} (means : Result A EvalFault) (f : A → B) (stop : EvalStop) → Answers means (Err stop) → Answers (means >>= λ x. Ok (f x)) (Err stop)
carried_stop {A = A} means f (Fault fault) told = λ some. ap (λ (r : Result A EvalFault). r >>= λ x. Ok (f x)) (told some)
carried_stop means f (Stop kind) told = tt

pub carried_on : {A B : Type 0} (means : Result A EvalFault) (f : A → B) (given : Result A EvalStop) → Answers means given → (stop : EvalStop) → given ≡ Err stop → Answers (means >>= λ x. Ok (f x)) (Err stop)
carried_on {A = A} means f given told stop is = carried_stop means f stop (subst (λ (g : Result A EvalStop). Answers means g) is told)

-- a statement is a query, or makes changes
pub executed_is : (tables : Maps) (things : Things) (keys : Keys) (plan : Plan) → executed tables things keys plan ≡ option_map_or (λ (query : Query). answer tables query >>= λ rows. Ok (a.Rows rows)) (query_in plan) (changes_made tables things keys plan)
executed_is tables things keys (p.Query query) = refl
executed_is tables things keys (p.Insert insert) = refl
executed_is tables things keys (p.Update update) = refl
executed_is tables things keys (p.Delete delete) = refl
executed_is tables things keys (p.LockTable all) = refl
executed_is tables things keys (p.Define definition) = refl
executed_is tables things keys (p.Session statement) = refl

-- a statement that isn't writing makes no change
pub none_made : (around : Around) (plan : Plan) → is_writing plan ≡ false → tentative around plan ≡ Ok []
none_made around (p.Query query) is = refl
none_made around (p.Insert insert) is = absurd (cc)
none_made around (p.Update update) is = absurd (cc)
none_made around (p.Delete delete) is = absurd (cc)
none_made around (p.LockTable all) is = refl
none_made around (p.Define definition) is = refl
none_made around (p.Session statement) is = refl
