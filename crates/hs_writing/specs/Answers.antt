-- What is answered to a statement.
use Rattle.std.specs.Prelude.{Result}
use Rattle.hs_meaning.specs.Layers.{QueryMeaning}
use Rattle.hs_meaning.specs.Parts.{Meaning}
use Rattle.hs_meaning.specs.Statements.{IsAnswer}
use Rattle.hs_plan.specs.declared.fault.BindFault.{BindFault}
use Rattle.hs_plan.specs.declared.query.Query.{Query}

abbrev pub Answers : {A : Type 0} → Meaning A → Result A BindFault → Type 0
Answers m = IsAnswer m.faults m.part

abbrev pub AnswersQuery : QueryMeaning → Result Query BindFault → Type 0
AnswersQuery q = IsAnswer q.faults q.plan
