-- What is answered to a definition.
use Rattle.std.specs.Prelude.{Option, Some, None, Result}
use Rattle.hs_ast.specs.declared.definition.CreateIndex.{CreateIndex}
use Rattle.hs_ast.specs.declared.word.Identifier.{Identifier}
use Rattle.hs_meaning.specs.Parts.{Meaning}
use Rattle.hs_meaning.specs.Statements.{IsAnswer}
use Rattle.hs_plan.specs.declared.definition.Definition.{Definition}
use Rattle.hs_plan.specs.declared.fault.BindFault.{BindFault}
use Rattle.hs_schema.specs.Catalogue.{Things}
use Rattle.hs_schema.specs.declared.table.Table.{Table}
use Rattle.hs_drops.specs.Definitions.{constraint_dropped, index_created, no_table}

abbrev pub Answer : Type 0
Answer = Result Definition BindFault

abbrev pub Answers : Meaning Definition → Answer → Type 0
Answers m = IsAnswer m.faults m.part

-- where the table isn't there, this is the only fault
abbrev pub AnswersDropConstraint : Identifier → Identifier → Option Table → Answer → Type 0
AnswersDropConstraint table name (Some t) = Answers (constraint_dropped t table name)
AnswersDropConstraint table name None = Answers (no_table table)

abbrev pub AnswersIndex : Things → CreateIndex → Option Table → Answer → Type 0
AnswersIndex things c (Some t) = Answers (index_created things c t)
AnswersIndex things c None = Answers (no_table c.table)
