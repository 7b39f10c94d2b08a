-- Readings whose definitions are those that statements mean.
use Rattle.std.specs.Prelude.{◌≡◌, true, Ok}
use Rattle.hs_ast.specs.declared.statement.Stmt.{Stmt}
use Rattle.hs_language.specs.Reading.{Reading, TellsTables}
use Rattle.hs_plan.specs.declared.definition.Definition.{Definition}
use Rattle.hs_plan.specs.declared.plan.Plan.TheVariants as plan
use Rattle.hs_reading.specs.Offered.{is_offered}
use Rattle.hs_schema.specs.Catalogue.{Text, Things}
use Rattle.hs_statements.specs.Statements.{AnswersStatement}

-- each definition that it gives is what some statement that the grammar offers means over the catalogue
abbrev pub BindsDefinitions : Reading → Type 0
BindsDefinitions r = (things : Things) (text : Text) (definition : Definition) → r.plan things text ≡ Ok (plan.Define definition)
    → (statement : Stmt) × (is_offered statement ≡ true) × AnswersStatement things statement (Ok (plan.Define definition))

-- its definitions are bound statements, and its tables are those to which foreign keys lead
pub record IsBound (r : Reading) : Type 0 where
  pub tables : TellsTables r
  pub definitions : BindsDefinitions r
