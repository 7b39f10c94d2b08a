use Rattle.std.proofs.Common.{ℕ, List, [], ◌∷◌, ◌++◌, IfOk, sym, subst}
use Rattle.std.proofs.lemmas.Result.{IfOk-weaker}
use Rattle.hs_columntext.specs.Columns as defaults
use Rattle.hs_committext.specs.Definitions.{IsPrintable}
use Rattle.hs_entering.specs.Defaults.{HasLawfulDefaults}
use Rattle.hs_tabletext.specs.Constraints.{ArePrintable}
use Rattle.hs_logged.specs.Entered.{Decides}
use Rattle.hs_plan.specs.declared.definition.Constraint.{Constraint}
use Rattle.hs_plan.specs.declared.definition.Definition.{Definition}
use Rattle.hs_shorttext.specs.Tables.{columns_of}
use Rattle.hs_entering.proofs.Constraints.{beside}
use Rattle.hs_entering.proofs.texts.has_text.Goals as goal

pub returns-in-AddColumn : goal.returns-in-AddColumn
returns-in-AddColumn g c =
    let wording = g.C.Conditions.wording c.args.conditions.now in
    let things = c.args.catalog.now in
    let column = c.in-AddColumn.column in
    let told =
    subst (λ (name : List ℕ). IfOk c.added_have_texts.result (Decides (ArePrintable wording (columns_of things name ++ column ∷ []) c.in-AddColumn.constraints))) c.as_str.ensures
    (subst (λ (all : List Constraint). IfOk c.added_have_texts.result (Decides (ArePrintable wording (columns_of things c.as_str.result.now ++ column ∷ []) all))) c.as_slice-in-AddColumn.ensures c.added_have_texts.ensures)
    in
    subst (λ (definition : Definition). IfOk c.added_have_texts.result (Decides (IsPrintable wording things definition))) (sym c.in-AddColumn.is)
    (IfOk-weaker c.added_have_texts.result (Decides (ArePrintable wording (columns_of things c.in-AddColumn.table ++ column ∷ []) c.in-AddColumn.constraints)) _
    (λ b has. beside (defaults.IsPrintable column.default) (ArePrintable wording (columns_of things c.in-AddColumn.table ++ column ∷ []) c.in-AddColumn.constraints) b (subst HasLawfulDefaults c.in-AddColumn.is c.requires) has) told)
