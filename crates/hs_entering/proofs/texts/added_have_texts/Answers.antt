use Rattle.std.proofs.Common.{List, [], ◌∷◌, ◌++◌, IfOk, ap, subst, ◌∙◌}
use Rattle.hs_tabletext.specs.Constraints.{ArePrintable}
use Rattle.hs_logged.specs.Entered.{Decides}
use Rattle.hs_plan.specs.declared.definition.Column.{Column}
use Rattle.hs_entering.proofs.texts.added_have_texts.Goals as goal

pub returns : goal.returns
returns g c =
    subst (λ (columns : List Column). IfOk c.all_have_texts.result (Decides (ArePrintable (g.C.Conditions.wording c.args.conditions.now) columns c.args.constraints.now)))
    (c.as_slice.ensures ∙ (c.in_ok-columns.ensures ∙ ap (λ (columns : List Column). columns ++ c.args.column.now ∷ []) c.columns_of.ensures)) c.all_have_texts.ensures
