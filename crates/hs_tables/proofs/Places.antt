-- The place of an expression is that of its tree.
use Rattle.std.proofs.Common.{◌≡◌, ap}
use Rattle.hs_ast.specs.declared.expression.Expression.{Expression, out-Expression, fold_out-Expression}
use Rattle.hs_meaning.specs.Expressions.{arm_step, form_step, part_step}
use Rattle.hs_meaning.specs.From.{element_step, join_step, table_step}
use Rattle.hs_meaning.specs.Layers.{ArmPart, BodyPart, ElementPart, Form, ItemPart, JoinPart, KeyPart, Part, QueryPart, RowPart, TablePart}
use Rattle.hs_meaning.specs.Queries.{body_step, key_step, query_step, row_step}
use Rattle.hs_meaning.specs.Selects.{item_step, select_step}
use Rattle.hs_meaning.specs.Trees.{part_of}
use Rattle.hs_schema.specs.Catalogue.{Things}

pub at_is : (things : Things) (e : Expression) → (part_of things e).at ≡ (out-Expression e).at
at_is things e =
    ap (λ (p : Part). p.at) (fold_out-Expression Form JoinPart BodyPart ItemPart TablePart ArmPart Part ElementPart QueryPart BodyPart KeyPart RowPart form_step join_step body_step item_step (table_step things) arm_step part_step element_step query_step select_step key_step row_step e)
