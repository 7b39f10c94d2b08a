-- From a part to the condition that it is.
use Rattle.std.proofs.Common.{◌≡◌, ℕ, List, Option, sym, ap, ◌∙◌}
use Rattle.std.proofs.lemmas.List.Sums.{fold-append}
use Rattle.hs_ast.specs.declared.expression.Expression.{Expression, out-Expression, fold_out-Expression}
use Rattle.hs_meaning.specs.Expressions.{arm_step, form_step, part_step}
use Rattle.hs_meaning.specs.From.{element_step, join_step, table_step}
use Rattle.hs_meaning.specs.Layers.{ArmPart, BodyPart, ElementPart, Form, ItemPart, JoinPart, KeyPart, Part, QueryPart, RowPart, TablePart}
use Rattle.hs_meaning.specs.Parts.{Meaning, broken_at, by_one, of_one, part_by}
use Rattle.hs_meaning.specs.Queries.{body_step, key_step, query_step, row_step}
use Rattle.hs_meaning.specs.Selects.{item_step, select_step}
use Rattle.hs_meaning.specs.Trees.{part_of}
use Rattle.hs_schema.specs.Catalogue.{Things}
use Rattle.hs_meaning.specs.Finding.{Least}
use Rattle.hs_typed.specs.declared.typed.Typed.{Typed}
use Rattle.hs_typed.specs.Faults.{noted, with_fault}
use Rattle.hs_typed.specs.Rules.{condition_typed}

-- the place of an expression is that of its tree
pub at_is : (things : Things) (e : Expression) → (part_of things e).at ≡ (out-Expression e).at
at_is things e =
    ap (λ (p : Part). p.at) (fold_out-Expression Form JoinPart BodyPart ItemPart TablePart ArmPart Part ElementPart QueryPart BodyPart KeyPart RowPart form_step join_step body_step item_step (table_step things) arm_step part_step element_step query_step select_step key_step row_step e)

pub concluded : (at to : ℕ) (m : Meaning Typed) (p result : Option Typed) (old mid new : Least) → to ≡ at → p ≡ m.part → mid ≡ noted old m.faults
    → result ≡ part_by (of_one condition_typed p) → new ≡ noted mid (broken_at to (of_one condition_typed p))
    → (result ≡ (by_one condition_typed at m).part) × (new ≡ noted old (by_one condition_typed at m).faults)
concluded at to m p result old mid new place same found part faults = (
  part ∙ ap (λ q. part_by (of_one condition_typed q)) same,
  faults
      ∙ ap (λ n. noted mid (broken_at n (of_one condition_typed p))) place
      ∙ ap (λ q. noted mid (broken_at at (of_one condition_typed q))) same
      ∙ ap (λ s. noted s (broken_at at (of_one condition_typed m.part))) found
      ∙ sym (fold-append with_fault old m.faults (broken_at at (of_one condition_typed m.part))),
)
