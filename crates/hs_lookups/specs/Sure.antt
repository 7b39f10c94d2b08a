-- Expressions that have no fault.
use Rattle.std.specs.Prelude.{◌≡◌, true, List, [], ◌∷◌, None, ⊤}
use Rattle.hs_plan.specs.declared.expression.Expr.{Expr}
use Rattle.hs_plan.specs.declared.expression.ListItem.{ListItem, out-ListItem}
use Rattle.hs_changes.specs.Settings.{Maps}
use Rattle.hs_rel.specs.Selection.{fault_of}
use Rattle.hs_expression.specs.Surroundings.{Surroundings}
use Rattle.hs_answer.specs.Answer.{value_in}
use Rattle.hs_lookups.specs.Operators.{is_readable}

-- an expression has no fault, wherever it stands
pub record IsSure (e : Expr) : Type 0 where
  pub no_fault : (tables : Maps) (s : Surroundings) → fault_of (value_in tables e s) ≡ None

-- so have the values of a list, and the operand can be read as what it is compared as beside each
pub record ItemIsSure (item : ListItem) : Type 0 where
  pub reads : is_readable (out-ListItem item).reading ≡ true
  pub value : IsSure (out-ListItem item).value

abbrev pub AreSure : List ListItem → Type 0
AreSure [] = ⊤
AreSure (item ∷ more) = ItemIsSure item × AreSure more
