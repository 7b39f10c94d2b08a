-- The plan of a SELECT in two steps is that in one.
use Rattle.std.proofs.Common.{◌≡◌, Bool, List, Option, Some, None, refl}
use Rattle.std.specs.Option.{option_map}
use Rattle.std.specs.declared.alloc.Global.{Global}
use Rattle.std.specs.declared.vec.Vec.{Vec}
use Rattle.hs_plan.specs.declared.expression.Expr.{Expr}
use Rattle.hs_plan.specs.declared.query.FromItem.{FromItem}
use Rattle.hs_typed.specs.declared.typed.Typed.{Typed}
use Rattle.hs_meaning.specs.Parts.{tree_of}
use Rattle.hs_meaning.specs.Selects.{plan_by}
use Rattle.hs_clauses.specs.Plans.{clauses_by, select_by, trees_in}

abbrev items_in : Vec Typed Global → List Typed
items_in all = all.items

pub in_steps : (distinct grouped : Bool) (items : Option (List Expr)) (from : Option (List FromItem)) (condition : Option (Option Typed)) (group_by : Option (Vec Typed Global)) (having : Option (Option Typed))
    → select_by distinct grouped items from (clauses_by (option_map tree_of condition) (option_map trees_in group_by) (option_map tree_of having)) ≡ plan_by distinct grouped items from condition (option_map items_in group_by) having
in_steps distinct grouped None from condition group_by having = refl
in_steps distinct grouped (Some items) None condition group_by having = refl
in_steps distinct grouped (Some items) (Some from) None group_by having = refl
in_steps distinct grouped (Some items) (Some from) (Some condition) None having = refl
in_steps distinct grouped (Some items) (Some from) (Some condition) (Some group_by) None = refl
in_steps distinct grouped (Some items) (Some from) (Some condition) (Some group_by) (Some having) = refl
