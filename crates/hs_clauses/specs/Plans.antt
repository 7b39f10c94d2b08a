-- The plan of a SELECT in two steps: what WHERE, GROUP BY and HAVING give it, and the whole.
use Rattle.std.specs.Prelude.{Bool, List, map, Option, Some, None}
use Rattle.std.specs.declared.alloc.Global.{Global}
use Rattle.std.specs.declared.vec.Vec.{Vec}
use Rattle.hs_plan.specs.declared.expression.Expr.{Expr}
use Rattle.hs_plan.specs.declared.query.FromItem.{FromItem}
use Rattle.hs_plan.specs.declared.query.QueryBody.{QueryBody}
use Rattle.hs_plan.specs.declared.query.QueryBody.TheVariants as body
use Rattle.hs_plan.specs.declared.query.Select.{roll-Select}
use Rattle.hs_typed.specs.declared.typed.Typed.{Typed}
use Rattle.hs_clauses.specs.declared.select.Clauses.{Clauses}

abbrev pub trees_in : Vec Typed Global → List Expr
trees_in all = map (λ t. t.tree) all.items

abbrev pub clauses_by : Option (Option Expr) → Option (List Expr) → Option (Option Expr) → Option Clauses
clauses_by (Some filter) (Some group_by) (Some having) = Some (record { filter = filter; group_by = group_by; having = having })
clauses_by (Some filter) (Some group_by) None = None
clauses_by (Some filter) None having = None
clauses_by None group_by having = None

abbrev pub select_by : Bool → Bool → Option (List Expr) → Option (List FromItem) → Option Clauses → Option QueryBody
select_by distinct grouped (Some items) (Some from) (Some clauses) =
    Some (body.Select (roll-Select (record {
      distinct = distinct;
      items = items;
      from = from;
      filter = clauses.filter;
      grouped = grouped;
      group_by = clauses.group_by;
      having = clauses.having;
    })))
select_by distinct grouped _ _ _ = None
