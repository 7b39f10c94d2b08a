-- What each layer of an expression gives from what its parts give: a tree and its kind, or the fault that it has by itself.
use Rattle.std.specs.Prelude.{◌≡◌, ℕ, Bool, true, false, if◌then◌else◌, ◌&&◌, is_some, List, [], ◌∷◌, ◌++◌, map, fold, Option, Some, None, Result, Ok, Err}
use Rattle.std.specs.List.{list_all}
use Rattle.std.specs.Option.{option_map, option_to_list}
use Rattle.hs_ast.specs.declared.expression.Aggregate.{Aggregate}
use Rattle.hs_ast.specs.declared.expression.BinaryOperator.{BinaryOperator}
use Rattle.hs_ast.specs.declared.expression.BinaryOperator.TheVariants as o
use Rattle.hs_ast.specs.declared.expression.Function.{Function}
use Rattle.hs_ast.specs.declared.expression.Function.TheVariants as f
use Rattle.hs_ast.specs.declared.expression.TrimForm.{TrimForm}
use Rattle.hs_plan.specs.declared.expression.CaseArm.{CaseArm, roll-CaseArm}
use Rattle.hs_plan.specs.declared.expression.Expr.{Expr}
use Rattle.hs_plan.specs.declared.expression.Expr.TheVariants as e
use Rattle.hs_plan.specs.declared.expression.ListItem.{ListItem, roll-ListItem}
use Rattle.hs_plan.specs.declared.kind.Kind.{Kind}
use Rattle.hs_plan.specs.declared.kind.Kind.TheVariants as k
use Rattle.hs_plan.specs.declared.operator.Binary.{Binary}
use Rattle.hs_plan.specs.declared.operator.Binary.TheVariants as b
use Rattle.hs_plan.specs.declared.operator.Ternary.TheVariants as three
use Rattle.hs_plan.specs.declared.operator.Unary.{Unary}
use Rattle.hs_plan.specs.declared.operator.Unary.TheVariants as u
use Rattle.hs_plan.specs.declared.query.Query.{Query}
use Rattle.hs_plan.specs.Typing.{aggregate_kind, are_comparable, binary_kind, given, is_assignable, is_condition, kind_of_type, ternary_kind, unary_kind, widest}
use Rattle.hs_values.specs.declared.sql_type.SqlType.{SqlType}
use Rattle.hs_values.specs.Outcome.{GivesUnless}
use Rattle.hs_typed.specs.declared.lists.TypedArm.{TypedArm}
use Rattle.hs_typed.specs.declared.typed.RuleFault.{RuleFault}
use Rattle.hs_typed.specs.declared.typed.RuleFault.TheVariants.{Types, Count, NoMemory}
use Rattle.hs_typed.specs.declared.typed.Typed.{Typed}
use Rattle.hs_typed.specs.Comparing.{beside, goes_with, literal_text, only_character, reading_beside}

abbrev pub Outcome : Type 0
Outcome = Result Typed RuleFault

-- an answer is what is meant, or want of memory
abbrev pub Gives : Outcome → Outcome → Type 0
Gives answer means = GivesUnless (λ fault. fault ≡ NoMemory) answer means

-- the tree, where the rules give a kind for it
abbrev pub typed : Option Kind → Expr → Outcome
typed (Some kind) tree = Ok (record { tree = tree; kind = kind })
typed None tree = Err Types

abbrev pub where_right : Bool → Kind → Expr → Outcome
where_right right kind tree = typed (given right kind) tree

-- ---- operators

abbrev pub unary_typed : Unary → Typed → Outcome
unary_typed operator a = typed (unary_kind operator a.kind) (e.Unary operator a.tree)

abbrev pub applied : Binary → Typed → Typed → Outcome
applied operator a c = typed (binary_kind operator a.kind c.kind) (e.Binary operator a.tree c.tree)

abbrev pub is_comparison : BinaryOperator → Bool
is_comparison o.Equal = true
is_comparison o.NotEqual = true
is_comparison o.Less = true
is_comparison o.LessOrEqual = true
is_comparison o.Greater = true
is_comparison o.GreaterOrEqual = true
is_comparison _ = false

-- a literal text is read only where it is compared
abbrev pub binary_typed : BinaryOperator → Typed → Typed → Outcome
binary_typed operator a c =
    if is_comparison operator then applied (b.Operator operator) (beside c.kind a) (beside a.kind c) else applied (b.Operator operator) a c

-- ---- predicates

abbrev pub between_typed : Bool → Typed → Typed → Typed → Outcome
between_typed negated a low high =
    where_right (goes_with a low && goes_with a high) k.Boolean
    (e.Ternary (three.Between negated (reading_beside low.kind a) (reading_beside high.kind a)) a.tree (beside a.kind low).tree (beside a.kind high).tree)

-- what stands behind ESCAPE has just one character
abbrev pub like_by : Bool → Typed → Typed → Option ℕ → Outcome
like_by negated a pattern None = Err Types
like_by negated a pattern (Some escape) = applied (b.Like negated (Some escape)) a pattern

abbrev pub like_typed : Bool → Typed → Typed → Option (List ℕ) → Outcome
like_typed negated a pattern None = applied (b.Like negated None) a pattern
like_typed negated a pattern (Some escape) = like_by negated a pattern (only_character escape)

abbrev pub list_item : Typed → Typed → ListItem
list_item a x = roll-ListItem (record { reading = reading_beside x.kind a; value = (beside a.kind x).tree })

abbrev pub in_list_typed : Bool → Typed → List Typed → Outcome
in_list_typed negated a list = where_right (list_all (goes_with a) list) k.Boolean (e.InList a.tree negated (map (list_item a) list))

-- ---- queries

-- the kind of the only column
abbrev pub only_kind : List Kind → Result Kind RuleFault
only_kind (kind ∷ []) = Ok kind
only_kind _ = Err Count

abbrev pub exists_typed : Query → Typed
exists_typed query = record { tree = e.Exists query; kind = k.Boolean }

abbrev pub subquery_by : Query → Result Kind RuleFault → Outcome
subquery_by query (Ok kind) = Ok (record { tree = e.Subquery query; kind = kind })
subquery_by query (Err fault) = Err fault

abbrev pub subquery_typed : Query → List Kind → Outcome
subquery_typed query kinds = subquery_by query (only_kind kinds)

abbrev pub in_query_by : Bool → Typed → Query → Result Kind RuleFault → Outcome
in_query_by negated a query (Ok kind) = where_right (are_comparable (beside kind a).kind kind) k.Boolean (e.InQuery (beside kind a).tree negated query)
in_query_by negated a query (Err fault) = Err fault

abbrev pub in_query_typed : Bool → Typed → Query → List Kind → Outcome
in_query_typed negated a query kinds = in_query_by negated a query (only_kind kinds)

-- ---- choices

-- the kind at which a value of one of these kinds is given, and one of one more kind
abbrev pub widened : Option Kind → Kind → Option Kind
widened None kind = None
widened (Some sofar) kind = widest sofar kind

abbrev pub widest_with : Option Kind → List Kind → Option Kind
widest_with = fold widened

-- the kind of values one of which is chosen
abbrev pub widest_of : List Kind → Option Kind
widest_of = widest_with (Some k.Null)

abbrev pub kinds_of : List Typed → List Kind
kinds_of = map (λ a. a.kind)

abbrev pub arm_of : TypedArm → CaseArm
arm_of arm = roll-CaseArm (record { test = arm.test.tree; value = arm.value.tree })

-- the values of the arms, and that of ELSE
abbrev pub values_of : List TypedArm → Option Typed → List Typed
values_of arms otherwise = map (λ arm. arm.value) arms ++ option_to_list otherwise

abbrev pub case_by : List TypedArm → Option Typed → Option Kind → Outcome
case_by arms otherwise None = Err Types
case_by arms otherwise (Some kind) = Ok (record { tree = e.Case kind (map arm_of arms) (option_map (λ a. a.tree) otherwise); kind = kind })

abbrev pub case_typed : List TypedArm → Option Typed → Outcome
case_typed arms otherwise =
    if list_all (λ arm. is_condition arm.test.kind) arms then case_by arms otherwise (widest_of (kinds_of (values_of arms otherwise))) else Err Types

abbrev pub coalesce_by : List Typed → Option Kind → Outcome
coalesce_by operands None = Err Types
coalesce_by operands (Some kind) = Ok (record { tree = e.Coalesce kind (map (λ a. a.tree) operands); kind = kind })

abbrev pub coalesce_typed : List Typed → Outcome
coalesce_typed [] = Err Types
coalesce_typed (a ∷ more) = coalesce_by (a ∷ more) (widest_of (kinds_of (a ∷ more)))

-- ---- functions

abbrev pub nullif_typed : Typed → Typed → Outcome
nullif_typed a c = where_right (goes_with a c) a.kind (e.Binary (b.NullIf (reading_beside c.kind a)) a.tree (beside a.kind c).tree)

-- the only one, and the only two
abbrev pub only : List Typed → Option Typed
only (a ∷ []) = Some a
only _ = None

abbrev pub both : List Typed → Option (Typed × Typed)
both (a ∷ c ∷ []) = Some (a, c)
both _ = None

abbrev pub on_one : (Typed → Outcome) → Option Typed → Outcome
on_one rule (Some a) = rule a
on_one rule None = Err Types

abbrev pub on_two : (Typed → Typed → Outcome) → Option (Typed × Typed) → Outcome
on_two rule (Some pair) = rule pair.0 pair.1
on_two rule None = Err Types

abbrev pub of_one : (Typed → Outcome) → List Typed → Outcome
of_one rule operands = on_one rule (only operands)

abbrev pub of_two : (Typed → Typed → Outcome) → List Typed → Outcome
of_two rule operands = on_two rule (both operands)

abbrev pub call_typed : Function → List Typed → Outcome
call_typed f.Coalesce = coalesce_typed
call_typed f.NullIf = of_two nullif_typed
call_typed f.Mod = of_two (applied b.Mod)
call_typed f.Abs = of_one (unary_typed u.Abs)
call_typed f.Upper = of_one (unary_typed u.Upper)
call_typed f.Lower = of_one (unary_typed u.Lower)
call_typed f.CharLength = of_one (unary_typed u.CharLength)

abbrev pub substring_typed : Typed → Typed → Option Typed → Outcome
substring_typed a start None = applied b.SubstringFrom a start
substring_typed a start (Some count) =
    typed (ternary_kind three.SubstringFor a.kind start.kind count.kind) (e.Ternary three.SubstringFor a.tree start.tree count.tree)

-- a literal that is trimmed off has just one character
abbrev pub is_trimmed : Option (List ℕ) → Bool
is_trimmed None = true
is_trimmed (Some text) = is_some (only_character text)

abbrev pub trim_typed : TrimForm → Option Typed → Typed → Outcome
trim_typed shape None a = unary_typed (u.Trim shape) a
trim_typed shape (Some character) a = if is_trimmed (literal_text character.tree) then applied (b.TrimOf shape) character a else Err Types

abbrev pub aggregate_typed : Aggregate → Bool → Typed → Outcome
aggregate_typed function distinct a = typed (aggregate_kind function a.kind) (e.Aggregate function distinct a.tree)

abbrev pub rows_typed : Typed
rows_typed = record { tree = e.CountRows; kind = k.Whole }

-- ---- where an expression stands

-- WHERE, ON, HAVING and CHECK
abbrev pub condition_typed : Typed → Outcome
condition_typed a = if is_condition a.kind then Ok a else Err Types

abbrev pub if_assignable : SqlType → Typed → Outcome
if_assignable column a = if is_assignable column a.kind then Ok a else Err Types

-- a value that is assigned to a column
abbrev pub assigned_typed : SqlType → Typed → Outcome
assigned_typed column a = if_assignable column (beside (kind_of_type column) a)
