-- The rules of types are broken for a reason, never for want of memory.
use Rattle.std.proofs.Common.{◌&&◌, Bool, true, false, List, [], ◌∷◌, map, Option, Some, None, Result, Ok, Err}
use Rattle.std.specs.Prelude.{ℕ, if◌then◌else◌}
use Rattle.std.specs.List.{list_all}
use Rattle.hs_ast.specs.declared.expression.Aggregate.{Aggregate}
use Rattle.hs_ast.specs.declared.expression.BinaryOperator.{BinaryOperator}
use Rattle.hs_ast.specs.declared.expression.Function.{Function}
use Rattle.hs_ast.specs.declared.expression.Function.TheVariants as f
use Rattle.hs_ast.specs.declared.expression.TrimForm.{TrimForm}
use Rattle.hs_statements.proofs.KnownParts.{IsRuled}
use Rattle.hs_plan.specs.Typing.{aggregate_kind, are_comparable, binary_kind, is_assignable, is_condition, kind_of_type, ternary_kind, unary_kind}
use Rattle.hs_plan.specs.declared.expression.Expr.{Expr}
use Rattle.hs_plan.specs.declared.expression.Expr.TheVariants as e
use Rattle.hs_plan.specs.declared.kind.Kind.{Kind}
use Rattle.hs_plan.specs.declared.kind.Kind.TheVariants as k
use Rattle.hs_plan.specs.declared.operator.Binary.{Binary}
use Rattle.hs_plan.specs.declared.operator.Binary.TheVariants as b
use Rattle.hs_plan.specs.declared.operator.Ternary.TheVariants as three
use Rattle.hs_plan.specs.declared.operator.Unary.{Unary}
use Rattle.hs_plan.specs.declared.operator.Unary.TheVariants as u
use Rattle.hs_plan.specs.declared.query.Query.{Query}
use Rattle.hs_typed.specs.Comparing.{beside, goes_with, literal_text, only_character, reading_beside}
use Rattle.hs_typed.specs.Rules.{Outcome, aggregate_typed, applied, assigned_typed, between_typed, binary_typed, both, call_typed, case_by, case_typed, coalesce_by, coalesce_typed, condition_typed, if_assignable, in_list_typed, in_query_by, in_query_typed, is_comparison, is_trimmed, kinds_of, like_by, like_typed, list_item, nullif_typed, on_one, on_two, only, only_kind, subquery_by, subquery_typed, substring_typed, trim_typed, typed, unary_typed, values_of, where_right, widest_of}
use Rattle.hs_typed.specs.declared.lists.TypedArm.{TypedArm}
use Rattle.hs_typed.specs.declared.typed.RuleFault.{RuleFault}
use Rattle.hs_typed.specs.declared.typed.RuleFault.TheVariants as broken
use Rattle.hs_typed.specs.declared.typed.Typed.{Typed}
use Rattle.hs_values.specs.declared.sql_type.SqlType.{SqlType}

typed_ruled : (kind : Option Kind) (tree : Expr) → IsRuled (typed kind tree)
typed_ruled (Some kind) tree = tt
typed_ruled None tree = tt

where_ruled : (right : Bool) (kind : Kind) (tree : Expr) → IsRuled (where_right right kind tree)
where_ruled true kind tree = tt
where_ruled false kind tree = tt

if_ruled : (c : Bool) (x y : Outcome) → IsRuled x → IsRuled y → IsRuled (if c then x else y)
if_ruled true x y h l = h
if_ruled false x y h l = l

-- ---- operators and predicates

pub unary_ruled : (operator : Unary) (a : Typed) → IsRuled (unary_typed operator a)
unary_ruled operator a = typed_ruled (unary_kind operator a.kind) (e.Unary operator a.tree)

applied_ruled : (operator : Binary) (a c : Typed) → IsRuled (applied operator a c)
applied_ruled operator a c = typed_ruled (binary_kind operator a.kind c.kind) (e.Binary operator a.tree c.tree)

pub binary_ruled : (operator : BinaryOperator) (a c : Typed) → IsRuled (binary_typed operator a c)
binary_ruled operator a c =
    if_ruled (is_comparison operator) (applied (b.Operator operator) (beside c.kind a) (beside a.kind c)) (applied (b.Operator operator) a c)
    (applied_ruled (b.Operator operator) (beside c.kind a) (beside a.kind c)) (applied_ruled (b.Operator operator) a c)

pub between_ruled : (negated : Bool) (a low high : Typed) → IsRuled (between_typed negated a low high)
between_ruled negated a low high =
    where_ruled (goes_with a low && goes_with a high) k.Boolean
    (e.Ternary (three.Between negated (reading_beside low.kind a) (reading_beside high.kind a)) a.tree (beside a.kind low).tree (beside a.kind high).tree)

like_by_ruled : (negated : Bool) (a pattern : Typed) (escape : Option ℕ) → IsRuled (like_by negated a pattern escape)
like_by_ruled negated a pattern None = tt
like_by_ruled negated a pattern (Some escape) = applied_ruled (b.Like negated (Some escape)) a pattern

pub like_ruled : (negated : Bool) (a pattern : Typed) (escape : Option (List ℕ)) → IsRuled (like_typed negated a pattern escape)
like_ruled negated a pattern None = applied_ruled (b.Like negated None) a pattern
like_ruled negated a pattern (Some escape) = like_by_ruled negated a pattern (only_character escape)

pub in_list_ruled : (negated : Bool) (a : Typed) (list : List Typed) → IsRuled (in_list_typed negated a list)
in_list_ruled negated a list = where_ruled (list_all (goes_with a) list) k.Boolean (e.InList a.tree negated (map (list_item a) list))

-- ---- queries

-- a kind, or not one column
abbrev IsOnly : Result Kind RuleFault → Type 0
IsOnly (Ok kind) = Unit {0}
IsOnly (Err broken.Types) = Unit {0}
IsOnly (Err broken.Count) = Unit {0}
IsOnly (Err broken.NoMemory) = ⊥

only_one : (kinds : List Kind) → IsOnly (only_kind kinds)
only_one [] = tt
only_one (kind ∷ []) = tt
only_one (kind ∷ other ∷ rest) = tt

subquery_by_ruled : (query : Query) (r : Result Kind RuleFault) → IsOnly r → IsRuled (subquery_by query r)
subquery_by_ruled query (Ok kind) h = tt
subquery_by_ruled query (Err broken.Types) h = tt
subquery_by_ruled query (Err broken.Count) h = tt
subquery_by_ruled query (Err broken.NoMemory) h = absurd h

pub subquery_ruled : (query : Query) (kinds : List Kind) → IsRuled (subquery_typed query kinds)
subquery_ruled query kinds = subquery_by_ruled query (only_kind kinds) (only_one kinds)

in_query_by_ruled : (negated : Bool) (a : Typed) (query : Query) (r : Result Kind RuleFault) → IsOnly r → IsRuled (in_query_by negated a query r)
in_query_by_ruled negated a query (Ok kind) h = where_ruled (are_comparable (beside kind a).kind kind) k.Boolean (e.InQuery (beside kind a).tree negated query)
in_query_by_ruled negated a query (Err broken.Types) h = tt
in_query_by_ruled negated a query (Err broken.Count) h = tt
in_query_by_ruled negated a query (Err broken.NoMemory) h = absurd h

pub in_query_ruled : (negated : Bool) (a : Typed) (query : Query) (kinds : List Kind) → IsRuled (in_query_typed negated a query kinds)
in_query_ruled negated a query kinds = in_query_by_ruled negated a query (only_kind kinds) (only_one kinds)

-- ---- choices and functions

case_by_ruled : (arms : List TypedArm) (otherwise : Option Typed) (kind : Option Kind) → IsRuled (case_by arms otherwise kind)
case_by_ruled arms otherwise None = tt
case_by_ruled arms otherwise (Some kind) = tt

pub case_ruled : (arms : List TypedArm) (otherwise : Option Typed) → IsRuled (case_typed arms otherwise)
case_ruled arms otherwise =
    if_ruled (list_all (λ arm. is_condition arm.test.kind) arms) (case_by arms otherwise (widest_of (kinds_of (values_of arms otherwise)))) (Err broken.Types)
    (case_by_ruled arms otherwise (widest_of (kinds_of (values_of arms otherwise)))) tt

coalesce_by_ruled : (operands : List Typed) (kind : Option Kind) → IsRuled (coalesce_by operands kind)
coalesce_by_ruled operands None = tt
coalesce_by_ruled operands (Some kind) = tt

coalesce_ruled : (operands : List Typed) → IsRuled (coalesce_typed operands)
coalesce_ruled [] = tt
coalesce_ruled (a ∷ more) = coalesce_by_ruled (a ∷ more) (widest_of (kinds_of (a ∷ more)))

nullif_ruled : (a c : Typed) → IsRuled (nullif_typed a c)
nullif_ruled a c = where_ruled (goes_with a c) a.kind (e.Binary (b.NullIf (reading_beside c.kind a)) a.tree (beside a.kind c).tree)

on_one_ruled : (rule : Typed → Outcome) (o : Option Typed) → ((a : Typed) → IsRuled (rule a)) → IsRuled (on_one rule o)
on_one_ruled rule (Some a) h = h a
on_one_ruled rule None h = tt

on_two_ruled : (rule : Typed → Typed → Outcome) (o : Option (Typed × Typed)) → ((a c : Typed) → IsRuled (rule a c)) → IsRuled (on_two rule o)
on_two_ruled rule (Some pair) h = h pair.0 pair.1
on_two_ruled rule None h = tt

pub call_ruled : (function : Function) (operands : List Typed) → IsRuled (call_typed function operands)
call_ruled f.Coalesce operands = coalesce_ruled operands
call_ruled f.NullIf operands = on_two_ruled nullif_typed (both operands) nullif_ruled
call_ruled f.Mod operands = on_two_ruled (applied b.Mod) (both operands) (applied_ruled b.Mod)
call_ruled f.Abs operands = on_one_ruled (unary_typed u.Abs) (only operands) (unary_ruled u.Abs)
call_ruled f.Upper operands = on_one_ruled (unary_typed u.Upper) (only operands) (unary_ruled u.Upper)
call_ruled f.Lower operands = on_one_ruled (unary_typed u.Lower) (only operands) (unary_ruled u.Lower)
call_ruled f.CharLength operands = on_one_ruled (unary_typed u.CharLength) (only operands) (unary_ruled u.CharLength)

pub substring_ruled : (a start : Typed) (count : Option Typed) → IsRuled (substring_typed a start count)
substring_ruled a start None = applied_ruled b.SubstringFrom a start
substring_ruled a start (Some count) = typed_ruled (ternary_kind three.SubstringFor a.kind start.kind count.kind) (e.Ternary three.SubstringFor a.tree start.tree count.tree)

pub trim_ruled : (shape : TrimForm) (character : Option Typed) (a : Typed) → IsRuled (trim_typed shape character a)
trim_ruled shape None a = unary_ruled (u.Trim shape) a
trim_ruled shape (Some character) a =
    if_ruled (is_trimmed (literal_text character.tree)) (applied (b.TrimOf shape) character a) (Err broken.Types) (applied_ruled (b.TrimOf shape) character a) tt

pub aggregate_ruled : (function : Aggregate) (distinct : Bool) (a : Typed) → IsRuled (aggregate_typed function distinct a)
aggregate_ruled function distinct a = typed_ruled (aggregate_kind function a.kind) (e.Aggregate function distinct a.tree)

-- ---- where an expression stands

pub condition_ruled : (a : Typed) → IsRuled (condition_typed a)
condition_ruled a = if_ruled (is_condition a.kind) (Ok a) (Err broken.Types) tt tt

assignable_ruled : (column : SqlType) (a : Typed) → IsRuled (if_assignable column a)
assignable_ruled column a = if_ruled (is_assignable column a.kind) (Ok a) (Err broken.Types) tt tt

pub assigned_ruled : (column : SqlType) (a : Typed) → IsRuled (assigned_typed column a)
assigned_ruled column a = assignable_ruled column (beside (kind_of_type column) a)
