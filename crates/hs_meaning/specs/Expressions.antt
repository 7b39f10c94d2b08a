-- What each layer of an expression means, its parts being known.
use Rattle.std.specs.Prelude.{ℕ, zero, suc, Bool, true, false, ◌||◌, if◌then◌else◌, List, [], ◌∷◌, ◌++◌, map, Option, Some, None, option_map, Ok}
use Rattle.std.specs.List.{flat_map, list_any}
use Rattle.std.specs.Option.{option_map_or}
use Rattle.hs_ast.specs.declared.expression.Aggregate.{Aggregate}
use Rattle.hs_ast.specs.declared.expression.ColumnName.{ColumnName}
use Rattle.hs_ast.specs.declared.expression.ExpressionKind.TheOpen.{ExpressionKind-F}
use Rattle.hs_ast.specs.declared.expression.Sign.{Sign}
use Rattle.hs_ast.specs.declared.expression.Sign.TheVariants as sign
use Rattle.hs_ast.specs.declared.literal.Literal.{Literal}
use Rattle.hs_plan.specs.declared.expression.Expr.TheVariants as e
use Rattle.hs_plan.specs.declared.fault.Cause.TheVariants as cause
use Rattle.hs_plan.specs.declared.kind.Kind.{Kind}
use Rattle.hs_plan.specs.declared.operator.Unary.{Unary}
use Rattle.hs_plan.specs.declared.operator.Unary.TheVariants as u
use Rattle.hs_scope.specs.declared.sought.Found.{Found}
use Rattle.hs_scope.specs.declared.sought.Found.TheVariants as found
use Rattle.hs_scope.specs.Names.{found_in}
use Rattle.hs_typed.specs.declared.lists.TypedArm.{TypedArm}
use Rattle.hs_typed.specs.declared.typed.Typed.{Typed}
use Rattle.hs_typed.specs.Faults.{fault_at}
use Rattle.hs_typed.specs.Literals.{literal_typed, sql_type_of}
use Rattle.hs_typed.specs.Rules.{aggregate_typed, between_typed, binary_typed, call_typed, case_typed, condition_typed, exists_typed, in_list_typed, in_query_typed, like_typed, rows_typed, subquery_typed, substring_typed, trim_typed, unary_typed}
use Rattle.hs_meaning.specs.declared.placed.PlacedColumn.{PlacedColumn}
use Rattle.hs_meaning.specs.Layers.{ArmLayer, ArmPart, ExpressionLayer, Form, FormLayer, Part, QueryMeaning, means}
use Rattle.hs_meaning.specs.Parts.{Meaning, meant, refused, known, all, if_written, of_two, of_three, judged, by_one, by_two, by_three, tree_in}
use Rattle.hs_meaning.specs.Surroundings.{Surroundings, in_aggregate, may_stand}

-- ---- what an expression is by itself

abbrev pub literal_in : FormLayer → Option Literal
literal_in (ExpressionKind-F.Literal literal) = Some literal
literal_in _ = None

abbrev pub column_in : FormLayer → Option ColumnName
column_in (ExpressionKind-F.Column name) = Some name
column_in _ = None

abbrev pub in_any : List Part → Bool
in_any parts = list_any (λ e. e.form.aggregate) parts

abbrev pub in_optional : Option Part → Bool
in_optional part = option_map_or (λ e. e.form.aggregate) part false

-- an aggregate stands in it, but not in a query inside it
abbrev pub has_aggregate : FormLayer → Bool
has_aggregate (ExpressionKind-F.Literal literal) = false
has_aggregate (ExpressionKind-F.Column name) = false
has_aggregate (ExpressionKind-F.Signed sign a) = a.form.aggregate
has_aggregate (ExpressionKind-F.Not a) = a.form.aggregate
has_aggregate (ExpressionKind-F.Binary operator a b) = a.form.aggregate || b.form.aggregate
has_aggregate (ExpressionKind-F.IsNull a negated) = a.form.aggregate
has_aggregate (ExpressionKind-F.Between a negated low high) = a.form.aggregate || low.form.aggregate || high.form.aggregate
has_aggregate (ExpressionKind-F.InList a negated list) = a.form.aggregate || in_any list
has_aggregate (ExpressionKind-F.InQuery a negated query) = a.form.aggregate
has_aggregate (ExpressionKind-F.Like a negated pattern escape) = a.form.aggregate || pattern.form.aggregate
has_aggregate (ExpressionKind-F.Exists query) = false
has_aggregate (ExpressionKind-F.Subquery query) = false
has_aggregate (ExpressionKind-F.Cast a data_type) = a.form.aggregate
has_aggregate (ExpressionKind-F.Case arms otherwise) = list_any (λ arm. arm.test.form.aggregate || arm.value.form.aggregate) arms || in_optional otherwise
has_aggregate (ExpressionKind-F.Call function arguments) = in_any arguments
has_aggregate (ExpressionKind-F.Substring text start count) = text.form.aggregate || start.form.aggregate || in_optional count
has_aggregate (ExpressionKind-F.Trim manner character text) = in_optional character || text.form.aggregate
has_aggregate (ExpressionKind-F.Extract field a) = a.form.aggregate
has_aggregate (ExpressionKind-F.Interval a sign count unit) = a.form.aggregate
has_aggregate ExpressionKind-F.CountRows = true
has_aggregate (ExpressionKind-F.Aggregate function distinct a) = true

-- ---- columns

-- the column at a place of a FROM, where it may stand; where nothing is known of its values, it isn't known either
abbrev pub place_meaning : ℕ → Surroundings → ℕ → ℕ → Option Kind → Meaning Typed
place_meaning at s outward place kind =
    if may_stand s.groups outward place then record { faults = []; part = option_map (λ k. record { tree = e.Column outward place; kind = k }) kind } else refused at []

abbrev pub column_meaning : ℕ → Surroundings → ColumnName → Found → Meaning Typed
column_meaning at s name (found.Column outward place kind) = place_meaning at s outward place kind
column_meaning at s name found.Missing = record { faults = fault_at at (cause.NoSuchColumn name.column); part = None }
column_meaning at s name found.Ambiguous = record { faults = fault_at at (cause.Ambiguous name.column); part = None }

-- ---- lists

abbrev pub all_in : Surroundings → List Part → Meaning (List Typed)
all_in s parts = all (map (λ p. means p s) parts)

abbrev pub optional_in : Surroundings → Option Part → Meaning (Option Typed)
optional_in s part = if_written (option_map (λ p. means p s) part)

abbrev pub arm_by : Option Typed → Option Typed → Option TypedArm
arm_by (Some test) (Some shown) = Some (record { test = test; value = shown })
arm_by (Some test) None = None
arm_by None shown = None

abbrev pub arm_meaning : Surroundings → ArmPart → Meaning TypedArm
arm_meaning s arm = record { faults = (means arm.test s).faults ++ (means arm.value s).faults; part = arm_by (means arm.test s).part (means arm.value s).part }

abbrev pub arms_in : Surroundings → List ArmPart → Meaning (List TypedArm)
arms_in s arms = all (map (arm_meaning s) arms)

-- ---- queries

-- the kinds of columns, where all are known
abbrev pub kinds_of : List PlacedColumn → Option (List Kind)
kinds_of columns = known (map (λ c. c.column.kind) columns)

abbrev pub exists_meaning : ℕ → QueryMeaning → Meaning Typed
exists_meaning at q = record { faults = q.faults; part = option_map exists_typed q.plan }

abbrev pub subquery_meaning : ℕ → QueryMeaning → Meaning Typed
subquery_meaning at q = judged at q.faults (of_two subquery_typed q.plan (kinds_of q.columns))

abbrev pub in_query_meaning : Bool → ℕ → Meaning Typed → QueryMeaning → Meaning Typed
in_query_meaning negated at a q = judged at (a.faults ++ q.faults) (of_three (in_query_typed negated) a.part q.plan (kinds_of q.columns))

-- ---- aggregates

-- an aggregate where none may stand is a fault at itself
abbrev pub aggregate_meaning : Aggregate → Bool → ℕ → Surroundings → Meaning Typed → Meaning Typed
aggregate_meaning function distinct at s a = if s.aggregates then by_one (aggregate_typed function distinct) at a else refused at a.faults

-- ---- layers

abbrev pub signed : Sign → Unary
signed sign.Plus = u.Plus
signed sign.Minus = u.Minus

abbrev pub null_test : Bool → Unary
null_test true = u.IsNotNull
null_test false = u.IsNull

abbrev pub form_means : FormLayer → ℕ → Surroundings → Meaning Typed
form_means (ExpressionKind-F.Literal literal) at s = meant (literal_typed literal)
form_means (ExpressionKind-F.Column name) at s = column_meaning at s name (found_in s.scopes name)
form_means (ExpressionKind-F.Signed sign a) at s = by_one (unary_typed (signed sign)) at (means a s)
form_means (ExpressionKind-F.Not a) at s = by_one (unary_typed u.Not) at (means a s)
form_means (ExpressionKind-F.Binary operator a b) at s = by_two (binary_typed operator) at (means a s) (means b s)
form_means (ExpressionKind-F.IsNull a negated) at s = by_one (unary_typed (null_test negated)) at (means a s)
form_means (ExpressionKind-F.Between a negated low high) at s = by_three (between_typed negated) at (means a s) (means low s) (means high s)
form_means (ExpressionKind-F.InList a negated list) at s = by_two (in_list_typed negated) at (means a s) (all_in s list)
form_means (ExpressionKind-F.InQuery a negated query) at s = if s.queries then in_query_meaning negated at (means a s) (query s) else refused at (means a s).faults
form_means (ExpressionKind-F.Like a negated pattern escape) at s = by_two (λ x p. like_typed negated x p escape) at (means a s) (means pattern s)
form_means (ExpressionKind-F.Exists query) at s = if s.queries then exists_meaning at (query s) else refused at []
form_means (ExpressionKind-F.Subquery query) at s = if s.queries then subquery_meaning at (query s) else refused at []
form_means (ExpressionKind-F.Cast a data_type) at s = by_one (unary_typed (u.Cast (sql_type_of data_type))) at (means a s)
form_means (ExpressionKind-F.Case arms otherwise) at s = by_two case_typed at (arms_in s arms) (optional_in s otherwise)
form_means (ExpressionKind-F.Call function arguments) at s = by_one (call_typed function) at (all_in s arguments)
form_means (ExpressionKind-F.Substring text start count) at s = by_three substring_typed at (means text s) (means start s) (optional_in s count)
form_means (ExpressionKind-F.Trim manner character text) at s = by_two (trim_typed manner) at (optional_in s character) (means text s)
form_means (ExpressionKind-F.Extract field a) at s = by_one (unary_typed (u.Extract field)) at (means a s)
form_means (ExpressionKind-F.Interval a sign count unit) at s = by_one (unary_typed (u.Interval sign count unit)) at (means a s)
form_means ExpressionKind-F.CountRows at s = if s.aggregates then meant rows_typed else refused at []
form_means (ExpressionKind-F.Aggregate function distinct a) at s = aggregate_meaning function distinct at s (means a (in_aggregate s))

abbrev pub form_step : FormLayer → Form
form_step x = record { literal = literal_in x; column = column_in x; aggregate = has_aggregate x; means = form_means x }

abbrev pub part_step : ExpressionLayer → Part
part_step x = record { at = x.at; form = x.kind }

abbrev pub arm_step : ArmLayer → ArmPart
arm_step x = record { test = x.test; value = x.value }

-- ---- conditions

-- what stands behind ON, WHERE, HAVING or CHECK
abbrev pub condition : Surroundings → Part → Meaning Typed
condition s p = by_one condition_typed p.at (means p s)
