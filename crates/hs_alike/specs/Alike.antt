-- Whether two expressions are the same: whether they are equal as trees.
use Rattle.std.specs.Prelude.{ℕ, Bool, true, false, ◌==◌, ◌&&◌, List, [], ◌∷◌, Option, None, Some}
use Rattle.std.specs.Str.{bytes_eq}
use Rattle.hs_plan.specs.declared.expression.CaseArm.{CaseArm, fold-CaseArm, out-CaseArm}
use Rattle.hs_plan.specs.declared.expression.Expr.{Expr, fold-Expr, out-Expr}
use Rattle.hs_plan.specs.declared.expression.Expr.TheOpen.{Expr-F, CaseArm-F, ListItem-F}
use Rattle.hs_plan.specs.declared.expression.ListItem.{ListItem, fold-ListItem, out-ListItem}
use Rattle.hs_plan.specs.declared.kind.Kind.{Kind}
use Rattle.hs_plan.specs.declared.operator.Binary.{Binary}
use Rattle.hs_plan.specs.declared.operator.Ternary.{Ternary}
use Rattle.hs_plan.specs.declared.operator.Unary.{Unary}
use Rattle.hs_plan.specs.declared.query.FromItem.{FromItem}
use Rattle.hs_plan.specs.declared.query.Join.{Join}
use Rattle.hs_plan.specs.declared.query.Key.{Key}
use Rattle.hs_plan.specs.declared.query.Query.{Query}
use Rattle.hs_plan.specs.declared.query.QueryBody.{QueryBody}
use Rattle.hs_plan.specs.declared.query.Select.{Select}
use Rattle.hs_plan.specs.declared.query.SortKey.{SortKey}
use Rattle.hs_plan.specs.declared.query.Source.{Source}
use Rattle.hs_plan.specs.declared.query.ValuesRow.{ValuesRow}
use Rattle.hs_plan.specs.declared.reading.Reading.{Reading}
use Rattle.hs_sameness.specs.Plain.{is_plain}
use Rattle.hs_values.specs.declared.value.Value.{Value}
use Rattle.hs_alike.specs.Operators.{same_binary, same_ternary, same_unary}
use Rattle.hs_alike.specs.Parts.{same_kind, same_option, same_reading, same_truth, same_value}

-- what tells of a thing whether it is a given one
abbrev pub Test : Type 0 → Type 0
Test A = A → Bool

-- as many things as tests, each of which tells that its thing is the one
abbrev pub are : {A : Type 0} → List (Test A) → Test (List A)
are [] [] = true
are (test ∷ tests) (x ∷ xs) = test x && are tests xs
are _ _ = false

-- a thing that its test tells to be the one, or nothing where there is no test
abbrev pub may_be : {A : Type 0} → Option (Test A) → Test (Option A)
may_be None None = true
may_be (Some test) (Some x) = test x
may_be _ _ = false

-- ---- one layer, with the tests of its parts in their places

abbrev pub Layer : Type 0
Layer = Expr-F Expr Join Key QueryBody Source CaseArm ListItem FromItem Query Select SortKey ValuesRow

abbrev pub TestLayer : Type 0
TestLayer = Expr-F (Test Expr) Bool Bool Bool Bool (Test CaseArm) (Test ListItem) Bool Bool Bool Bool Bool

abbrev pub is_literal : Value → Test Layer
is_literal x (Expr-F.Literal y) = same_value x y
is_literal x _ = false

abbrev pub is_read_text : List ℕ → Reading → Test Layer
is_read_text text reading (Expr-F.ReadText other_text other) = bytes_eq text other_text && same_reading reading other
is_read_text text reading _ = false

abbrev pub is_bad_moment : Bool → List ℕ → Test Layer
is_bad_moment timestamp text (Expr-F.BadMoment other other_text) = same_truth timestamp other && bytes_eq text other_text
is_bad_moment timestamp text _ = false

abbrev pub is_column : ℕ → ℕ → Test Layer
is_column outward at (Expr-F.Column other_outward other) = (outward == other_outward) && (at == other)
is_column outward at _ = false

abbrev pub is_unary : Unary → Test Expr → Test Layer
is_unary operator a (Expr-F.Unary other x) = same_unary operator other && a x
is_unary operator a _ = false

abbrev pub is_binary : Binary → Test Expr → Test Expr → Test Layer
is_binary operator a b (Expr-F.Binary other x y) = same_binary operator other && (a x && b y)
is_binary operator a b _ = false

abbrev pub is_ternary : Ternary → Test Expr → Test Expr → Test Expr → Test Layer
is_ternary operator a b c (Expr-F.Ternary other x y z) = same_ternary operator other && (a x && (b y && c z))
is_ternary operator a b c _ = false

abbrev pub is_in_list : Test Expr → Bool → List (Test ListItem) → Test Layer
is_in_list a negated list (Expr-F.InList x other items) = a x && (same_truth negated other && are list items)
is_in_list a negated list _ = false

abbrev pub is_case : Kind → List (Test CaseArm) → Option (Test Expr) → Test Layer
is_case kind arms otherwise (Expr-F.Case other others e) = same_kind kind other && (are arms others && may_be otherwise e)
is_case kind arms otherwise _ = false

abbrev pub is_coalesce : Kind → List (Test Expr) → Test Layer
is_coalesce kind operands (Expr-F.Coalesce other others) = same_kind kind other && are operands others
is_coalesce kind operands _ = false

-- a query or an aggregate is never told to be one
abbrev pub is_layer : TestLayer → Test Layer
is_layer (Expr-F.Literal x) = is_literal x
is_layer (Expr-F.ReadText text reading) = is_read_text text reading
is_layer (Expr-F.BadMoment timestamp text) = is_bad_moment timestamp text
is_layer (Expr-F.Column outward at) = is_column outward at
is_layer (Expr-F.Unary operator a) = is_unary operator a
is_layer (Expr-F.Binary operator a b) = is_binary operator a b
is_layer (Expr-F.Ternary operator a b c) = is_ternary operator a b c
is_layer (Expr-F.InList a negated list) = is_in_list a negated list
is_layer (Expr-F.Case kind arms otherwise) = is_case kind arms otherwise
is_layer (Expr-F.Coalesce kind operands) = is_coalesce kind operands
is_layer _ = λ e. false

abbrev pub of_expression : TestLayer → Test Expr
of_expression tests e = is_layer tests (out-Expr e)

abbrev pub of_arm : CaseArm-F (Test Expr) Bool Bool Bool Bool (Test CaseArm) (Test ListItem) Bool Bool Bool Bool Bool → Test CaseArm
of_arm tests arm = tests.test (out-CaseArm arm).test && tests.value (out-CaseArm arm).value

abbrev pub of_item : ListItem-F (Test Expr) Bool Bool Bool Bool (Test CaseArm) (Test ListItem) Bool Bool Bool Bool Bool → Test ListItem
of_item tests item = same_option same_reading tests.reading (out-ListItem item).reading && tests.value (out-ListItem item).value

abbrev pub no : {A : Type 0} → A → Bool
no part = false

-- ---- whole expressions

abbrev pub same_condition : Expr → Test Expr
same_condition = fold-Expr (Test Expr) Bool Bool Bool Bool (Test CaseArm) (Test ListItem) Bool Bool Bool Bool Bool of_expression no no no no of_arm of_item no no no no no

abbrev pub same_arm : CaseArm → Test CaseArm
same_arm = fold-CaseArm (Test Expr) Bool Bool Bool Bool (Test CaseArm) (Test ListItem) Bool Bool Bool Bool Bool of_expression no no no no of_arm of_item no no no no no

abbrev pub same_item : ListItem → Test ListItem
same_item = fold-ListItem (Test Expr) Bool Bool Bool Bool (Test CaseArm) (Test ListItem) Bool Bool Bool Bool Bool of_expression no no no no of_arm of_item no no no no no

-- what was found is this condition, which is plain
abbrev pub gives : Option Expr → Expr → Bool
gives None e = false
gives (Some found) e = is_plain e && same_condition e found
