-- The test of conditions tells no more than that they are equal, and each plain one is the same as itself.
use Rattle.std.proofs.Common.{◌≡◌, ℕ, Bool, true, false, ◌&&◌, ◌==◌, List, [], ◌∷◌, map, Option, None, Some, refl, sym, ap, subst, ◌∙◌}
use Rattle.std.proofs.lemmas.Bool.{and_parts}
use Rattle.std.proofs.lemmas.Slice.Eq.{bytes_eq-Decides}
use Rattle.std.specs.Bool.{Decides}
use Rattle.std.specs.Str.{bytes_eq}
use Rattle.hs_plan.specs.declared.expression.CaseArm.{CaseArm, out-CaseArm, roll-CaseArm, fold-roll-CaseArm, ind-CaseArm, out-roll-CaseArm}
use Rattle.hs_plan.specs.declared.expression.Expr.{Expr, out-Expr, roll-Expr, fold-roll-Expr, ind-Expr, out-roll-Expr}
use Rattle.hs_plan.specs.declared.expression.ListItem.{ListItem, out-ListItem, roll-ListItem, fold-roll-ListItem, ind-ListItem, out-roll-ListItem}
use Rattle.hs_plan.specs.declared.expression.Expr.TheFolds.{map-Expr, map-CaseArm, map-ListItem}
use Rattle.hs_plan.specs.declared.expression.Expr.TheOpen.{Expr-F, CaseArm-F, ListItem-F}
use Rattle.hs_plan.specs.declared.kind.Kind.{Kind}
use Rattle.hs_plan.specs.declared.operator.Binary.{Binary}
use Rattle.hs_plan.specs.declared.operator.Ternary.{Ternary}
use Rattle.hs_plan.specs.declared.operator.Unary.{Unary}
use Rattle.hs_plan.specs.declared.query.FromItem.{FromItem, fold-FromItem}
use Rattle.hs_plan.specs.declared.query.Join.{Join, fold-Join}
use Rattle.hs_plan.specs.declared.query.Key.{Key, fold-Key}
use Rattle.hs_plan.specs.declared.query.Query.{Query, fold-Query}
use Rattle.hs_plan.specs.declared.query.QueryBody.{QueryBody, fold-QueryBody}
use Rattle.hs_plan.specs.declared.query.Select.{Select, fold-Select}
use Rattle.hs_plan.specs.declared.query.SortKey.{SortKey, fold-SortKey}
use Rattle.hs_plan.specs.declared.query.Source.{Source, fold-Source}
use Rattle.hs_plan.specs.declared.query.ValuesRow.{ValuesRow, fold-ValuesRow}
use Rattle.hs_plan.specs.declared.reading.Reading.{Reading}
use Rattle.hs_sameness.specs.Plain as plain
use Rattle.hs_sameness.specs.Plain.{every, is_plain, is_plain_arm, is_plain_item}
use Rattle.hs_values.specs.declared.value.Value.{Value}
use Rattle.hs_alike.specs.Alike.{Layer, Test, are, gives, is_bad_moment, is_binary, is_case, is_coalesce, is_column, is_in_list, is_layer, is_literal, is_read_text, is_ternary, is_unary, no, of_arm, of_expression, of_item, same_arm, same_condition, same_item}
use Rattle.hs_alike.specs.Operators.{same_binary, same_ternary, same_unary}
use Rattle.hs_alike.specs.Parts.{same_kind, same_option, same_reading, same_truth}
use Rattle.hs_alike.proofs.Operators.{binaries, ternaries, unaries}
use Rattle.hs_alike.proofs.Parts.{both, kinds, never, numbers, options, readings, truths, values}

-- ---- the parts that are no expressions

abbrev plain_join : Join → Bool
plain_join = fold-Join Bool Bool Bool Bool Bool Bool Bool Bool Bool Bool Bool Bool plain.of_expression plain.no plain.no plain.no plain.no plain.of_arm plain.of_item plain.no plain.no plain.no plain.no plain.no

abbrev same_join : Join → Bool
same_join = fold-Join (Test Expr) Bool Bool Bool Bool (Test CaseArm) (Test ListItem) Bool Bool Bool Bool Bool of_expression no no no no of_arm of_item no no no no no

abbrev plain_key : Key → Bool
plain_key = fold-Key Bool Bool Bool Bool Bool Bool Bool Bool Bool Bool Bool Bool plain.of_expression plain.no plain.no plain.no plain.no plain.of_arm plain.of_item plain.no plain.no plain.no plain.no plain.no

abbrev same_key : Key → Bool
same_key = fold-Key (Test Expr) Bool Bool Bool Bool (Test CaseArm) (Test ListItem) Bool Bool Bool Bool Bool of_expression no no no no of_arm of_item no no no no no

abbrev plain_body : QueryBody → Bool
plain_body = fold-QueryBody Bool Bool Bool Bool Bool Bool Bool Bool Bool Bool Bool Bool plain.of_expression plain.no plain.no plain.no plain.no plain.of_arm plain.of_item plain.no plain.no plain.no plain.no plain.no

abbrev same_body : QueryBody → Bool
same_body = fold-QueryBody (Test Expr) Bool Bool Bool Bool (Test CaseArm) (Test ListItem) Bool Bool Bool Bool Bool of_expression no no no no of_arm of_item no no no no no

abbrev plain_source : Source → Bool
plain_source = fold-Source Bool Bool Bool Bool Bool Bool Bool Bool Bool Bool Bool Bool plain.of_expression plain.no plain.no plain.no plain.no plain.of_arm plain.of_item plain.no plain.no plain.no plain.no plain.no

abbrev same_source : Source → Bool
same_source = fold-Source (Test Expr) Bool Bool Bool Bool (Test CaseArm) (Test ListItem) Bool Bool Bool Bool Bool of_expression no no no no of_arm of_item no no no no no

abbrev plain_element : FromItem → Bool
plain_element = fold-FromItem Bool Bool Bool Bool Bool Bool Bool Bool Bool Bool Bool Bool plain.of_expression plain.no plain.no plain.no plain.no plain.of_arm plain.of_item plain.no plain.no plain.no plain.no plain.no

abbrev same_element : FromItem → Bool
same_element = fold-FromItem (Test Expr) Bool Bool Bool Bool (Test CaseArm) (Test ListItem) Bool Bool Bool Bool Bool of_expression no no no no of_arm of_item no no no no no

abbrev plain_query : Query → Bool
plain_query = fold-Query Bool Bool Bool Bool Bool Bool Bool Bool Bool Bool Bool Bool plain.of_expression plain.no plain.no plain.no plain.no plain.of_arm plain.of_item plain.no plain.no plain.no plain.no plain.no

abbrev same_query : Query → Bool
same_query = fold-Query (Test Expr) Bool Bool Bool Bool (Test CaseArm) (Test ListItem) Bool Bool Bool Bool Bool of_expression no no no no of_arm of_item no no no no no

abbrev plain_select : Select → Bool
plain_select = fold-Select Bool Bool Bool Bool Bool Bool Bool Bool Bool Bool Bool Bool plain.of_expression plain.no plain.no plain.no plain.no plain.of_arm plain.of_item plain.no plain.no plain.no plain.no plain.no

abbrev same_select : Select → Bool
same_select = fold-Select (Test Expr) Bool Bool Bool Bool (Test CaseArm) (Test ListItem) Bool Bool Bool Bool Bool of_expression no no no no of_arm of_item no no no no no

abbrev plain_sort_key : SortKey → Bool
plain_sort_key = fold-SortKey Bool Bool Bool Bool Bool Bool Bool Bool Bool Bool Bool Bool plain.of_expression plain.no plain.no plain.no plain.no plain.of_arm plain.of_item plain.no plain.no plain.no plain.no plain.no

abbrev same_sort_key : SortKey → Bool
same_sort_key = fold-SortKey (Test Expr) Bool Bool Bool Bool (Test CaseArm) (Test ListItem) Bool Bool Bool Bool Bool of_expression no no no no of_arm of_item no no no no no

abbrev plain_row : ValuesRow → Bool
plain_row = fold-ValuesRow Bool Bool Bool Bool Bool Bool Bool Bool Bool Bool Bool Bool plain.of_expression plain.no plain.no plain.no plain.no plain.of_arm plain.of_item plain.no plain.no plain.no plain.no plain.no

abbrev same_row : ValuesRow → Bool
same_row = fold-ValuesRow (Test Expr) Bool Bool Bool Bool (Test CaseArm) (Test ListItem) Bool Bool Bool Bool Bool of_expression no no no no of_arm of_item no no no no no

-- ---- what is known of a part

-- what is told to be the same is equal, and a plain part is the same as itself
record Known {T : Type 0} (same : T → T → Bool) (plain_part : T → Bool) (x : T) : Type 0 where
  sound : (y : T) → same x y ≡ true → x ≡ y
  itself : plain_part x ≡ true → same x x ≡ true

abbrev Part : {T : Type 0} → (T → T → Bool) → (T → Bool) → Type 0
Part {T} same plain_part = (x : T) × Known same plain_part x

abbrev part_of : {T : Type 0} (same : T → T → Bool) (plain_part : T → Bool) → Part same plain_part → T
part_of same plain_part p = p.0

-- a part that isn't looked at
abbrev Other : Type 0 → Type 0
Other T = T × Unit {0}

abbrev other_of : {T : Type 0} → Other T → T
other_of p = p.0

-- ---- lists of parts, and parts that may be left out

all_sound : {T : Type 0} (same : T → T → Bool) (plain_part : T → Bool) (parts : List (Part same plain_part)) (ys : List T) → are (map same (map (part_of same plain_part) parts)) ys ≡ true → map (part_of same plain_part) parts ≡ ys
all_sound same plain_part [] [] h = refl
all_sound same plain_part [] (y ∷ ys) h = never h
all_sound same plain_part (p ∷ parts) [] h = never h
all_sound same plain_part (p ∷ parts) (y ∷ ys) h =
    let both_are = and_parts (same p.0 y) (are (map same (map (part_of same plain_part) parts)) ys) h in
    let first = p.1.sound y both_are.0 in
    let others = all_sound same plain_part parts ys both_are.1 in
    λ i. first i ∷ others i

all_itself : {T : Type 0} (same : T → T → Bool) (plain_part : T → Bool) (parts : List (Part same plain_part)) → every (map plain_part (map (part_of same plain_part) parts)) ≡ true → are (map same (map (part_of same plain_part) parts)) (map (part_of same plain_part) parts) ≡ true
all_itself same plain_part [] h = refl
all_itself same plain_part (p ∷ parts) h =
    let both_are = and_parts (plain_part p.0) (every (map plain_part (map (part_of same plain_part) parts))) h in
    both (same p.0 p.0) (are (map same (map (part_of same plain_part) parts)) (map (part_of same plain_part) parts)) (p.1.itself both_are.0) (all_itself same plain_part parts both_are.1)

abbrev PCondition : Type 0
PCondition = Part same_condition is_plain

abbrev OnExpr : Expr → Type 0
OnExpr = Known same_condition is_plain

abbrev PArm : Type 0
PArm = Part same_arm is_plain_arm

abbrev OnCaseArm : CaseArm → Type 0
OnCaseArm = Known same_arm is_plain_arm

abbrev PItem : Type 0
PItem = Part same_item is_plain_item

abbrev OnListItem : ListItem → Type 0
OnListItem = Known same_item is_plain_item

abbrev PartLayer : Type 0
PartLayer = Expr-F PCondition (Other Join) (Other Key) (Other QueryBody) (Other Source) PArm PItem (Other FromItem) (Other Query) (Other Select) (Other SortKey) (Other ValuesRow)

-- ---- one layer of an expression

abbrev bare_condition : Expr-F PCondition (Other Join) (Other Key) (Other QueryBody) (Other Source) PArm PItem (Other FromItem) (Other Query) (Other Select) (Other SortKey) (Other ValuesRow) → Expr-F Expr Join Key QueryBody Source CaseArm ListItem FromItem Query Select SortKey ValuesRow
bare_condition = map-Expr PCondition (Other Join) (Other Key) (Other QueryBody) (Other Source) PArm PItem (Other FromItem) (Other Query) (Other Select) (Other SortKey) (Other ValuesRow) Expr Join Key QueryBody Source CaseArm ListItem FromItem Query Select SortKey ValuesRow (part_of same_condition is_plain) other_of other_of other_of other_of (part_of same_arm is_plain_arm) (part_of same_item is_plain_item) other_of other_of other_of other_of other_of

abbrev condition_tests : Expr-F Expr Join Key QueryBody Source CaseArm ListItem FromItem Query Select SortKey ValuesRow → Expr-F (Test Expr) Bool Bool Bool Bool (Test CaseArm) (Test ListItem) Bool Bool Bool Bool Bool
condition_tests = map-Expr Expr Join Key QueryBody Source CaseArm ListItem FromItem Query Select SortKey ValuesRow (Test Expr) Bool Bool Bool Bool (Test CaseArm) (Test ListItem) Bool Bool Bool Bool Bool same_condition same_join same_key same_body same_source same_arm same_item same_element same_query same_select same_sort_key same_row

abbrev condition_plains : Expr-F Expr Join Key QueryBody Source CaseArm ListItem FromItem Query Select SortKey ValuesRow → Expr-F Bool Bool Bool Bool Bool Bool Bool Bool Bool Bool Bool Bool
condition_plains = map-Expr Expr Join Key QueryBody Source CaseArm ListItem FromItem Query Select SortKey ValuesRow Bool Bool Bool Bool Bool Bool Bool Bool Bool Bool Bool Bool is_plain plain_join plain_key plain_body plain_source is_plain_arm is_plain_item plain_element plain_query plain_select plain_sort_key plain_row

condition_is : (x : Expr-F Expr Join Key QueryBody Source CaseArm ListItem FromItem Query Select SortKey ValuesRow) → same_condition (roll-Expr x) ≡ of_expression (condition_tests x)
condition_is x = fold-roll-Expr (Test Expr) Bool Bool Bool Bool (Test CaseArm) (Test ListItem) Bool Bool Bool Bool Bool of_expression no no no no of_arm of_item no no no no no x

condition_plain : (x : Expr-F Expr Join Key QueryBody Source CaseArm ListItem FromItem Query Select SortKey ValuesRow) → is_plain (roll-Expr x) ≡ true → plain.of_expression (condition_plains x) ≡ true
condition_plain x h = sym (fold-roll-Expr Bool Bool Bool Bool Bool Bool Bool Bool Bool Bool Bool Bool plain.of_expression plain.no plain.no plain.no plain.no plain.of_arm plain.of_item plain.no plain.no plain.no plain.no plain.no x) ∙ h

-- ---- one layer of an arm

abbrev bare_arm : CaseArm-F PCondition (Other Join) (Other Key) (Other QueryBody) (Other Source) PArm PItem (Other FromItem) (Other Query) (Other Select) (Other SortKey) (Other ValuesRow) → CaseArm-F Expr Join Key QueryBody Source CaseArm ListItem FromItem Query Select SortKey ValuesRow
bare_arm = map-CaseArm PCondition (Other Join) (Other Key) (Other QueryBody) (Other Source) PArm PItem (Other FromItem) (Other Query) (Other Select) (Other SortKey) (Other ValuesRow) Expr Join Key QueryBody Source CaseArm ListItem FromItem Query Select SortKey ValuesRow (part_of same_condition is_plain) other_of other_of other_of other_of (part_of same_arm is_plain_arm) (part_of same_item is_plain_item) other_of other_of other_of other_of other_of

abbrev arm_tests : CaseArm-F Expr Join Key QueryBody Source CaseArm ListItem FromItem Query Select SortKey ValuesRow → CaseArm-F (Test Expr) Bool Bool Bool Bool (Test CaseArm) (Test ListItem) Bool Bool Bool Bool Bool
arm_tests = map-CaseArm Expr Join Key QueryBody Source CaseArm ListItem FromItem Query Select SortKey ValuesRow (Test Expr) Bool Bool Bool Bool (Test CaseArm) (Test ListItem) Bool Bool Bool Bool Bool same_condition same_join same_key same_body same_source same_arm same_item same_element same_query same_select same_sort_key same_row

abbrev arm_plains : CaseArm-F Expr Join Key QueryBody Source CaseArm ListItem FromItem Query Select SortKey ValuesRow → CaseArm-F Bool Bool Bool Bool Bool Bool Bool Bool Bool Bool Bool Bool
arm_plains = map-CaseArm Expr Join Key QueryBody Source CaseArm ListItem FromItem Query Select SortKey ValuesRow Bool Bool Bool Bool Bool Bool Bool Bool Bool Bool Bool Bool is_plain plain_join plain_key plain_body plain_source is_plain_arm is_plain_item plain_element plain_query plain_select plain_sort_key plain_row

arm_is : (x : CaseArm-F Expr Join Key QueryBody Source CaseArm ListItem FromItem Query Select SortKey ValuesRow) → same_arm (roll-CaseArm x) ≡ of_arm (arm_tests x)
arm_is x = fold-roll-CaseArm (Test Expr) Bool Bool Bool Bool (Test CaseArm) (Test ListItem) Bool Bool Bool Bool Bool of_expression no no no no of_arm of_item no no no no no x

arm_plain : (x : CaseArm-F Expr Join Key QueryBody Source CaseArm ListItem FromItem Query Select SortKey ValuesRow) → is_plain_arm (roll-CaseArm x) ≡ true → plain.of_arm (arm_plains x) ≡ true
arm_plain x h = sym (fold-roll-CaseArm Bool Bool Bool Bool Bool Bool Bool Bool Bool Bool Bool Bool plain.of_expression plain.no plain.no plain.no plain.no plain.of_arm plain.of_item plain.no plain.no plain.no plain.no plain.no x) ∙ h

-- ---- one layer of a value of IN

abbrev bare_item : ListItem-F PCondition (Other Join) (Other Key) (Other QueryBody) (Other Source) PArm PItem (Other FromItem) (Other Query) (Other Select) (Other SortKey) (Other ValuesRow) → ListItem-F Expr Join Key QueryBody Source CaseArm ListItem FromItem Query Select SortKey ValuesRow
bare_item = map-ListItem PCondition (Other Join) (Other Key) (Other QueryBody) (Other Source) PArm PItem (Other FromItem) (Other Query) (Other Select) (Other SortKey) (Other ValuesRow) Expr Join Key QueryBody Source CaseArm ListItem FromItem Query Select SortKey ValuesRow (part_of same_condition is_plain) other_of other_of other_of other_of (part_of same_arm is_plain_arm) (part_of same_item is_plain_item) other_of other_of other_of other_of other_of

abbrev item_tests : ListItem-F Expr Join Key QueryBody Source CaseArm ListItem FromItem Query Select SortKey ValuesRow → ListItem-F (Test Expr) Bool Bool Bool Bool (Test CaseArm) (Test ListItem) Bool Bool Bool Bool Bool
item_tests = map-ListItem Expr Join Key QueryBody Source CaseArm ListItem FromItem Query Select SortKey ValuesRow (Test Expr) Bool Bool Bool Bool (Test CaseArm) (Test ListItem) Bool Bool Bool Bool Bool same_condition same_join same_key same_body same_source same_arm same_item same_element same_query same_select same_sort_key same_row

abbrev item_plains : ListItem-F Expr Join Key QueryBody Source CaseArm ListItem FromItem Query Select SortKey ValuesRow → ListItem-F Bool Bool Bool Bool Bool Bool Bool Bool Bool Bool Bool Bool
item_plains = map-ListItem Expr Join Key QueryBody Source CaseArm ListItem FromItem Query Select SortKey ValuesRow Bool Bool Bool Bool Bool Bool Bool Bool Bool Bool Bool Bool is_plain plain_join plain_key plain_body plain_source is_plain_arm is_plain_item plain_element plain_query plain_select plain_sort_key plain_row

item_is : (x : ListItem-F Expr Join Key QueryBody Source CaseArm ListItem FromItem Query Select SortKey ValuesRow) → same_item (roll-ListItem x) ≡ of_item (item_tests x)
item_is x = fold-roll-ListItem (Test Expr) Bool Bool Bool Bool (Test CaseArm) (Test ListItem) Bool Bool Bool Bool Bool of_expression no no no no of_arm of_item no no no no no x

item_plain : (x : ListItem-F Expr Join Key QueryBody Source CaseArm ListItem FromItem Query Select SortKey ValuesRow) → is_plain_item (roll-ListItem x) ≡ true → plain.of_item (item_plains x) ≡ true
item_plain x h = sym (fold-roll-ListItem Bool Bool Bool Bool Bool Bool Bool Bool Bool Bool Bool Bool plain.of_expression plain.no plain.no plain.no plain.no plain.of_arm plain.of_item plain.no plain.no plain.no plain.no plain.no x) ∙ h

-- ---- layers of expressions that are told to be the same

literal_sound : (x : Value) (z : Layer) → is_literal x z ≡ true → Expr-F.Literal x ≡ z
literal_sound x (Expr-F.Literal y) h = let e = values.sound x y h in λ i. Expr-F.Literal (e i)
literal_sound x _ h = never h

read_text_sound : (text : List ℕ) (reading : Reading) (z : Layer) → is_read_text text reading z ≡ true → Expr-F.ReadText text reading ≡ z
read_text_sound text reading (Expr-F.ReadText other_text other) h =
    let parts = and_parts (bytes_eq text other_text) (same_reading reading other) h in
    let a = (bytes_eq-Decides text other_text).0 parts.0 in
    let b = readings.sound reading other parts.1 in
    λ i. Expr-F.ReadText (a i) (b i)
read_text_sound text reading _ h = never h

bad_moment_sound : (timestamp : Bool) (text : List ℕ) (z : Layer) → is_bad_moment timestamp text z ≡ true → Expr-F.BadMoment timestamp text ≡ z
bad_moment_sound timestamp text (Expr-F.BadMoment other other_text) h =
    let parts = and_parts (same_truth timestamp other) (bytes_eq text other_text) h in
    let a = truths.sound timestamp other parts.0 in
    let b = (bytes_eq-Decides text other_text).0 parts.1 in
    λ i. Expr-F.BadMoment (a i) (b i)
bad_moment_sound timestamp text _ h = never h

column_sound : (outward at : ℕ) (z : Layer) → is_column outward at z ≡ true → Expr-F.Column outward at ≡ z
column_sound outward at (Expr-F.Column other_outward other) h =
    let parts = and_parts (outward == other_outward) (at == other) h in
    let a = numbers.sound outward other_outward parts.0 in
    let b = numbers.sound at other parts.1 in
    λ i. Expr-F.Column (a i) (b i)
column_sound outward at _ h = never h

unary_sound : (operator : Unary) (p : PCondition) (z : Layer) → is_unary operator (same_condition p.0) z ≡ true → Expr-F.Unary operator p.0 ≡ z
unary_sound operator p (Expr-F.Unary other x) h =
    let parts = and_parts (same_unary operator other) (same_condition p.0 x) h in
    let a = unaries.sound operator other parts.0 in
    let b = p.1.sound x parts.1 in
    λ i. Expr-F.Unary (a i) (b i)
unary_sound operator p _ h = never h

binary_sound : (operator : Binary) (p q : PCondition) (z : Layer) → is_binary operator (same_condition p.0) (same_condition q.0) z ≡ true → Expr-F.Binary operator p.0 q.0 ≡ z
binary_sound operator p q (Expr-F.Binary other x y) h =
    let parts = and_parts (same_binary operator other) (same_condition p.0 x && same_condition q.0 y) h in
    let others = and_parts (same_condition p.0 x) (same_condition q.0 y) parts.1 in
    let a = binaries.sound operator other parts.0 in
    let b = p.1.sound x others.0 in
    let c = q.1.sound y others.1 in
    λ i. Expr-F.Binary (a i) (b i) (c i)
binary_sound operator p q _ h = never h

ternary_sound : (operator : Ternary) (p q r : PCondition) (z : Layer) → is_ternary operator (same_condition p.0) (same_condition q.0) (same_condition r.0) z ≡ true → Expr-F.Ternary operator p.0 q.0 r.0 ≡ z
ternary_sound operator p q r (Expr-F.Ternary other x y z) h =
    let parts = and_parts (same_ternary operator other) (same_condition p.0 x && (same_condition q.0 y && same_condition r.0 z)) h in
    let others = and_parts (same_condition p.0 x) (same_condition q.0 y && same_condition r.0 z) parts.1 in
    let last = and_parts (same_condition q.0 y) (same_condition r.0 z) others.1 in
    let a = ternaries.sound operator other parts.0 in
    let b = p.1.sound x others.0 in
    let c = q.1.sound y last.0 in
    let d = r.1.sound z last.1 in
    λ i. Expr-F.Ternary (a i) (b i) (c i) (d i)
ternary_sound operator p q r _ h = never h

abbrev bare_items : List PItem → List ListItem
bare_items = map (part_of same_item is_plain_item)

abbrev bare_arms : List PArm → List CaseArm
bare_arms = map (part_of same_arm is_plain_arm)

abbrev bare_operands : List PCondition → List Expr
bare_operands = map (part_of same_condition is_plain)

in_list_sound : (p : PCondition) (negated : Bool) (list : List PItem) (z : Layer) → is_in_list (same_condition p.0) negated (map same_item (bare_items list)) z ≡ true → Expr-F.InList p.0 negated (bare_items list) ≡ z
in_list_sound p negated list (Expr-F.InList x other items) h =
    let parts = and_parts (same_condition p.0 x) (same_truth negated other && are (map same_item (bare_items list)) items) h in
    let others = and_parts (same_truth negated other) (are (map same_item (bare_items list)) items) parts.1 in
    let a = p.1.sound x parts.0 in
    let b = truths.sound negated other others.0 in
    let c = all_sound same_item is_plain_item list items others.1 in
    λ i. Expr-F.InList (a i) (b i) (c i)
in_list_sound p negated list _ h = never h

bare_case_sound : (kind : Kind) (arms : List PArm) (z : Layer) → is_case kind (map same_arm (bare_arms arms)) None z ≡ true → Expr-F.Case kind (bare_arms arms) None ≡ z
bare_case_sound kind arms (Expr-F.Case other others None) h =
    let parts = and_parts (same_kind kind other) (are (map same_arm (bare_arms arms)) others && true) h in
    let more = and_parts (are (map same_arm (bare_arms arms)) others) true parts.1 in
    let a = kinds.sound kind other parts.0 in
    let b = all_sound same_arm is_plain_arm arms others more.0 in
    λ i. Expr-F.Case (a i) (b i) None
bare_case_sound kind arms (Expr-F.Case other others (Some e)) h =
    let parts = and_parts (same_kind kind other) (are (map same_arm (bare_arms arms)) others && false) h in
    let more = and_parts (are (map same_arm (bare_arms arms)) others) false parts.1 in
    never more.1
bare_case_sound kind arms _ h = never h

case_sound : (kind : Kind) (arms : List PArm) (p : PCondition) (z : Layer) → is_case kind (map same_arm (bare_arms arms)) (Some (same_condition p.0)) z ≡ true → Expr-F.Case kind (bare_arms arms) (Some p.0) ≡ z
case_sound kind arms p (Expr-F.Case other others (Some e)) h =
    let parts = and_parts (same_kind kind other) (are (map same_arm (bare_arms arms)) others && same_condition p.0 e) h in
    let more = and_parts (are (map same_arm (bare_arms arms)) others) (same_condition p.0 e) parts.1 in
    let a = kinds.sound kind other parts.0 in
    let b = all_sound same_arm is_plain_arm arms others more.0 in
    let c = p.1.sound e more.1 in
    λ i. Expr-F.Case (a i) (b i) (Some (c i))
case_sound kind arms p (Expr-F.Case other others None) h =
    let parts = and_parts (same_kind kind other) (are (map same_arm (bare_arms arms)) others && false) h in
    let more = and_parts (are (map same_arm (bare_arms arms)) others) false parts.1 in
    never more.1
case_sound kind arms p _ h = never h

coalesce_sound : (kind : Kind) (operands : List PCondition) (z : Layer) → is_coalesce kind (map same_condition (bare_operands operands)) z ≡ true → Expr-F.Coalesce kind (bare_operands operands) ≡ z
coalesce_sound kind operands (Expr-F.Coalesce other others) h =
    let parts = and_parts (same_kind kind other) (are (map same_condition (bare_operands operands)) others) h in
    let a = kinds.sound kind other parts.0 in
    let b = all_sound same_condition is_plain operands others parts.1 in
    λ i. Expr-F.Coalesce (a i) (b i)
coalesce_sound kind operands _ h = never h

layer_sound : (y : PartLayer) (z : Layer) → is_layer (condition_tests (bare_condition y)) z ≡ true → bare_condition y ≡ z
layer_sound (Expr-F.Literal x) z h = literal_sound x z h
layer_sound (Expr-F.ReadText text reading) z h = read_text_sound text reading z h
layer_sound (Expr-F.BadMoment timestamp text) z h = bad_moment_sound timestamp text z h
layer_sound (Expr-F.Column outward at) z h = column_sound outward at z h
layer_sound (Expr-F.Unary operator p) z h = unary_sound operator p z h
layer_sound (Expr-F.Binary operator p q) z h = binary_sound operator p q z h
layer_sound (Expr-F.Ternary operator p q r) z h = ternary_sound operator p q r z h
layer_sound (Expr-F.InList p negated list) z h = in_list_sound p negated list z h
layer_sound (Expr-F.InQuery p negated q) z h = never h
layer_sound (Expr-F.Exists q) z h = never h
layer_sound (Expr-F.Subquery q) z h = never h
layer_sound (Expr-F.Case kind arms None) z h = bare_case_sound kind arms z h
layer_sound (Expr-F.Case kind arms (Some p)) z h = case_sound kind arms p z h
layer_sound (Expr-F.Coalesce kind operands) z h = coalesce_sound kind operands z h
layer_sound Expr-F.CountRows z h = never h
layer_sound (Expr-F.Aggregate function distinct p) z h = never h

-- ---- plain layers are the same as themselves

layer_itself : (y : PartLayer) → plain.of_expression (condition_plains (bare_condition y)) ≡ true → is_layer (condition_tests (bare_condition y)) (bare_condition y) ≡ true
layer_itself (Expr-F.Literal x) h = values.itself x
layer_itself (Expr-F.ReadText text reading) h = both (bytes_eq text text) (same_reading reading reading) ((bytes_eq-Decides text text).1 refl) (readings.itself reading)
layer_itself (Expr-F.BadMoment timestamp text) h = both (same_truth timestamp timestamp) (bytes_eq text text) (truths.itself timestamp) ((bytes_eq-Decides text text).1 refl)
layer_itself (Expr-F.Column outward at) h = both (outward == outward) (at == at) (numbers.itself outward) (numbers.itself at)
layer_itself (Expr-F.Unary operator p) h = both (same_unary operator operator) (same_condition p.0 p.0) (unaries.itself operator) (p.1.itself h)
layer_itself (Expr-F.Binary operator p q) h =
    let plains = and_parts (is_plain p.0) (is_plain q.0) h in
    both (same_binary operator operator) (same_condition p.0 p.0 && same_condition q.0 q.0) (binaries.itself operator)
    (both (same_condition p.0 p.0) (same_condition q.0 q.0) (p.1.itself plains.0) (q.1.itself plains.1))
layer_itself (Expr-F.Ternary operator p q r) h =
    let plains = and_parts (is_plain p.0 && is_plain q.0) (is_plain r.0) h in
    let more = and_parts (is_plain p.0) (is_plain q.0) plains.0 in
    both (same_ternary operator operator) (same_condition p.0 p.0 && (same_condition q.0 q.0 && same_condition r.0 r.0)) (ternaries.itself operator)
    (both (same_condition p.0 p.0) (same_condition q.0 q.0 && same_condition r.0 r.0) (p.1.itself more.0) (both (same_condition q.0 q.0) (same_condition r.0 r.0) (q.1.itself more.1) (r.1.itself plains.1)))
layer_itself (Expr-F.InList p negated list) h =
    let plains = and_parts (is_plain p.0) (every (map is_plain_item (bare_items list))) h in
    both (same_condition p.0 p.0) (same_truth negated negated && are (map same_item (bare_items list)) (bare_items list)) (p.1.itself plains.0)
    (both (same_truth negated negated) (are (map same_item (bare_items list)) (bare_items list)) (truths.itself negated) (all_itself same_item is_plain_item list plains.1))
layer_itself (Expr-F.InQuery p negated q) h = never h
layer_itself (Expr-F.Exists q) h = never h
layer_itself (Expr-F.Subquery q) h = never h
layer_itself (Expr-F.Case kind arms None) h =
    let plains = and_parts (every (map is_plain_arm (bare_arms arms))) true h in
    both (same_kind kind kind) (are (map same_arm (bare_arms arms)) (bare_arms arms) && true) (kinds.itself kind)
    (both (are (map same_arm (bare_arms arms)) (bare_arms arms)) true (all_itself same_arm is_plain_arm arms plains.0) refl)
layer_itself (Expr-F.Case kind arms (Some p)) h =
    let plains = and_parts (every (map is_plain_arm (bare_arms arms))) (is_plain p.0) h in
    both (same_kind kind kind) (are (map same_arm (bare_arms arms)) (bare_arms arms) && same_condition p.0 p.0) (kinds.itself kind)
    (both (are (map same_arm (bare_arms arms)) (bare_arms arms)) (same_condition p.0 p.0) (all_itself same_arm is_plain_arm arms plains.0) (p.1.itself plains.1))
layer_itself (Expr-F.Coalesce kind operands) h = both (same_kind kind kind) (are (map same_condition (bare_operands operands)) (bare_operands operands)) (kinds.itself kind) (all_itself same_condition is_plain operands h)
layer_itself Expr-F.CountRows h = never h
layer_itself (Expr-F.Aggregate function distinct p) h = never h

-- ---- a tree is what its layers make

rolled : (e : Expr) → roll-Expr (out-Expr e) ≡ e
rolled =
    ind-Expr (λ e. roll-Expr (out-Expr e) ≡ e) (λ x. Unit {0}) (λ x. Unit {0}) (λ x. Unit {0}) (λ x. Unit {0}) (λ x. Unit {0}) (λ x. Unit {0}) (λ x. Unit {0}) (λ x. Unit {0}) (λ x. Unit {0}) (λ x. Unit {0}) (λ x. Unit {0})
    (λ x y is. ap roll-Expr (out-roll-Expr x))
    (λ x y is. tt)
    (λ x y is. tt)
    (λ x y is. tt)
    (λ x y is. tt)
    (λ x y is. tt)
    (λ x y is. tt)
    (λ x y is. tt)
    (λ x y is. tt)
    (λ x y is. tt)
    (λ x y is. tt)
    (λ x y is. tt)

rolled_arm : (e : CaseArm) → roll-CaseArm (out-CaseArm e) ≡ e
rolled_arm =
    ind-CaseArm (λ x. Unit {0}) (λ x. Unit {0}) (λ x. Unit {0}) (λ x. Unit {0}) (λ x. Unit {0}) (λ e. roll-CaseArm (out-CaseArm e) ≡ e) (λ x. Unit {0}) (λ x. Unit {0}) (λ x. Unit {0}) (λ x. Unit {0}) (λ x. Unit {0}) (λ x. Unit {0})
    (λ x y is. tt)
    (λ x y is. tt)
    (λ x y is. tt)
    (λ x y is. tt)
    (λ x y is. tt)
    (λ x y is. ap roll-CaseArm (out-roll-CaseArm x))
    (λ x y is. tt)
    (λ x y is. tt)
    (λ x y is. tt)
    (λ x y is. tt)
    (λ x y is. tt)
    (λ x y is. tt)

rolled_item : (e : ListItem) → roll-ListItem (out-ListItem e) ≡ e
rolled_item =
    ind-ListItem (λ x. Unit {0}) (λ x. Unit {0}) (λ x. Unit {0}) (λ x. Unit {0}) (λ x. Unit {0}) (λ x. Unit {0}) (λ e. roll-ListItem (out-ListItem e) ≡ e) (λ x. Unit {0}) (λ x. Unit {0}) (λ x. Unit {0}) (λ x. Unit {0}) (λ x. Unit {0})
    (λ x y is. tt)
    (λ x y is. tt)
    (λ x y is. tt)
    (λ x y is. tt)
    (λ x y is. tt)
    (λ x y is. tt)
    (λ x y is. ap roll-ListItem (out-roll-ListItem x))
    (λ x y is. tt)
    (λ x y is. tt)
    (λ x y is. tt)
    (λ x y is. tt)
    (λ x y is. tt)

-- ---- whole expressions

condition_known : (y : PartLayer) → OnExpr (roll-Expr (bare_condition y))
condition_known y = record {
  sound = λ e h.
      let told : is_layer (condition_tests (bare_condition y)) (out-Expr e) ≡ true = sym (λ i. condition_is (bare_condition y) i e) ∙ h in
      ap roll-Expr (layer_sound y (out-Expr e) told) ∙ rolled e;
  itself = λ h.
      (λ i. condition_is (bare_condition y) i (roll-Expr (bare_condition y))) ∙ ap (is_layer (condition_tests (bare_condition y))) (out-roll-Expr (bare_condition y)) ∙ layer_itself y (condition_plain (bare_condition y) h);
}

arm_known : (y : CaseArm-F PCondition (Other Join) (Other Key) (Other QueryBody) (Other Source) PArm PItem (Other FromItem) (Other Query) (Other Select) (Other SortKey) (Other ValuesRow)) → OnCaseArm (roll-CaseArm (bare_arm y))
arm_known y = record {
  sound = λ e h.
      let told : (same_condition y.test.0 (out-CaseArm e).test && same_condition y.value.0 (out-CaseArm e).value) ≡ true = sym (λ i. arm_is (bare_arm y) i e) ∙ h in
      let parts = and_parts (same_condition y.test.0 (out-CaseArm e).test) (same_condition y.value.0 (out-CaseArm e).value) told in
      let test = y.test.1.sound (out-CaseArm e).test parts.0 in
      let value = y.value.1.sound (out-CaseArm e).value parts.1 in
      (λ i. roll-CaseArm (record { test = test i; value = value i })) ∙ rolled_arm e;
  itself = λ h.
      let plains = and_parts (is_plain y.test.0) (is_plain y.value.0) (arm_plain (bare_arm y) h) in
      (λ i. arm_is (bare_arm y) i (roll-CaseArm (bare_arm y))) ∙ (λ i. same_condition y.test.0 (out-roll-CaseArm (bare_arm y) i).test && same_condition y.value.0 (out-roll-CaseArm (bare_arm y) i).value)
      ∙ both (same_condition y.test.0 y.test.0) (same_condition y.value.0 y.value.0) (y.test.1.itself plains.0) (y.value.1.itself plains.1);
}

item_known : (y : ListItem-F PCondition (Other Join) (Other Key) (Other QueryBody) (Other Source) PArm PItem (Other FromItem) (Other Query) (Other Select) (Other SortKey) (Other ValuesRow)) → OnListItem (roll-ListItem (bare_item y))
item_known y = record {
  sound = λ e h.
      let told : (same_option same_reading y.reading (out-ListItem e).reading && same_condition y.value.0 (out-ListItem e).value) ≡ true = sym (λ i. item_is (bare_item y) i e) ∙ h in
      let parts = and_parts (same_option same_reading y.reading (out-ListItem e).reading) (same_condition y.value.0 (out-ListItem e).value) told in
      let reading = (options same_reading readings).sound y.reading (out-ListItem e).reading parts.0 in
      let value = y.value.1.sound (out-ListItem e).value parts.1 in
      (λ i. roll-ListItem (record { reading = reading i; value = value i })) ∙ rolled_item e;
  itself = λ h.
      (λ i. item_is (bare_item y) i (roll-ListItem (bare_item y))) ∙ (λ i. same_option same_reading y.reading (out-roll-ListItem (bare_item y) i).reading && same_condition y.value.0 (out-roll-ListItem (bare_item y) i).value)
      ∙ both (same_option same_reading y.reading y.reading) (same_condition y.value.0 y.value.0) ((options same_reading readings).itself y.reading) (y.value.1.itself (item_plain (bare_item y) h));
}

known : (e : Expr) → OnExpr e
known =
    ind-Expr OnExpr (λ x. Unit {0}) (λ x. Unit {0}) (λ x. Unit {0}) (λ x. Unit {0}) OnCaseArm OnListItem (λ x. Unit {0}) (λ x. Unit {0}) (λ x. Unit {0}) (λ x. Unit {0}) (λ x. Unit {0})
    (λ x y is. subst (λ z. OnExpr (roll-Expr z)) is (condition_known y))
    (λ x y is. tt)
    (λ x y is. tt)
    (λ x y is. tt)
    (λ x y is. tt)
    (λ x y is. subst (λ z. OnCaseArm (roll-CaseArm z)) is (arm_known y))
    (λ x y is. subst (λ z. OnListItem (roll-ListItem z)) is (item_known y))
    (λ x y is. tt)
    (λ x y is. tt)
    (λ x y is. tt)
    (λ x y is. tt)
    (λ x y is. tt)

pub sound : (a b : Expr) → same_condition a b ≡ true → a ≡ b
sound a b h = (known a).sound b h

pub complete : (a b : Expr) → is_plain a ≡ true → a ≡ b → same_condition a b ≡ true
complete a b p e = ap (same_condition a) (sym e) ∙ (known a).itself p

-- ---- what a reader gives

same_found : (a e : Expr) → Some a ≡ Some e → a ≡ e
same_found a e h = cc

none_found : (e : Expr) → None ≡ Some e → false ≡ true
none_found e h = absurd (cc)

pub gives_told : (found : Option Expr) (e : Expr) → Decides (gives found e) ((is_plain e ≡ true) × (found ≡ Some e))
gives_told None e = (λ h. never h, λ h. none_found e h.1)
gives_told (Some a) e = (
  λ h. (let parts = and_parts (is_plain e) (same_condition e a) h in (parts.0, ap Some (sym (sound e a parts.1)))),
  λ h. both (is_plain e) (same_condition e a) h.0 (complete e a h.0 (sym (same_found a e h.1))),
)
