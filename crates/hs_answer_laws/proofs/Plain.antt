-- An expression without subqueries gives the same whatever rows the tables have.
use Rattle.std.proofs.Common.{◌≡◌, Bool, true, false, ◌&&◌, List, [], ◌∷◌, map, None, Some, refl, sym, subst, ◌∙◌}
use Rattle.hs_plan.specs.declared.expression.CaseArm.{CaseArm, roll-CaseArm, fold-roll-CaseArm}
use Rattle.hs_plan.specs.declared.expression.Expr.{Expr, roll-Expr, fold-roll-Expr, ind-Expr}
use Rattle.hs_plan.specs.declared.expression.ListItem.{ListItem, roll-ListItem, fold-roll-ListItem}
use Rattle.hs_plan.specs.declared.query.FromItem.{FromItem, fold-FromItem}
use Rattle.hs_plan.specs.declared.query.Join.{Join, fold-Join}
use Rattle.hs_plan.specs.declared.query.Key.{Key, fold-Key}
use Rattle.hs_plan.specs.declared.query.Query.{Query, fold-Query}
use Rattle.hs_plan.specs.declared.query.QueryBody.{QueryBody, fold-QueryBody}
use Rattle.hs_plan.specs.declared.query.Select.{Select, fold-Select}
use Rattle.hs_plan.specs.declared.query.SortKey.{SortKey, fold-SortKey}
use Rattle.hs_plan.specs.declared.query.Source.{Source, fold-Source}
use Rattle.hs_plan.specs.declared.query.ValuesRow.{ValuesRow, fold-ValuesRow}
use Rattle.hs_plan.specs.declared.expression.Expr.TheFolds.{map-Expr, map-CaseArm, map-ListItem}
use Rattle.hs_plan.specs.declared.expression.Expr.TheOpen.{Expr-F, CaseArm-F, ListItem-F}
use Rattle.hs_changes.specs.Settings.{Maps}
use Rattle.hs_expression.specs.Expression.{Arm, Listed, Nothing, arm_of, item_of, no_rows, none, of_arm, of_expression, of_item, value_of}
use Rattle.hs_expression.specs.Plain as plain
use Rattle.hs_expression.specs.Plain.{all, arm_is_plain, is_plain, item_is_plain, no_part}
use Rattle.hs_expression.specs.Surroundings.{Answered, Surroundings, Valued}
use Rattle.hs_answer.specs.Answer.{arm_in, item_in, value_in}
use Rattle.hs_answer_laws.proofs.Layers.{arm_gives, item_gives, value_gives}

-- ---- the parts that are no expressions

abbrev alone_join : Join → Nothing
alone_join = fold-Join Valued Nothing Nothing Nothing Nothing Arm Listed Nothing Answered Nothing Nothing Nothing of_expression none none none none of_arm of_item none no_rows none none none

abbrev plain_join : Join → Bool
plain_join = fold-Join Bool Bool Bool Bool Bool Bool Bool Bool Bool Bool Bool Bool plain.of_expression no_part no_part no_part no_part plain.of_arm plain.of_item no_part no_part no_part no_part no_part

abbrev alone_key : Key → Nothing
alone_key = fold-Key Valued Nothing Nothing Nothing Nothing Arm Listed Nothing Answered Nothing Nothing Nothing of_expression none none none none of_arm of_item none no_rows none none none

abbrev plain_key : Key → Bool
plain_key = fold-Key Bool Bool Bool Bool Bool Bool Bool Bool Bool Bool Bool Bool plain.of_expression no_part no_part no_part no_part plain.of_arm plain.of_item no_part no_part no_part no_part no_part

abbrev alone_body : QueryBody → Nothing
alone_body = fold-QueryBody Valued Nothing Nothing Nothing Nothing Arm Listed Nothing Answered Nothing Nothing Nothing of_expression none none none none of_arm of_item none no_rows none none none

abbrev plain_body : QueryBody → Bool
plain_body = fold-QueryBody Bool Bool Bool Bool Bool Bool Bool Bool Bool Bool Bool Bool plain.of_expression no_part no_part no_part no_part plain.of_arm plain.of_item no_part no_part no_part no_part no_part

abbrev alone_source : Source → Nothing
alone_source = fold-Source Valued Nothing Nothing Nothing Nothing Arm Listed Nothing Answered Nothing Nothing Nothing of_expression none none none none of_arm of_item none no_rows none none none

abbrev plain_source : Source → Bool
plain_source = fold-Source Bool Bool Bool Bool Bool Bool Bool Bool Bool Bool Bool Bool plain.of_expression no_part no_part no_part no_part plain.of_arm plain.of_item no_part no_part no_part no_part no_part

abbrev alone_element : FromItem → Nothing
alone_element = fold-FromItem Valued Nothing Nothing Nothing Nothing Arm Listed Nothing Answered Nothing Nothing Nothing of_expression none none none none of_arm of_item none no_rows none none none

abbrev plain_element : FromItem → Bool
plain_element = fold-FromItem Bool Bool Bool Bool Bool Bool Bool Bool Bool Bool Bool Bool plain.of_expression no_part no_part no_part no_part plain.of_arm plain.of_item no_part no_part no_part no_part no_part

abbrev alone_query : Query → Answered
alone_query = fold-Query Valued Nothing Nothing Nothing Nothing Arm Listed Nothing Answered Nothing Nothing Nothing of_expression none none none none of_arm of_item none no_rows none none none

abbrev plain_query : Query → Bool
plain_query = fold-Query Bool Bool Bool Bool Bool Bool Bool Bool Bool Bool Bool Bool plain.of_expression no_part no_part no_part no_part plain.of_arm plain.of_item no_part no_part no_part no_part no_part

abbrev alone_select : Select → Nothing
alone_select = fold-Select Valued Nothing Nothing Nothing Nothing Arm Listed Nothing Answered Nothing Nothing Nothing of_expression none none none none of_arm of_item none no_rows none none none

abbrev plain_select : Select → Bool
plain_select = fold-Select Bool Bool Bool Bool Bool Bool Bool Bool Bool Bool Bool Bool plain.of_expression no_part no_part no_part no_part plain.of_arm plain.of_item no_part no_part no_part no_part no_part

abbrev alone_sort_key : SortKey → Nothing
alone_sort_key = fold-SortKey Valued Nothing Nothing Nothing Nothing Arm Listed Nothing Answered Nothing Nothing Nothing of_expression none none none none of_arm of_item none no_rows none none none

abbrev plain_sort_key : SortKey → Bool
plain_sort_key = fold-SortKey Bool Bool Bool Bool Bool Bool Bool Bool Bool Bool Bool Bool plain.of_expression no_part no_part no_part no_part plain.of_arm plain.of_item no_part no_part no_part no_part no_part

abbrev alone_row : ValuesRow → Nothing
alone_row = fold-ValuesRow Valued Nothing Nothing Nothing Nothing Arm Listed Nothing Answered Nothing Nothing Nothing of_expression none none none none of_arm of_item none no_rows none none none

abbrev plain_row : ValuesRow → Bool
plain_row = fold-ValuesRow Bool Bool Bool Bool Bool Bool Bool Bool Bool Bool Bool Bool plain.of_expression no_part no_part no_part no_part plain.of_arm plain.of_item no_part no_part no_part no_part no_part

left_true : (a b : Bool) → (a && b) ≡ true → a ≡ true
left_true true b h = refl
left_true false b h = h

right_true : (a b : Bool) → (a && b) ≡ true → b ≡ true
right_true true b h = h
right_true false b h = absurd (cc)

-- ---- lists of parts, and parts that may be left out

module _ {T X : Type 0} (plain : T → Bool) (f g : T → X) where
  abbrev Same : T → Type 0
  Same x = plain x ≡ true → f x ≡ g x

  abbrev Part : Type 0
  Part = (x : T) × Same x

  abbrev part_of : Part → T
  part_of p = p.0

  all_same : (parts : List Part) → all (map plain (map part_of parts)) ≡ true → map f (map part_of parts) ≡ map g (map part_of parts)
  all_same [] h = refl
  all_same (p ∷ parts) h =
      let first = p.1 (left_true (plain p.0) (all (map plain (map part_of parts))) h) in
      let rest = all_same parts (right_true (plain p.0) (all (map plain (map part_of parts))) h) in
      λ i. first i ∷ rest i

-- a part that isn't looked at
abbrev Other : Type 0 → Type 0
Other T = T × Unit {0}

abbrev other_of : {T : Type 0} → Other T → T
other_of p = p.0

module _ (tables : Maps) where
  abbrev OnValue : Expr → Type 0
  OnValue = Same is_plain (value_in tables) value_of

  abbrev PValue : Type 0
  PValue = Part is_plain (value_in tables) value_of

  abbrev OnArm : CaseArm → Type 0
  OnArm = Same arm_is_plain (arm_in tables) arm_of

  abbrev PArm : Type 0
  PArm = Part arm_is_plain (arm_in tables) arm_of

  abbrev OnItem : ListItem → Type 0
  OnItem = Same item_is_plain (item_in tables) item_of

  abbrev PItem : Type 0
  PItem = Part item_is_plain (item_in tables) item_of

  -- ---- a layer gives the same where its parts do

  abbrev bare_value : Expr-F PValue (Other Join) (Other Key) (Other QueryBody) (Other Source) PArm PItem (Other FromItem) (Other Query) (Other Select) (Other SortKey) (Other ValuesRow) → Expr-F Expr Join Key QueryBody Source CaseArm ListItem FromItem Query Select SortKey ValuesRow
  bare_value = map-Expr PValue (Other Join) (Other Key) (Other QueryBody) (Other Source) PArm PItem (Other FromItem) (Other Query) (Other Select) (Other SortKey) (Other ValuesRow) Expr Join Key QueryBody Source CaseArm ListItem FromItem Query Select SortKey ValuesRow (part_of is_plain (value_in tables) value_of) other_of other_of other_of other_of (part_of arm_is_plain (arm_in tables) arm_of) (part_of item_is_plain (item_in tables) item_of) other_of other_of other_of other_of other_of

  abbrev value_layer : Expr-F Valued Nothing Nothing Nothing Nothing Arm Listed Nothing Answered Nothing Nothing Nothing → Valued
  value_layer = of_expression

  value_alone : (x : Expr-F Expr Join Key QueryBody Source CaseArm ListItem FromItem Query Select SortKey ValuesRow) → value_of (roll-Expr x) ≡ value_layer (map-Expr Expr Join Key QueryBody Source CaseArm ListItem FromItem Query Select SortKey ValuesRow Valued Nothing Nothing Nothing Nothing Arm Listed Nothing Answered Nothing Nothing Nothing value_of alone_join alone_key alone_body alone_source arm_of item_of alone_element alone_query alone_select alone_sort_key alone_row x)
  value_alone x = fold-roll-Expr Valued Nothing Nothing Nothing Nothing Arm Listed Nothing Answered Nothing Nothing Nothing of_expression none none none none of_arm of_item none no_rows none none none x

  value_plain : (x : Expr-F Expr Join Key QueryBody Source CaseArm ListItem FromItem Query Select SortKey ValuesRow) → is_plain (roll-Expr x) ≡ true → plain.of_expression (map-Expr Expr Join Key QueryBody Source CaseArm ListItem FromItem Query Select SortKey ValuesRow Bool Bool Bool Bool Bool Bool Bool Bool Bool Bool Bool Bool is_plain plain_join plain_key plain_body plain_source arm_is_plain item_is_plain plain_element plain_query plain_select plain_sort_key plain_row x) ≡ true
  value_plain x h = sym (fold-roll-Expr Bool Bool Bool Bool Bool Bool Bool Bool Bool Bool Bool Bool plain.of_expression no_part no_part no_part no_part plain.of_arm plain.of_item no_part no_part no_part no_part no_part x) ∙ h

  abbrev bare_arm : CaseArm-F PValue (Other Join) (Other Key) (Other QueryBody) (Other Source) PArm PItem (Other FromItem) (Other Query) (Other Select) (Other SortKey) (Other ValuesRow) → CaseArm-F Expr Join Key QueryBody Source CaseArm ListItem FromItem Query Select SortKey ValuesRow
  bare_arm = map-CaseArm PValue (Other Join) (Other Key) (Other QueryBody) (Other Source) PArm PItem (Other FromItem) (Other Query) (Other Select) (Other SortKey) (Other ValuesRow) Expr Join Key QueryBody Source CaseArm ListItem FromItem Query Select SortKey ValuesRow (part_of is_plain (value_in tables) value_of) other_of other_of other_of other_of (part_of arm_is_plain (arm_in tables) arm_of) (part_of item_is_plain (item_in tables) item_of) other_of other_of other_of other_of other_of

  abbrev arm_layer : CaseArm-F Valued Nothing Nothing Nothing Nothing Arm Listed Nothing Answered Nothing Nothing Nothing → Arm
  arm_layer = of_arm

  arm_alone : (x : CaseArm-F Expr Join Key QueryBody Source CaseArm ListItem FromItem Query Select SortKey ValuesRow) → arm_of (roll-CaseArm x) ≡ arm_layer (map-CaseArm Expr Join Key QueryBody Source CaseArm ListItem FromItem Query Select SortKey ValuesRow Valued Nothing Nothing Nothing Nothing Arm Listed Nothing Answered Nothing Nothing Nothing value_of alone_join alone_key alone_body alone_source arm_of item_of alone_element alone_query alone_select alone_sort_key alone_row x)
  arm_alone x = fold-roll-CaseArm Valued Nothing Nothing Nothing Nothing Arm Listed Nothing Answered Nothing Nothing Nothing of_expression none none none none of_arm of_item none no_rows none none none x

  arm_plain : (x : CaseArm-F Expr Join Key QueryBody Source CaseArm ListItem FromItem Query Select SortKey ValuesRow) → arm_is_plain (roll-CaseArm x) ≡ true → plain.of_arm (map-CaseArm Expr Join Key QueryBody Source CaseArm ListItem FromItem Query Select SortKey ValuesRow Bool Bool Bool Bool Bool Bool Bool Bool Bool Bool Bool Bool is_plain plain_join plain_key plain_body plain_source arm_is_plain item_is_plain plain_element plain_query plain_select plain_sort_key plain_row x) ≡ true
  arm_plain x h = sym (fold-roll-CaseArm Bool Bool Bool Bool Bool Bool Bool Bool Bool Bool Bool Bool plain.of_expression no_part no_part no_part no_part plain.of_arm plain.of_item no_part no_part no_part no_part no_part x) ∙ h

  abbrev bare_item : ListItem-F PValue (Other Join) (Other Key) (Other QueryBody) (Other Source) PArm PItem (Other FromItem) (Other Query) (Other Select) (Other SortKey) (Other ValuesRow) → ListItem-F Expr Join Key QueryBody Source CaseArm ListItem FromItem Query Select SortKey ValuesRow
  bare_item = map-ListItem PValue (Other Join) (Other Key) (Other QueryBody) (Other Source) PArm PItem (Other FromItem) (Other Query) (Other Select) (Other SortKey) (Other ValuesRow) Expr Join Key QueryBody Source CaseArm ListItem FromItem Query Select SortKey ValuesRow (part_of is_plain (value_in tables) value_of) other_of other_of other_of other_of (part_of arm_is_plain (arm_in tables) arm_of) (part_of item_is_plain (item_in tables) item_of) other_of other_of other_of other_of other_of

  abbrev item_layer : ListItem-F Valued Nothing Nothing Nothing Nothing Arm Listed Nothing Answered Nothing Nothing Nothing → Listed
  item_layer = of_item

  item_alone : (x : ListItem-F Expr Join Key QueryBody Source CaseArm ListItem FromItem Query Select SortKey ValuesRow) → item_of (roll-ListItem x) ≡ item_layer (map-ListItem Expr Join Key QueryBody Source CaseArm ListItem FromItem Query Select SortKey ValuesRow Valued Nothing Nothing Nothing Nothing Arm Listed Nothing Answered Nothing Nothing Nothing value_of alone_join alone_key alone_body alone_source arm_of item_of alone_element alone_query alone_select alone_sort_key alone_row x)
  item_alone x = fold-roll-ListItem Valued Nothing Nothing Nothing Nothing Arm Listed Nothing Answered Nothing Nothing Nothing of_expression none none none none of_arm of_item none no_rows none none none x

  item_plain : (x : ListItem-F Expr Join Key QueryBody Source CaseArm ListItem FromItem Query Select SortKey ValuesRow) → item_is_plain (roll-ListItem x) ≡ true → plain.of_item (map-ListItem Expr Join Key QueryBody Source CaseArm ListItem FromItem Query Select SortKey ValuesRow Bool Bool Bool Bool Bool Bool Bool Bool Bool Bool Bool Bool is_plain plain_join plain_key plain_body plain_source arm_is_plain item_is_plain plain_element plain_query plain_select plain_sort_key plain_row x) ≡ true
  item_plain x h = sym (fold-roll-ListItem Bool Bool Bool Bool Bool Bool Bool Bool Bool Bool Bool Bool plain.of_expression no_part no_part no_part no_part plain.of_arm plain.of_item no_part no_part no_part no_part no_part x) ∙ h

  false_is_true : {A : Type 0} → false ≡ true → A
  false_is_true h = absurd (cc)

  -- ---- expressions

  value_step : (y : Expr-F PValue (Other Join) (Other Key) (Other QueryBody) (Other Source) PArm PItem (Other FromItem) (Other Query) (Other Select) (Other SortKey) (Other ValuesRow)) → OnValue (roll-Expr (bare_value y))
  value_step (Expr-F.Literal x) h = value_gives tables (Expr-F.Literal x) ∙ sym (value_alone (Expr-F.Literal x))
  value_step (Expr-F.ReadText text reading) h = value_gives tables (Expr-F.ReadText text reading) ∙ sym (value_alone (Expr-F.ReadText text reading))
  value_step (Expr-F.BadMoment timestamp text) h = value_gives tables (Expr-F.BadMoment timestamp text) ∙ sym (value_alone (Expr-F.BadMoment timestamp text))
  value_step (Expr-F.Column outward at) h = value_gives tables (Expr-F.Column outward at) ∙ sym (value_alone (Expr-F.Column outward at))
  value_step (Expr-F.Unary operator p) h =
      let x = Expr-F.Unary operator p.0 in
      let same = p.1 (value_plain x h) in
      value_gives tables x ∙ (λ i. value_layer (Expr-F.Unary operator (same i))) ∙ sym (value_alone x)
  value_step (Expr-F.Binary operator p q) h =
      let x = Expr-F.Binary operator p.0 q.0 in
      let both = value_plain x h in
      let a = p.1 (left_true (is_plain p.0) (is_plain q.0) both) in
      let b = q.1 (right_true (is_plain p.0) (is_plain q.0) both) in
      value_gives tables x ∙ (λ i. value_layer (Expr-F.Binary operator (a i) (b i))) ∙ sym (value_alone x)
  value_step (Expr-F.Ternary operator p q r) h =
      let x = Expr-F.Ternary operator p.0 q.0 r.0 in
      let three = value_plain x h in
      let both = right_true (is_plain p.0) (is_plain q.0 && is_plain r.0) three in
      let a = p.1 (left_true (is_plain p.0) (is_plain q.0 && is_plain r.0) three) in
      let b = q.1 (left_true (is_plain q.0) (is_plain r.0) both) in
      let c = r.1 (right_true (is_plain q.0) (is_plain r.0) both) in
      value_gives tables x ∙ (λ i. value_layer (Expr-F.Ternary operator (a i) (b i) (c i))) ∙ sym (value_alone x)
  value_step (Expr-F.InList p negated list) h =
      let items = map (part_of item_is_plain (item_in tables) item_of) list in
      let x = Expr-F.InList p.0 negated items in
      let both = value_plain x h in
      let a = p.1 (left_true (is_plain p.0) (all (map item_is_plain items)) both) in
      let b = all_same item_is_plain (item_in tables) item_of list (right_true (is_plain p.0) (all (map item_is_plain items)) both) in
      value_gives tables x ∙ (λ i. value_layer (Expr-F.InList (a i) negated (b i))) ∙ sym (value_alone x)
  value_step (Expr-F.InQuery p negated q) h = false_is_true (value_plain (Expr-F.InQuery p.0 negated q.0) h)
  value_step (Expr-F.Exists q) h = false_is_true (value_plain (Expr-F.Exists q.0) h)
  value_step (Expr-F.Subquery q) h = false_is_true (value_plain (Expr-F.Subquery q.0) h)
  value_step (Expr-F.Case kind arms None) h =
      let bare_arms = map (part_of arm_is_plain (arm_in tables) arm_of) arms in
      let x = Expr-F.Case kind bare_arms None in
      let a = all_same arm_is_plain (arm_in tables) arm_of arms (left_true (all (map arm_is_plain bare_arms)) true (value_plain x h)) in
      value_gives tables x ∙ (λ i. value_layer (Expr-F.Case kind (a i) None)) ∙ sym (value_alone x)
  value_step (Expr-F.Case kind arms (Some p)) h =
      let bare_arms = map (part_of arm_is_plain (arm_in tables) arm_of) arms in
      let x = Expr-F.Case kind bare_arms (Some p.0) in
      let both = value_plain x h in
      let a = all_same arm_is_plain (arm_in tables) arm_of arms (left_true (all (map arm_is_plain bare_arms)) (is_plain p.0) both) in
      let b = p.1 (right_true (all (map arm_is_plain bare_arms)) (is_plain p.0) both) in
      value_gives tables x ∙ (λ i. value_layer (Expr-F.Case kind (a i) (Some (b i)))) ∙ sym (value_alone x)
  value_step (Expr-F.Coalesce kind operands) h =
      let x = Expr-F.Coalesce kind (map (part_of is_plain (value_in tables) value_of) operands) in
      let same = all_same is_plain (value_in tables) value_of operands (value_plain x h) in
      value_gives tables x ∙ (λ i. value_layer (Expr-F.Coalesce kind (same i))) ∙ sym (value_alone x)
  value_step Expr-F.CountRows h = value_gives tables Expr-F.CountRows ∙ sym (value_alone Expr-F.CountRows)
  value_step (Expr-F.Aggregate function distinct p) h =
      let x = Expr-F.Aggregate function distinct p.0 in
      let same = p.1 (value_plain x h) in
      value_gives tables x ∙ (λ i. value_layer (Expr-F.Aggregate function distinct (same i))) ∙ sym (value_alone x)

  arm_step : (y : CaseArm-F PValue (Other Join) (Other Key) (Other QueryBody) (Other Source) PArm PItem (Other FromItem) (Other Query) (Other Select) (Other SortKey) (Other ValuesRow)) → OnArm (roll-CaseArm (bare_arm y))
  arm_step y h =
      let both = arm_plain (bare_arm y) h in
      let test = y.test.1 (left_true (is_plain y.test.0) (is_plain y.value.0) both) in
      let value = y.value.1 (right_true (is_plain y.test.0) (is_plain y.value.0) both) in
      arm_gives tables (bare_arm y) ∙ (λ i. arm_layer (record { test = test i; value = value i })) ∙ sym (arm_alone (bare_arm y))

  item_step : (y : ListItem-F PValue (Other Join) (Other Key) (Other QueryBody) (Other Source) PArm PItem (Other FromItem) (Other Query) (Other Select) (Other SortKey) (Other ValuesRow)) → OnItem (roll-ListItem (bare_item y))
  item_step y h =
      let value = y.value.1 (item_plain (bare_item y) h) in
      item_gives tables (bare_item y) ∙ (λ i. item_layer (record { reading = y.reading; value = value i })) ∙ sym (item_alone (bare_item y))

  pub value_alone_in : (e : Expr) → OnValue e
  value_alone_in =
      ind-Expr OnValue (λ x. Unit {0}) (λ x. Unit {0}) (λ x. Unit {0}) (λ x. Unit {0}) OnArm OnItem (λ x. Unit {0}) (λ x. Unit {0}) (λ x. Unit {0}) (λ x. Unit {0}) (λ x. Unit {0})
      (λ x y is. subst (λ z. OnValue (roll-Expr z)) is (value_step y))
      (λ x y is. tt)
      (λ x y is. tt)
      (λ x y is. tt)
      (λ x y is. tt)
      (λ x y is. subst (λ z. OnArm (roll-CaseArm z)) is (arm_step y))
      (λ x y is. subst (λ z. OnItem (roll-ListItem z)) is (item_step y))
      (λ x y is. tt)
      (λ x y is. tt)
      (λ x y is. tt)
      (λ x y is. tt)
      (λ x y is. tt)

pub alone_at : (tables : Maps) (e : Expr) (s : Surroundings) → is_plain e ≡ true → value_in tables e s ≡ value_of e s
alone_at tables e s plain = let same = value_alone_in tables e plain in λ i. same i s
