-- The faults of the layers of expressions name nothing with a line feed, if neither do those of their parts.
use Rattle.std.proofs.Common.{◌≡◌, ℕ, Bool, true, List, [], ◌++◌, map, Option, Some, None, refl}
use Rattle.std.specs.Option.{option_map}
use Rattle.hs_ast.specs.declared.expression.Aggregate.{Aggregate}
use Rattle.hs_ast.specs.declared.expression.ColumnName.{ColumnName}
use Rattle.hs_entries.specs.Parts.{lacks}
use Rattle.hs_meaning.specs.Expressions.{aggregate_meaning, all_in, arm_meaning, arms_in, column_meaning, condition, in_query_meaning, kinds_of, optional_in, place_meaning, subquery_meaning}
use Rattle.hs_meaning.specs.Layers.{ArmPart, Form, Part, QueryMeaning, QueryPart, means}
use Rattle.hs_meaning.specs.Parts.{Meaning, by_one, of_three, of_two, refused}
use Rattle.hs_meaning.specs.Queries.{name_in}
use Rattle.hs_meaning.specs.Surroundings.{Surroundings, may_stand}
use Rattle.hs_plan.specs.declared.expression.Expr.TheVariants as e
use Rattle.hs_plan.specs.declared.fault.Cause.TheVariants as cause
use Rattle.hs_plan.specs.declared.kind.Kind.{Kind}
use Rattle.hs_reading.proofs.SingleParts.{AreSingle, Each, OnPart, all_single, at_single, both, by_one_single, each_map, each_to, if_single, judged_single, refused_single}
use Rattle.hs_scope.specs.declared.sought.Found.{Found}
use Rattle.hs_scope.specs.declared.sought.Found.TheVariants as found
use Rattle.hs_typed.specs.Rules.{aggregate_typed, condition_typed, in_query_typed, subquery_typed}
use Rattle.hs_typed.specs.declared.typed.Typed.{Typed}

-- ---- what is said of parts

-- its faults, and the column that it is
pub record OnForm (f : Form) : Type 0 where
  pub faults : (at : ℕ) (s : Surroundings) → AreSingle (f.means at s).faults
  pub column : lacks 10 (name_in f.column) ≡ true

abbrev pub OnExpression : Part → Type 0
OnExpression p = OnForm p.form

pub record OnArm (a : ArmPart) : Type 0 where
  pub test : OnExpression a.test
  pub value : OnExpression a.value

abbrev pub OnQuery : QueryPart → Type 0
OnQuery q = (s : Surroundings) → AreSingle (q s).faults

-- ---- columns

abbrev placed_part : ℕ → ℕ → Option Kind → Meaning Typed
placed_part outward place kind = record { faults = []; part = option_map (λ k. record { tree = e.Column outward place; kind = k }) kind }

pub place_single : (at : ℕ) (s : Surroundings) (outward place : ℕ) (kind : Option Kind) → AreSingle (place_meaning at s outward place kind).faults
place_single at s outward place kind = if_single (may_stand s.groups outward place) (placed_part outward place kind) (refused at []) refl (refused_single Typed at [] refl)

pub column_single : (at : ℕ) (s : Surroundings) (name : ColumnName) (f : Found) → lacks 10 name.column ≡ true → AreSingle (column_meaning at s name f).faults
column_single at s name (found.Column outward place kind) h = place_single at s outward place kind
column_single at s name found.Missing h = at_single at (cause.NoSuchColumn name.column) h
column_single at s name found.Ambiguous h = at_single at (cause.Ambiguous name.column) h

-- ---- lists

pub all_in_single : (s : Surroundings) (parts : List Part) → Each OnExpression parts → AreSingle (all_in s parts).faults
all_in_single s parts h =
    all_single (map (λ p. means p s) parts) (each_map (λ m. AreSingle m.faults) (λ p. means p s) parts (each_to OnExpression (λ p. AreSingle (means p s).faults) parts (λ p on. on.faults p.at s) h))

pub optional_single : (s : Surroundings) (part : Option Part) → OnPart OnExpression part → AreSingle (optional_in s part).faults
optional_single s None h = refl
optional_single s (Some p) h = h.faults p.at s

arm_single : (s : Surroundings) (arm : ArmPart) → OnArm arm → AreSingle (arm_meaning s arm).faults
arm_single s arm h = both (means arm.test s).faults (means arm.value s).faults (h.test.faults arm.test.at s) (h.value.faults arm.value.at s)

pub arms_single : (s : Surroundings) (arms : List ArmPart) → Each OnArm arms → AreSingle (arms_in s arms).faults
arms_single s arms h = all_single (map (arm_meaning s) arms) (each_map (λ m. AreSingle m.faults) (arm_meaning s) arms (each_to OnArm (λ a. AreSingle (arm_meaning s a).faults) arms (λ a on. arm_single s a on) h))

-- ---- queries

pub subquery_single : (at : ℕ) (q : QueryMeaning) → AreSingle q.faults → AreSingle (subquery_meaning at q).faults
subquery_single at q h = judged_single at q.faults (of_two subquery_typed q.plan (kinds_of q.columns)) h

pub in_query_single : (negated : Bool) (at : ℕ) (a : Meaning Typed) (q : QueryMeaning) → AreSingle a.faults → AreSingle q.faults → AreSingle (in_query_meaning negated at a q).faults
in_query_single negated at a q k h = judged_single at (a.faults ++ q.faults) (of_three (in_query_typed negated) a.part q.plan (kinds_of q.columns)) (both a.faults q.faults k h)

-- ---- aggregates and conditions

pub aggregate_single : (function : Aggregate) (distinct : Bool) (at : ℕ) (s : Surroundings) (a : Meaning Typed) → AreSingle a.faults → AreSingle (aggregate_meaning function distinct at s a).faults
aggregate_single function distinct at s a h =
    if_single s.aggregates (by_one (aggregate_typed function distinct) at a) (refused at a.faults)
    (by_one_single (aggregate_typed function distinct) at a h) (refused_single Typed at a.faults h)

pub condition_single : (s : Surroundings) (p : Part) → OnExpression p → AreSingle (condition s p).faults
condition_single s p h = by_one_single condition_typed p.at (means p s) (h.faults p.at s)
