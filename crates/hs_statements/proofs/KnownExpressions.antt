-- What the layers of expressions mean is known where there is no fault, if so are their parts.
use Rattle.std.proofs.Common.{◌≡◌, ℕ, Bool, List, [], ◌++◌, map, Option, Some, None, option_map}
use Rattle.hs_ast.specs.declared.expression.Aggregate.{Aggregate}
use Rattle.hs_ast.specs.declared.expression.ColumnName.{ColumnName}
use Rattle.hs_statements.proofs.BrokenRules.{aggregate_ruled, condition_ruled, in_query_ruled, subquery_ruled}
use Rattle.hs_statements.proofs.KnownParts.{Each, IsKnown, IsMet, OnPart, all_known, all_met, by_one_met, each_map, each_to, if_met, if_written_met, judged_met, known_map, left_none, refused_met, right_none, ruled_three, ruled_two, some_fault}
use Rattle.hs_statements.proofs.SeenColumns.{IsFound, IsSeen}
use Rattle.hs_meaning.specs.Expressions.{aggregate_meaning, all_in, arm_by, arm_meaning, arms_in, column_meaning, condition, exists_meaning, in_query_meaning, kinds_of, optional_in, place_meaning, subquery_meaning}
use Rattle.hs_meaning.specs.Layers.{ArmPart, Form, Part, QueryMeaning, QueryPart, means}
use Rattle.hs_meaning.specs.Parts.{Meaning, by_one, of_three, of_two, refused}
use Rattle.hs_meaning.specs.Surroundings.{Surroundings, in_aggregate, may_stand}
use Rattle.hs_meaning.specs.declared.placed.PlacedColumn.{PlacedColumn}
use Rattle.hs_plan.specs.declared.expression.Expr.TheVariants as e
use Rattle.hs_plan.specs.declared.fault.Cause.TheVariants as cause
use Rattle.hs_plan.specs.declared.kind.Kind.{Kind}
use Rattle.hs_scope.specs.declared.sought.Found.{Found}
use Rattle.hs_scope.specs.declared.sought.Found.TheVariants as found
use Rattle.hs_typed.specs.Rules.{aggregate_typed, condition_typed, exists_typed, in_query_typed, subquery_typed}
use Rattle.hs_typed.specs.declared.typed.Typed.{Typed}

-- ---- what is said of parts

-- among seen columns it is known where it has no fault
abbrev pub OnForm : Form → Type 0
OnForm f = (at : ℕ) (s : Surroundings) → IsSeen s → IsMet (f.means at s)

abbrev pub OnExpression : Part → Type 0
OnExpression p = (s : Surroundings) → IsSeen s → IsMet (means p s)

pub record OnArm (a : ArmPart) : Type 0 where
  pub test : OnExpression a.test
  pub value : OnExpression a.value

abbrev pub IsPlacedKnown : PlacedColumn → Type 0
IsPlacedKnown c = IsKnown c.column.kind

pub record IsQueryKnown (q : QueryMeaning) : Type 0 where
  pub plan : IsKnown q.plan
  pub columns : Each IsPlacedKnown q.columns

abbrev pub OnQuery : QueryPart → Type 0
OnQuery q = (s : Surroundings) → IsSeen s → (q s).faults ≡ [] → IsQueryKnown (q s)

-- ---- columns

abbrev placed_part : ℕ → ℕ → Option Kind → Meaning Typed
placed_part outward place kind = record { faults = []; part = option_map (λ k. record { tree = e.Column outward place; kind = k }) kind }

pub place_met : (at : ℕ) (s : Surroundings) (outward place : ℕ) (kind : Option Kind) → IsKnown kind → IsMet (place_meaning at s outward place kind)
place_met at s outward place kind known =
    if_met (may_stand s.groups outward place) (placed_part outward place kind) (refused at [])
    (λ none. known_map (λ k. record { tree = e.Column outward place; kind = k }) kind known) (refused_met Typed at [])

pub column_met : (at : ℕ) (s : Surroundings) (name : ColumnName) (f : Found) → IsFound f → IsMet (column_meaning at s name f)
column_met at s name (found.Column outward place kind) h = place_met at s outward place kind h
column_met at s name found.Missing h = λ none. absurd (some_fault at (cause.NoSuchColumn name.column) none)
column_met at s name found.Ambiguous h = λ none. absurd (some_fault at (cause.Ambiguous name.column) none)

-- ---- lists

pub all_in_met : (s : Surroundings) (parts : List Part) → IsSeen s → Each OnExpression parts → IsMet (all_in s parts)
all_in_met s parts seen h = all_met (map (λ p. means p s) parts) (each_map (λ m. IsMet m) (λ p. means p s) parts (each_to OnExpression (λ p. IsMet (means p s)) parts (λ p on. on s seen) h))

pub optional_met : (s : Surroundings) (part : Option Part) → IsSeen s → OnPart OnExpression part → IsMet (optional_in s part)
optional_met s None seen h = λ none. tt
optional_met s (Some p) seen h = if_written_met (Some (means p s)) (h s seen)

arm_known : (o p : Option Typed) → IsKnown o → IsKnown p → IsKnown (arm_by o p)
arm_known (Some test) (Some shown) h k = tt
arm_known (Some test) None h k = absurd k
arm_known None p h k = absurd h

arm_met : (s : Surroundings) (arm : ArmPart) → IsSeen s → OnArm arm → IsMet (arm_meaning s arm)
arm_met s arm seen h = λ none.
    arm_known (means arm.test s).part (means arm.value s).part
    (h.test s seen (left_none (means arm.test s).faults (means arm.value s).faults none))
    (h.value s seen (right_none (means arm.test s).faults (means arm.value s).faults none))

pub arms_met : (s : Surroundings) (arms : List ArmPart) → IsSeen s → Each OnArm arms → IsMet (arms_in s arms)
arms_met s arms seen h = all_met (map (arm_meaning s) arms) (each_map (λ m. IsMet m) (arm_meaning s) arms (each_to OnArm (λ a. IsMet (arm_meaning s a)) arms (λ a on. arm_met s a seen on) h))

-- ---- queries

pub kinds_known : (columns : List PlacedColumn) → Each IsPlacedKnown columns → IsKnown (kinds_of columns)
kinds_known columns h = all_known (map (λ c. c.column.kind) columns) (each_map (λ o. IsKnown o) (λ c. c.column.kind) columns h)

pub exists_met : (at : ℕ) (q : QueryMeaning) → (q.faults ≡ [] → IsQueryKnown q) → IsMet (exists_meaning at q)
exists_met at q h = λ none. known_map exists_typed q.plan (h none).plan

pub subquery_met : (at : ℕ) (q : QueryMeaning) → (q.faults ≡ [] → IsQueryKnown q) → IsMet (subquery_meaning at q)
subquery_met at q h =
    judged_met at q.faults (of_two subquery_typed q.plan (kinds_of q.columns)) (λ none.
    ruled_two subquery_typed q.plan (kinds_of q.columns) subquery_ruled (h none).plan (kinds_known q.columns (h none).columns))

pub in_query_met : (negated : Bool) (at : ℕ) (a : Meaning Typed) (q : QueryMeaning) → IsMet a → (q.faults ≡ [] → IsQueryKnown q) → IsMet (in_query_meaning negated at a q)
in_query_met negated at a q k h =
    judged_met at (a.faults ++ q.faults) (of_three (in_query_typed negated) a.part q.plan (kinds_of q.columns)) (λ none.
    let its = h (right_none a.faults q.faults none) in
    ruled_three (in_query_typed negated) a.part q.plan (kinds_of q.columns) (in_query_ruled negated) (k (left_none a.faults q.faults none)) its.plan (kinds_known q.columns its.columns))

-- ---- aggregates and conditions

pub aggregate_met : (function : Aggregate) (distinct : Bool) (at : ℕ) (s : Surroundings) (a : Meaning Typed) → IsMet a → IsMet (aggregate_meaning function distinct at s a)
aggregate_met function distinct at s a h =
    if_met s.aggregates (by_one (aggregate_typed function distinct) at a) (refused at a.faults)
    (by_one_met (aggregate_typed function distinct) at a (aggregate_ruled function distinct) h) (refused_met Typed at a.faults)

pub aggregate_seen : (s : Surroundings) → IsSeen s → IsSeen (in_aggregate s)
aggregate_seen s seen = seen

pub condition_met : (s : Surroundings) (p : Part) → IsSeen s → OnExpression p → IsMet (condition s p)
condition_met s p seen h = by_one_met condition_typed p.at (means p s) condition_ruled (h s seen)
