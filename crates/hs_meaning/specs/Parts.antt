-- What is found in a part of a statement: its faults, and what it means, which is known where neither it nor a part inside
-- it breaks a rule.
use Rattle.std.specs.Prelude.{ℕ, List, [], ◌∷◌, ◌++◌, map, fold, Option, Some, None}
use Rattle.std.specs.List.{flat_map}
use Rattle.std.specs.Option.{option_map}
use Rattle.std.specs.Result.{result_ok}
use Rattle.hs_plan.specs.declared.expression.Expr.{Expr}
use Rattle.hs_plan.specs.declared.fault.Cause.TheVariants as cause
use Rattle.hs_plan.specs.declared.fault.PlacedFault.{PlacedFault}
use Rattle.hs_typed.specs.declared.typed.Typed.{Typed}
use Rattle.hs_typed.specs.Faults.{fault_at, broken_by}
use Rattle.hs_typed.specs.Rules.{Outcome}

pub record Meaning (A : Type 0) : Type 0 where
  pub faults : List PlacedFault
  pub part : Option A

-- a part without faults
abbrev pub meant : {A : Type 0} → A → Meaning A
meant a = record { faults = []; part = Some a }

-- it breaks a rule of types at this place, beside the faults of the parts inside it
abbrev pub refused : {A : Type 0} → ℕ → List PlacedFault → Meaning A
refused at inside = record { faults = inside ++ fault_at at cause.Types; part = None }

-- ---- several parts

abbrev pub with_part : {A : Type 0} → Option (List A) → Option A → Option (List A)
with_part (Some parts) (Some part) = Some (parts ++ part ∷ [])
with_part (Some parts) None = None
with_part None part = None

-- all parts, where all are known
abbrev pub known : {A : Type 0} → List (Option A) → Option (List A)
known parts = fold with_part (Some []) parts

abbrev pub all : {A : Type 0} → List (Meaning A) → Meaning (List A)
all parts = record { faults = flat_map (λ m. m.faults) parts; part = known (map (λ m. m.part) parts) }

-- a part that need not be written
abbrev pub if_written : {A : Type 0} → Option (Meaning A) → Meaning (Option A)
if_written None = meant None
if_written (Some m) = record { faults = m.faults; part = option_map (λ a. Some a) m.part }

-- ---- what a rule gives, where the parts are known

abbrev pub of_one : {A : Type 0} → (A → Outcome) → Option A → Option Outcome
of_one rule (Some a) = Some (rule a)
of_one rule None = None

abbrev pub of_two : {A B : Type 0} → (A → B → Outcome) → Option A → Option B → Option Outcome
of_two rule (Some a) (Some b) = Some (rule a b)
of_two rule (Some a) None = None
of_two rule None b = None

abbrev pub of_three : {A B C : Type 0} → (A → B → C → Outcome) → Option A → Option B → Option C → Option Outcome
of_three rule (Some a) b c = of_two (rule a) b c
of_three rule None b c = None

abbrev pub part_by : Option Outcome → Option Typed
part_by (Some outcome) = result_ok outcome
part_by None = None

-- the rule's own fault, at the place of the whole
abbrev pub broken_at : ℕ → Option Outcome → List PlacedFault
broken_at at (Some outcome) = broken_by at outcome
broken_at at None = []

abbrev pub judged : ℕ → List PlacedFault → Option Outcome → Meaning Typed
judged at inside outcome = record { faults = inside ++ broken_at at outcome; part = part_by outcome }

abbrev pub by_one : {A : Type 0} → (A → Outcome) → ℕ → Meaning A → Meaning Typed
by_one rule at a = judged at a.faults (of_one rule a.part)

abbrev pub by_two : {A B : Type 0} → (A → B → Outcome) → ℕ → Meaning A → Meaning B → Meaning Typed
by_two rule at a b = judged at (a.faults ++ b.faults) (of_two rule a.part b.part)

abbrev pub by_three : {A B C : Type 0} → (A → B → C → Outcome) → ℕ → Meaning A → Meaning B → Meaning C → Meaning Typed
by_three rule at a b c = judged at (a.faults ++ b.faults ++ c.faults) (of_three rule a.part b.part c.part)

-- ---- trees alone

abbrev pub tree_of : Option Typed → Option Expr
tree_of part = option_map (λ t. t.tree) part

abbrev pub tree_in : Meaning Typed → Meaning Expr
tree_in m = record { faults = m.faults; part = tree_of m.part }
