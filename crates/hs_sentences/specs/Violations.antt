-- The first violated constraint.
use Rattle.std.specs.Prelude.{◌≡◌, ℕ, Bool, false, not, List, [], ◌∷◌, map, Option, None, Some, if◌then◌else◌}
use Rattle.std.specs.FinMap.{empty, get}
use Rattle.std.specs.List.{flat_map}
use Rattle.std.specs.Option.{option_map_or, option_or}
use Rattle.hs_plan.specs.declared.definition.Constraint.{Constraint}
use Rattle.hs_plan.specs.declared.definition.ForeignKey.{ForeignKey}
use Rattle.hs_plan.specs.declared.definition.Rule.{Rule}
use Rattle.hs_plan.specs.declared.definition.Rule.TheVariants as rule
use Rattle.hs_plan.specs.declared.expression.Expr.{Expr}
use Rattle.hs_schema.specs.Catalogue.{Things, Text, constraints_in, number_of}
use Rattle.hs_values.specs.declared.value.Value.{Value}
use Rattle.hs_index.specs.Table.{Rows}
use Rattle.hs_changes.specs.Settings.{Maps}
use Rattle.hs_sentences.specs.declared.violation.Violation.{Violation}
use Rattle.hs_sentences.specs.declared.violation.Violation.TheVariants as is
use Rattle.hs_sentences.specs.Asking.{Test, any_row, any_of, is_one_of}
use Rattle.hs_sentences.specs.Sentences.{has_gap, is_double, is_orphan, is_missed}

-- whether a CHECK lets a row pass: it is TRUE or NULL, and no fault
abbrev pub Checks : Type 0
Checks = Expr → List Value → Bool

-- which rows of each table were put or deleted
abbrev pub Touched : Type 0
Touched = ℕ → List ℕ

-- the constraints and indexes of all tables in the order of creation, each with its table
abbrev pub constraints_of : Things → List (ℕ × Constraint)
constraints_of things = flat_map (λ t. map (λ c. (t.table.0, c)) (constraints_in t.part)) things

abbrev pub parents_of : Things → Maps → ForeignKey → Rows
parents_of things maps key = option_map_or (λ table. maps table.0) (number_of things key.parent) empty

abbrev pub touched_parents : Things → Touched → ForeignKey → List ℕ
touched_parents things touched key = option_map_or (λ table. touched table.0) (number_of things key.parent) []

abbrev pub orphans : Things → Maps → ForeignKey → Test
orphans things maps key = is_orphan key.columns key.parent_columns (parents_of things maps key)

-- how a rule of a table is violated: `look` says whether a row of it passes a test, `put` whether one that was put
-- does, and `left` whether one that wasn't put has lost its parent
abbrev pub violated : Checks → Things → Maps → (Test → Bool) → (Test → Bool) → (ForeignKey → Bool) → ℕ → Text → Rule → Option Violation
violated checks things maps look put left table name (rule.NotNull column) = if look (has_gap (column ∷ [])) then Some (is.Null name) else None
violated checks things maps look put left table name (rule.PrimaryKey columns) =
    if look (has_gap columns) then Some (is.Null name) else (if look (is_double columns (maps table)) then Some (is.Unique name) else None)
violated checks things maps look put left table name (rule.Unique columns) = if look (is_double columns (maps table)) then Some (is.Unique name) else None
violated checks things maps look put left table name (rule.Check condition) = if look (λ number row. not (checks condition row)) then Some (is.Check name) else None
violated checks things maps look put left table name (rule.ForeignKey key) =
    if put (orphans things maps key) then Some (is.Parent name) else (if left key then Some (is.Child name) else None)
violated checks things maps look put left table name (rule.Index columns) = None

abbrev pub first_some : {X : Type 0} → List (Option X) → Option X
first_some [] = None
first_some (x ∷ xs) = option_or x (first_some xs)

-- how a constraint is violated where all rows are looked at
abbrev pub violation : Checks → Things → Touched → Maps → (ℕ × Constraint) → Option Violation
violation checks things touched maps c =
    violated checks things maps (λ test. any_row test (maps c.0)) (λ test. any_of (touched c.0) test (maps c.0)) (λ key. any_row (orphans things maps key) (maps c.0)) c.0 c.1.name c.1.rule

-- the first violated constraint, in the order of creation
abbrev pub first_violated : Checks → Things → Touched → Maps → Option Violation
first_violated checks things touched maps = first_some (map (violation checks things touched maps) (constraints_of things))

-- each constraint holds
abbrev pub AllHold : Checks → Things → Maps → Type 0
AllHold checks things maps = first_violated checks things (λ table. []) maps ≡ None

-- how a constraint is violated where only the touched rows are looked at, and the rows that have their keys
abbrev pub violation_by_touched : Checks → Things → Touched → Maps → Maps → (ℕ × Constraint) → Option Violation
violation_by_touched checks things touched before after c =
    let look = λ (test : Test). any_of (touched c.0) test (after c.0) in
    violated checks things after look look
    (λ key. any_of (touched_parents things touched key) (is_missed key.columns key.parent_columns (parents_of things after key) (after c.0)) (parents_of things before key))
    c.0 c.1.name c.1.rule

abbrev pub first_violated_by_touched : Checks → Things → Touched → Maps → Maps → Option Violation
first_violated_by_touched checks things touched before after = first_some (map (violation_by_touched checks things touched before after) (constraints_of things))

-- every row that isn't touched is as it was
abbrev pub TouchesOnly : Touched → Maps → Maps → Type 0
TouchesOnly touched before after = (table row : ℕ) → is_one_of (touched table) row ≡ false → get (after table) row ≡ get (before table) row
