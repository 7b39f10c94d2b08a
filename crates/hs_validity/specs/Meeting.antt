-- What constraints ask of the rows of tables, each as a sentence about them.
use Rattle.std.specs.Prelude.{◌≡◌, ℕ, true, false, List, [], ◌∷◌, Some}
use Rattle.std.specs.FinMap.{get}
use Rattle.std.specs.List.{Contains}
use Rattle.hs_plan.specs.declared.definition.Constraint.{Constraint}
use Rattle.hs_plan.specs.declared.definition.Rule.{Rule}
use Rattle.hs_plan.specs.declared.definition.Rule.TheVariants as rule
use Rattle.hs_plan.specs.declared.expression.Expr.{Expr}
use Rattle.hs_values.specs.declared.value.Value.{Value}
use Rattle.hs_index.specs.Keys.{key_in, has_null}
use Rattle.hs_index.specs.Table.{Rows, has_key}
use Rattle.hs_changes.specs.Settings.{Maps}
use Rattle.hs_schema.specs.Catalogue.{Things}
use Rattle.hs_sentences.specs.Violations.{Checks, constraints_of, parents_of}

-- ---- one constraint

-- no row has NULL in one of these columns
abbrev pub HasNoGap : List ℕ → Rows → Type 0
HasNoGap columns rows = (number : ℕ) (row : List Value) → get rows number ≡ Some row → has_null (key_in columns row) ≡ false

-- every row passes a CHECK
abbrev pub Passes : Checks → Expr → Rows → Type 0
Passes checks condition rows = (number : ℕ) (row : List Value) → get rows number ≡ Some row → checks condition row ≡ true

-- no two rows have one key in these columns. A key with a NULL is no key
abbrev pub IsUnique : List ℕ → Rows → Type 0
IsUnique columns rows = (key : List Value) (a b : ℕ) → has_key columns key (get rows a) ≡ true → has_key columns key (get rows b) ≡ true → a ≡ b

-- a row that has this key in these columns
pub record Holder (columns : List ℕ) (key : List Value) (rows : Rows) : Type 0 where
  pub number : ℕ
  pub holds : has_key columns key (get rows number) ≡ true

-- for each key that a row of the child has, a row of the parent has it
abbrev pub HasParents : List ℕ → List ℕ → Rows → Rows → Type 0
HasParents columns parent_columns children parents = (key : List Value) (number : ℕ) → has_key columns key (get children number) ≡ true → Holder parent_columns key parents

-- what a rule asks of its table and of the parent
abbrev pub Meets : Checks → Things → Maps → ℕ → Rule → Type 0
Meets checks things maps table (rule.NotNull column) = HasNoGap (column ∷ []) (maps table)
Meets checks things maps table (rule.PrimaryKey columns) = HasNoGap columns (maps table) × IsUnique columns (maps table)
Meets checks things maps table (rule.Unique columns) = IsUnique columns (maps table)
Meets checks things maps table (rule.Check condition) = Passes checks condition (maps table)
Meets checks things maps table (rule.ForeignKey key) = HasParents key.columns key.parent_columns (maps table) (parents_of things maps key)
Meets checks things maps table (rule.Index columns) = Unit {0}

-- ---- all of them

abbrev pub MeetsAll : Checks → Things → Maps → Type 0
MeetsAll checks things maps = (c : ℕ × Constraint) → Contains (constraints_of things) c → Meets checks things maps c.0 c.1.rule
