-- The names of a definition's constraints, given from the left.
use Rattle.std.specs.Prelude.{◌≡◌, ℕ, Bool, true, false, ◌||◌, is_some, if◌then◌else◌, List, [], ◌∷◌, ◌++◌, map, find, Option, Some, None}
use Rattle.std.specs.List.{flat_map}
use Rattle.std.specs.Option.{option_map}
use Rattle.hs_ast.specs.declared.definition.ColumnConstraint.{ColumnConstraint}
use Rattle.hs_ast.specs.declared.definition.ColumnRule.{ColumnRule}
use Rattle.hs_ast.specs.declared.definition.ColumnRule.TheVariants as column
use Rattle.hs_ast.specs.declared.definition.TableConstraint.{TableConstraint}
use Rattle.hs_ast.specs.declared.definition.TableElement.{TableElement}
use Rattle.hs_ast.specs.declared.definition.TableElement.TheVariants as element
use Rattle.hs_ast.specs.declared.definition.TableRule.{TableRule}
use Rattle.hs_ast.specs.declared.definition.TableRule.TheVariants as table
use Rattle.hs_ast.specs.declared.word.Identifier.{Identifier}
use Rattle.hs_elements.specs.declared.names.ConstraintKind.{ConstraintKind}
use Rattle.hs_elements.specs.declared.names.ConstraintKind.TheVariants as kind
use Rattle.hs_elements.specs.Faults.{Text, exists_at, fault_at, is_among, where_so}
use Rattle.hs_elements.specs.Names.{IsLeastFree, numbered}
use Rattle.hs_plan.specs.declared.definition.Constraint.{Constraint}
use Rattle.hs_plan.specs.declared.definition.Rule.{Rule}
use Rattle.hs_plan.specs.declared.definition.Rule.TheVariants as rule
use Rattle.hs_plan.specs.declared.fault.Cause.TheVariants as cause
use Rattle.hs_plan.specs.declared.fault.PlacedFault.{PlacedFault}
use Rattle.hs_schema.specs.Catalogue.{Things, owner_of}
use Rattle.hs_outlines.specs.declared.written.Written.{Written}

-- ---- constraints as they are written

abbrev pub kind_of_column : ColumnRule → ConstraintKind
kind_of_column column.NotNull = kind.NotNull
kind_of_column column.PrimaryKey = kind.PrimaryKey
kind_of_column column.Unique = kind.Unique
kind_of_column (column.Check e) = kind.Check
kind_of_column (column.References k) = kind.ForeignKey

abbrev pub kind_of_table : TableRule → ConstraintKind
kind_of_table (table.PrimaryKey list) = kind.PrimaryKey
kind_of_table (table.Unique list) = kind.Unique
kind_of_table (table.Check e) = kind.Check
kind_of_table (table.ForeignKey list k) = kind.ForeignKey

abbrev pub by_column : ColumnConstraint → Written
by_column k = record { at = k.at; kind = kind_of_column k.rule; name = k.name }

abbrev pub by_table : TableConstraint → Written
by_table t = record { at = t.at; kind = kind_of_table t.rule; name = t.name }

abbrev pub written_in : TableElement → List Written
written_in (element.Column c) = map by_column c.constraints
written_in (element.Constraint t) = by_table t ∷ []

abbrev pub written : List TableElement → List Written
written = flat_map written_in

-- ---- names

-- a constraint or an index of the catalogue has it, or one further to the left
abbrev pub is_taken : Things → List Text → Text → Bool
is_taken things given name = is_among given name || is_some (owner_of things name)

-- `table_kind_n`, n being the least number from 1 on whose name is free
pub record IsFirstFree (things : Things) (table : Text) (given : List Text) (its : ConstraintKind) (name : Text) : Type 0 where
  pub n : ℕ
  pub least : IsLeastFree (is_taken things given) table its n
  pub spelled : name ≡ numbered table its n

abbrev pub IsNameBy : Option Identifier → Things → Text → List Text → ConstraintKind → Text → Type 0
IsNameBy (Some own) things table given its name = name ≡ own.name
IsNameBy None things table given its name = IsFirstFree things table given its name

-- its own name, or else the first that is free behind those given
abbrev pub IsName : Things → Text → List Text → Written → Text → Type 0
IsName things table given w name = IsNameBy w.name things table given w.kind name

-- the constraints have these names, behind those given
abbrev pub AreNamed : Things → Text → List Text → List Written → List Text → Type 0
AreNamed things table given [] [] = Unit {0}
AreNamed things table given [] (n ∷ ns) = ⊥
AreNamed things table given (w ∷ ws) [] = ⊥
AreNamed things table given (w ∷ ws) (n ∷ ns) = IsName things table given w n × AreNamed things table (given ++ n ∷ []) ws ns

-- ---- what is wrong with them

-- its own name is taken
abbrev pub clash : Things → List Text → Option Identifier → List PlacedFault
clash things given None = []
clash things given (Some own) = where_so (is_taken things given own.name) (exists_at own)

abbrev pub is_primary : ConstraintKind → Bool
is_primary kind.PrimaryKey = true
is_primary _ = false

-- a primary key beside a first one, whose name is told
abbrev pub second : Option Text → Written → List PlacedFault
second None w = []
second (Some first) w = where_so (is_primary w.kind) (fault_at w.at (cause.Exists first))

abbrev pub first_key : Option Text → Written → Text → Option Text
first_key (Some first) w name = Some first
first_key None w name = if is_primary w.kind then Some name else None

-- behind names that are given, and a primary key that is
abbrev pub name_faults : Things → List Text → Option Text → List Written → List Text → List PlacedFault
name_faults things given first [] names = []
name_faults things given first (w ∷ ws) [] = []
name_faults things given first (w ∷ ws) (n ∷ ns) =
    clash things given w.name ++ second first w ++ name_faults things (given ++ n ∷ []) (first_key first w n) ws ns

-- ---- constraints of a table

abbrev pub is_primary_key : Rule → Bool
is_primary_key (rule.PrimaryKey columns) = true
is_primary_key (rule.NotNull column) = false
is_primary_key (rule.Unique columns) = false
is_primary_key (rule.Check condition) = false
is_primary_key (rule.ForeignKey key) = false
is_primary_key (rule.Index columns) = false

-- the name of a table's primary key
abbrev pub primary_name : List Constraint → Option Text
primary_name constraints = option_map (λ c. c.name) (find (λ c. is_primary_key c.rule) constraints)
