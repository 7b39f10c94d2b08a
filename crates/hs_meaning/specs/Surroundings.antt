-- What surrounds a part: the FROMs that it sees, and what may stand there.
use Rattle.std.specs.Prelude.{ℕ, zero, suc, Bool, true, false, nat_eq, List, [], ◌∷◌, Option, Some, None}
use Rattle.std.specs.List.{list_any}
use Rattle.hs_scope.specs.declared.from_table.FromTable.{FromTable}

pub record Surroundings : Type 0 where
  -- the FROMs of the query and of those around it, the innermost first
  pub scopes : List (List FromTable)
  -- the places of the columns of each of these FROMs that may stand there, where not all may
  pub groups : List (Option (List ℕ))
  -- whether aggregates of the innermost SELECT may stand there
  pub aggregates : Bool
  -- whether queries may
  pub queries : Bool

-- where no FROM is: the top of a statement
abbrev pub outermost : Surroundings
outermost = record { scopes = []; groups = []; aggregates = false; queries = true }

-- ON, WHERE, GROUP BY and the keys of ORDER BY: over rows of these tables
abbrev pub over_rows : List FromTable → Surroundings → Surroundings
over_rows tables s = record { scopes = tables ∷ s.scopes; groups = None ∷ s.groups; aggregates = false; queries = s.queries }

-- items and HAVING: over rows of these tables, or over groups of them which have these columns
abbrev pub over_groups : List FromTable → Option (List ℕ) → Surroundings → Surroundings
over_groups tables columns s = record { scopes = tables ∷ s.scopes; groups = columns ∷ s.groups; aggregates = true; queries = s.queries }

abbrev pub freed : List (Option (List ℕ)) → List (Option (List ℕ))
freed [] = []
freed (columns ∷ around) = None ∷ around

-- inside an aggregate stands each column of its FROM, and no other aggregate of it
abbrev pub in_aggregate : Surroundings → Surroundings
in_aggregate s = record { scopes = s.scopes; groups = freed s.groups; aggregates = false; queries = s.queries }

-- VALUES has no FROM, and no groups
abbrev pub in_values : Surroundings → Surroundings
in_values s = record { scopes = s.scopes; groups = s.groups; aggregates = false; queries = s.queries }

-- a CHECK has no queries
abbrev pub in_check : Surroundings → Surroundings
in_check s = record { scopes = s.scopes; groups = s.groups; aggregates = false; queries = false }

abbrev pub admits : Option (List ℕ) → ℕ → Bool
admits None at = true
admits (Some columns) at = list_any (nat_eq at) columns

-- whether the column at a place of the FROM so many FROMs outward may stand there
abbrev pub may_stand : List (Option (List ℕ)) → ℕ → ℕ → Bool
may_stand [] outward at = true
may_stand (columns ∷ around) zero at = admits columns at
may_stand (columns ∷ around) (suc outward) at = may_stand around outward at

-- the tables of the own query
abbrev pub innermost : List (List FromTable) → List FromTable
innermost [] = []
innermost (tables ∷ around) = tables
