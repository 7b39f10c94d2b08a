-- Savepoints of a transaction.
use Rattle.std.specs.Prelude.{ℕ, Bool, List, [], ◌∷◌, ◌++◌, Option, None, Some, slice_get}
use Rattle.std.specs.Set.{remove_key}
use Rattle.std.specs.Str.{bytes_eq}
use Rattle.hs_sessions.specs.declared.savepoints.Savepoint.{Savepoint}

abbrev pub is_called : List ℕ → Savepoint → Bool
is_called name point = bytes_eq point.name name

-- a savepoint more, and no older one of its name
abbrev pub with_savepoint : List ℕ → ℕ → List Savepoint → List Savepoint
with_savepoint name changes points = remove_key (is_called name) points ++ record { name = name; changes = changes } ∷ []

abbrev pub changes_of : Option Savepoint → ℕ
changes_of None = 0
changes_of (Some point) = point.changes

-- how many changes stood when the savepoint at a place was made
abbrev pub changes_at : ℕ → List Savepoint → ℕ
changes_at place points = changes_of (slice_get points place)
