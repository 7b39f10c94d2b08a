-- The command line.
use Rattle.std.specs.Prelude.{ℕ, Bool, false, ◌==◌, not, List, [], ◌∷◌, Option, None, Some, if◌then◌else◌}

-- a name of a database: a text that isn't empty and doesn't begin with `-`
abbrev pub is_database : List ℕ → Bool
is_database [] = false
is_database (b ∷ bs) = not (b == 45)

-- the name of the database in the words of the command `hsql DATABASE`, whatever the program is called
abbrev pub database_of : List (List ℕ) → Option (List ℕ)
database_of (program ∷ database ∷ []) = if is_database database then Some database else None
database_of _ = None
