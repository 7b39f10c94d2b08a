-- The sessions of a run.
use Rattle.std.specs.Prelude.{ℕ, ◌+◌, ◌-◌, ◌≤◌, nat_lt, Bool, true, false, List, [], ◌∷◌, ◌++◌, length, Option, None, Some, if◌then◌else◌, slice_index_or, slice_set}
use Rattle.std.specs.Str.{bytes_eq}
use Rattle.hs_ast.specs.declared.session.Isolation.{Isolation}
use Rattle.hs_ast.specs.declared.session.Isolation.TheVariants.{ReadCommitted, Serializable}
use Rattle.hs_sessions.specs.declared.session.Session.{Session}
use Rattle.hs_sessions.specs.Settings.{fresh}

-- the sessions in the order of their numbers, which begin with 1, the names that they have, and the level of new ones
pub record Book : Type 0 where
  pub names : List (List ℕ)
  pub sessions : List Session
  pub level : Isolation

-- a session has this number
abbrev pub IsKnown : Book → ℕ → Type 0
IsKnown book s = (1 ≤ s) × (s ≤ length book.sessions)

abbrev pub session_of : Book → ℕ → Session
session_of book s = slice_index_or book.sessions (s - 1) (fresh ReadCommitted)

-- one session is changed
abbrev pub with_session : ℕ → Session → Book → Book
with_session s session book = record book { sessions = slice_set book.sessions (s - 1) session }

-- the number of a name among others, which are counted from a number on
abbrev pub number_from : ℕ → List ℕ → List (List ℕ) → Option ℕ
number_from number name [] = None
number_from number name (n ∷ ns) = if bytes_eq name n then Some number else number_from (number + 1) name ns

-- the number of the session of a name
abbrev pub number_in : List ℕ → Book → Option ℕ
number_in name book = number_from 1 name book.names

-- a session more
abbrev pub with_new : List ℕ → Book → Book
with_new name book = record book { names = book.names ++ name ∷ []; sessions = book.sessions ++ fresh book.level ∷ [] }

-- the session of a name. A new name makes one, as long as there are fewer than 64
abbrev pub made : List ℕ → Book → Option ℕ × Book
made name book = if nat_lt (length book.sessions) 64 then (Some (length book.sessions + 1), with_new name book) else (None, book)

abbrev pub found : List ℕ → Book → Option ℕ → Option ℕ × Book
found name book None = made name book
found name book (Some number) = (Some number, book)

abbrev pub admitted : List ℕ → Book → Option ℕ × Book
admitted name book = found name book (number_in name book)

abbrev pub default_level : Bool → Isolation
default_level true = Serializable
default_level false = ReadCommitted
