-- Which session is closed next.
use Rattle.std.specs.Prelude.{ℕ, ◌||◌, not, Bool, List, length, find, Option}
use Rattle.hs_claims.specs.Blockers.{has}
use Rattle.hs_claims.specs.declared.blockers.Blockers.{Blockers}
use Rattle.hs_schema.specs.Catalogue.{Text}
use Rattle.hs_turns.specs.Waiting.{Entry, ascending, is_waiting}

-- it doesn't wait and isn't closed
abbrev pub closes_in : List Entry → Blockers → ℕ → Bool
closes_in seen closed s = not (is_waiting s seen || has closed s)

-- the first such session
abbrev pub first_closing : List Entry → Blockers → List Text → Option ℕ
first_closing seen closed names = find (closes_in seen closed) (ascending 1 (length names))
