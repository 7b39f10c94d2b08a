-- Waiters, and whom they wait for.
use Rattle.std.specs.Prelude.{ℕ, zero, suc, ◌+◌, ◌==◌, ◌&&◌, ◌||◌, not, if◌then◌else◌, Bool, false, List, [], ◌∷◌, find, Option}
use Rattle.std.specs.List.{list_any}
use Rattle.hs_schema.specs.Catalogue.{Text}

-- an entry of a session: its number among the items, the session's number, and its whole text, the session's name too
pub record Entry : Type 0 where
  pub number : ℕ
  pub session : ℕ
  pub text : Text

-- ---- recorded waits

-- which session waits for which: for each that waits, those whom it met at its last attempt and whose transactions
-- haven't ended since
abbrev pub Waits : Type 0
Waits = ℕ → ℕ → Bool

abbrev pub nobody : Waits
nobody a b = false

abbrev pub is_among : ℕ → List ℕ → Bool
is_among b blockers = list_any (λ x. x == b) blockers

-- a session waits for these, in place of those before
abbrev pub waits_for : ℕ → List ℕ → Waits → Waits
waits_for s blockers waits = λ a b. if a == s then is_among b blockers else waits a b

-- it waits for nobody
abbrev pub answered : ℕ → Waits → Waits
answered s waits = λ a b. not (a == s) && waits a b

-- nobody waits for it, as its transaction has ended
abbrev pub freed : ℕ → Waits → Waits
freed s waits = λ a b. not (b == s) && waits a b

-- ---- cycles

-- so many numbers, ascending from one on, as those of sessions from 1 on
abbrev pub ascending : ℕ → ℕ → List ℕ
ascending first zero = []
ascending first (suc n) = first ∷ ascending (first + 1) n

-- waits lead from one of these sessions to another over at most so many others
unfoldable pub leads_over : ℕ → List ℕ → Waits → ℕ → ℕ → Bool
leads_over zero sessions waits a b = a == b
leads_over (suc n) sessions waits a b = (a == b) || list_any (λ next. waits a next && leads_over n sessions waits next b) sessions

-- waits lead from one of the first so many sessions to another
abbrev pub leads : ℕ → Waits → ℕ → ℕ → Bool
leads many waits a b = leads_over many (ascending 1 many) waits a b

-- the first of the blockers from whom waits lead back to a session
abbrev pub first_leading : ℕ → Waits → ℕ → List ℕ → Option ℕ
first_leading many waits s blockers = find (λ b. leads many waits b s) blockers

-- ---- waiters

abbrev pub is_waiting : ℕ → List Entry → Bool
is_waiting s waiters = list_any (λ w. w.session == s) waiters
