-- The queued entry with the least ticket whose session doesn't wait.
use Rattle.std.specs.Prelude.{◌≡◌, ◌≤◌, ◌<◌, ◌+◌, ℕ, Bool, true, false, if◌then◌else◌, nat_le, List, [], ◌∷◌, Option, None, Some}
use Rattle.hs_turns.specs.Waiting.{Entry, is_waiting}
use Rattle.hs_queue.specs.Lanes.{Queued, backlog}

abbrev pub first_ticket : List Queued → Option ℕ
first_ticket [] = None
first_ticket (q ∷ lane) = Some q.ticket

-- the ticket of the first entry of the session at a place, if it has one and doesn't wait
abbrev pub ready_ticket : List Entry → List (List Queued) → ℕ → Option ℕ
ready_ticket waiters lanes place = if is_waiting (place + 1) waiters then None else first_ticket (backlog lanes place)

-- the least of the numbers at the first so many places, behind its place
abbrev pub IsLeast : (ℕ → Option ℕ) → ℕ → Option (ℕ × ℕ) → Type 0
IsLeast f n None = (k : ℕ) → k < n → f k ≡ None
IsLeast f n (Some best) = (best.0 < n) × (f best.0 ≡ Some best.1) × ((k x : ℕ) → k < n → f k ≡ Some x → best.1 ≤ x)

-- the place of the least number, or that there is no number
abbrev pub IsFirst : (ℕ → Option ℕ) → ℕ → Option ℕ → Type 0
IsFirst f n None = (k : ℕ) → k < n → f k ≡ None
IsFirst f n (Some place) = (number : ℕ) × IsLeast f n (Some (place, number))

abbrev pub lesser_at : Bool → ℕ × ℕ → ℕ → ℕ → ℕ × ℕ
lesser_at true best place number = best
lesser_at false best place number = (place, number)

-- what was found, or the number at one more place if it is less
abbrev pub lesser_of : Option (ℕ × ℕ) → ℕ → Option ℕ → Option (ℕ × ℕ)
lesser_of best place None = best
lesser_of None place (Some number) = Some (place, number)
lesser_of (Some best) place (Some number) = Some (lesser_at (nat_le best.1 number) best place number)
