-- The entries of a queue, by their sessions. Each has a ticket; one that was queued later has a greater one.
use Rattle.std.specs.Prelude.{◌≡◌, ◌≤◌, ◌<◌, ◌+◌, ◌==◌, ℕ, Bool, List, [], ◌∷◌, ◌++◌, length, filter, if◌then◌else◌, slice_index_or, slice_set}
use Rattle.hs_turns.specs.Each.{Each}
use Rattle.hs_turns.specs.Waiting.{Entry}

-- an entry with its ticket
pub record Queued : Type 0 where
  pub ticket : ℕ
  pub entry : Entry

abbrev pub is_of : ℕ → Queued → Bool
is_of s q = q.entry.session == s

-- the entries of the session at a place, which is session 1 at place 0
abbrev pub backlog : List (List Queued) → ℕ → List Queued
backlog lanes place = slice_index_or lanes place []

-- how many there are
abbrev pub count_in : List (List Queued) → ℕ
count_in [] = 0
count_in (l ∷ lanes) = length l + count_in lanes

-- these are the entries of a queue, by their sessions
pub record AreLanes (lanes : List (List Queued)) (queue : List Queued) : Type 0 where
  pub each : (place : ℕ) → backlog lanes place ≡ filter (is_of (place + 1)) queue
  pub known : Each (λ q. 1 ≤ q.entry.session) queue
  pub count : count_in lanes ≡ length queue

-- an entry is put behind those of its session
pub record IsPushed (old : List (List Queued)) (q : Queued) (new : List (List Queued)) : Type 0 where
  pub each : (place : ℕ) → backlog new place ≡ (if is_of (place + 1) q then backlog old place ++ q ∷ [] else backlog old place)
  pub count : count_in new ≡ count_in old + 1

-- there may be more lists, which are empty
pub record Grows (old new : List (List Queued)) : Type 0 where
  pub each : (place : ℕ) → backlog new place ≡ backlog old place
  pub count : count_in new ≡ count_in old

-- the first entry at a place is taken
pub record IsPopped (old : List (List Queued)) (place : ℕ) (q : Queued) (new : List (List Queued)) : Type 0 where
  pub rest : List Queued
  pub was : backlog old place ≡ q ∷ rest
  pub now : new ≡ slice_set old place rest

-- ---- tickets

abbrev pub ticket_of : Queued → ℕ
ticket_of q = q.ticket

abbrev pub entry_in : Queued → Entry
entry_in q = q.entry

-- each is less than those behind it
abbrev pub Ascends : List ℕ → Type 0
Ascends [] = Unit {0}
Ascends (n ∷ ns) = Each (λ k. n < k) ns × Ascends ns
