-- Turns: which item comes next, and what a run tells.
use Rattle.std.specs.Prelude.{ℕ, zero, suc, ◌+◌, ◌*◌, ◌==◌, ◌||◌, nat_lt, not, Bool, true, false, if◌then◌else◌, List, [], ◌∷◌, ◌++◌, length, map, filter, find, Option, None, Some, codes}
use Rattle.std.specs.List.{list_any}
use Rattle.hs_entries.specs.declared.item.Item.{Item}
use Rattle.hs_entries.specs.declared.item.Item.TheVariants as item
use Rattle.hs_schema.specs.Catalogue.{Text}
use Rattle.hs_sessions.specs.Book.{number_from}
use Rattle.hs_turns.specs.Database.{Database}
use Rattle.hs_turns.specs.Dialect.{Dialect, refused_words}
use Rattle.hs_turns.specs.Lines.{Line, Words, OfItem, EndOf, Replies, no_session}
use Rattle.hs_turns.specs.Waiting.{Entry, answered, is_waiting, ascending}
use Rattle.hs_turns.specs.Machine.{Machine, name_of, with_session, is_open}
use Rattle.hs_turns.specs.Attempts.{Attempt, attempt, left_own, present}

-- what a turn tells, and the machine behind it
pub record Turned : Type 0 where
  pub lines : List Line
  pub next : Machine

abbrev pub quietly : Machine → Turned
quietly m = record { lines = []; next = m }

-- ---- entries

abbrev pub lines_of : Entry → Machine → List Words → List Line
lines_of entry m words = map (OfItem entry.number (name_of m entry.session)) words

-- a first attempt: an entry that isn't answered is the last of the waiters
abbrev pub begun_by : Bool → Entry → Attempt → Turned
begun_by true entry a = record { lines = lines_of entry a.next a.words; next = a.next }
begun_by false entry a = record { lines = lines_of entry a.next a.words; next = record a.next { seen = a.next.seen ++ entry ∷ [] } }

-- a waiter's attempt: one that still waits is told nothing
abbrev pub retried_by : Bool → Entry → Attempt → Turned
retried_by true entry a = record { lines = lines_of entry a.next a.words; next = record a.next { waits = answered entry.session a.next.waits; again = true } }
retried_by false entry a = record { lines = []; next = record a.next { seen = a.next.seen ++ entry ∷ [] } }

-- the first queued entry whose session doesn't wait, and the others
abbrev pub ready_among : List Entry → List Entry → Option (Entry × List Entry)
ready_among waiters [] = None
ready_among waiters (q ∷ queue) =
    if is_waiting q.session waiters then elim (ready_among waiters queue) [ None ↦ None | Some found ↦ Some (found.0, q ∷ found.1) ]
    else Some (q, queue)

-- the whole text of an entry
abbrev pub whole_text : Text → Text → Text
whole_text name statement = name ++ codes ":" ++ statement

abbrev pub no_entry : ℕ → Text → Machine → Turned
no_entry number why m = record { lines = OfItem number no_session (Replies (refused_words why) None) ∷ []; next = m }

-- ---- closing

abbrev pub is_closed : Machine → ℕ → Bool
is_closed m s = list_any (λ c. c == s) m.closed

-- the first session that doesn't wait and isn't closed
abbrev pub closes_next : Machine → Option ℕ
closes_next m = find (λ s. not (is_waiting s m.seen || is_closed m s)) (ascending 1 (length m.names))

abbrev pub with_closed : ℕ → Machine → Machine
with_closed s m = record m { closed = s ∷ m.closed }

module _ (d : Dialect) (opening : Database) (made : ℕ) where
  abbrev pub begins : Entry → Machine → Turned
  begins entry m = let a = attempt d opening made true entry m in begun_by a.final entry a

  abbrev pub retries : Entry → Machine → Turned
  retries entry m = let a = attempt d opening made false entry m in retried_by a.final entry a

  -- an entry of a session that waits is queued
  abbrev pub admits : Bool → Entry → Machine → Turned
  admits true entry m = quietly (record m { queue = m.queue ++ entry ∷ [] })
  admits false entry m = begins entry m

  -- by the number of its session; a new name makes a session, as long as there are fewer than 64
  abbrev pub of_session : Option ℕ → ℕ → Text → Text → Machine → Turned
  of_session (Some s) number name statement m = admits (is_waiting s m.seen) (record { number = number; session = s; text = whole_text name statement }) m
  of_session None number name statement m =
      if nat_lt (length m.names) 64 then
      begins (record { number = number; session = length m.names + 1; text = whole_text name statement }) (with_session name (present d opening made m).level m)
      else record { lines = OfItem number name (Replies (refused_words (codes "sessions")) None) ∷ []; next = m }

  abbrev pub reads : Item → Machine → Turned
  reads (item.Entry number name statement at) m = of_session (number_from 1 name m.names) number name statement m
  reads (item.Bad number) m = no_entry number (codes "entry") m
  reads (item.TooLong number) m = no_entry number (codes "too long") m
  reads item.End m = quietly m

  -- a session is closed, and its open transaction rolled back
  abbrev pub closes : Bool → ℕ → Machine → Turned
  closes true s m = record { lines = EndOf (name_of m s) ∷ []; next = with_closed s (left_own d opening made s m) }
  closes false s m = quietly (with_closed s m)

  abbrev pub closing : Option ℕ → Machine → Option Turned
  closing None m = None
  closing (Some s) m = Some (closes (is_open m s) s m)

  -- ---- the order of turns

  abbrev pub from_input : List Item → Machine → Option Turned
  from_input (i ∷ items) m = Some (reads i (record m { unread = items }))
  from_input [] m = closing (closes_next m) m

  abbrev pub from_queue : Option (Entry × List Entry) → Machine → Option Turned
  from_queue (Some found) m = Some (begins found.0 (record m { queue = found.1 }))
  from_queue None m = from_input m.unread m

  -- a pass over the waiters is repeated until nothing ends or is answered in it
  abbrev pub after_pass : Bool → Machine → Option Turned
  after_pass true m = Some (quietly (record m { seen = []; pass = m.seen; again = false }))
  after_pass false m = from_queue (ready_among m.seen m.queue) m

  abbrev pub in_pass : List Entry → Machine → Option Turned
  in_pass (w ∷ ws) m = Some (retries w (record m { pass = ws }))
  in_pass [] m = after_pass m.again m

  -- The next turn, and none where the run is over: the waiters, as long as a pass over them is due; the first
  -- queued entry whose session doesn't wait; the next item of the input; and at its end the first session that
  -- doesn't wait is closed.
  abbrev pub turn : Machine → Option Turned
  turn m = in_pass m.pass m

  -- ---- runs

  -- the machine after so many turns, or where it stays when the run is over
  unfoldable pub after : ℕ → Machine → Machine
  after zero m = m
  after (suc n) m = elim (turn m) [ None ↦ m | Some t ↦ after n t.next ]

  -- what they tell
  unfoldable pub lines : ℕ → Machine → List Line
  lines zero m = []
  lines (suc n) m = elim (turn m) [ None ↦ [] | Some t ↦ t.lines ++ lines n t.next ]

-- ---- an end

abbrev pub flag : Bool → ℕ
flag true = 1
flag false = 0

abbrev pub waiters : Machine → ℕ
waiters m = length m.seen + length m.pass

-- how many sessions aren't closed
abbrev pub unclosed : Machine → ℕ
unclosed m = length (filter (λ s. not (is_closed m s)) (ascending 1 (length m.names)))

-- how much is left to do, at most
abbrev pub work : Machine → ℕ
work m = 7 * length m.unread + 4 * length m.queue + 2 * waiters m + 2 * unclosed m + flag m.again

-- each turn lowers it
abbrev pub weight : Machine → ℕ
weight m = (length m.unread + length m.queue + waiters m + 1) * work m + length m.pass
