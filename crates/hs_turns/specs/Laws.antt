-- What runs promise.
use Rattle.std.specs.Prelude.{◌≡◌, ℕ, ◌+◌, ◌==◌, Bool, false, List, [], ◌∷◌, Option, None, Some, count_by}
use Rattle.std.specs.List.{flat_map}
use Rattle.hs_entries.specs.declared.item.Item.{Item}
use Rattle.hs_entries.specs.declared.item.Item.TheVariants as item
use Rattle.hs_turns.specs.Database.{Database}
use Rattle.hs_turns.specs.Events.{Event, reached}
use Rattle.hs_turns.specs.Histories.{History}
use Rattle.hs_turns.specs.Dialect.{Dialect, language_of}
use Rattle.hs_turns.specs.Lines.{Line, Words, OpenedAt, ClosedAt, OfItem, EndOf, RowOf, Replies, First, WaitsFor}
use Rattle.hs_turns.specs.Machine.{Machine, start}
use Rattle.hs_turns.specs.Turns.{after, turn}
use Rattle.hs_turns.specs.Waiting.{Entry}

-- events lead to this history
abbrev pub IsHistory : Dialect → Database → History → Type 0
IsHistory d opening h = (events : List Event) × (h ≡ reached (language_of d) opening events)

-- the history of a run over these items after so many turns
abbrev pub history_after : Dialect → Database → ℕ → List Item → ℕ → History
history_after d opening made items n = (after d opening made n (start opening items)).history

-- no turn is left
abbrev pub IsOver : Dialect → Database → ℕ → Machine → Type 0
IsOver d opening made m = turn d opening made m ≡ None

-- ---- items and their replies

abbrev pub is_item : ℕ → Item → Bool
is_item n (item.Entry number name statement at) = number == n
is_item n (item.Bad number) = number == n
is_item n (item.TooLong number) = number == n
is_item n item.End = false

abbrev pub is_entry : ℕ → Entry → Bool
is_entry n entry = entry.number == n

-- how many items of this number aren't read, or wait or are queued
abbrev pub owed : ℕ → Machine → ℕ
owed n m = count_by (is_item n) m.unread + count_by (is_entry n) m.queue + count_by (is_entry n) m.seen + count_by (is_entry n) m.pass

-- ---- commits and their lines

abbrev pub commit_of_reply : Option ℕ → List ℕ
commit_of_reply None = []
commit_of_reply (Some number) = number ∷ []

-- the commit of which words tell
abbrev pub commit_in : Words → List ℕ
commit_in (Replies text commit) = commit_of_reply commit
commit_in (First number) = number ∷ []
commit_in (RowOf row) = []
commit_in (WaitsFor names) = []

abbrev pub commits_in : List Words → List ℕ
commits_in words = flat_map commit_in words

-- the commits of which lines tell, in their order
abbrev pub commit_told : Line → List ℕ
commit_told (OfItem number session words) = commit_in words
commit_told (OpenedAt commits) = []
commit_told (ClosedAt commits) = []
commit_told (EndOf session) = []

abbrev pub commits_told : List Line → List ℕ
commits_told lines = flat_map commit_told lines
