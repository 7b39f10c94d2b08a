-- What a reader takes of the input, and how it goes on.
use Rattle.std.specs.Prelude.{◌≡◌, ℕ, ◌+◌, ◌<◌, ◌≤◌, Bool, true, false, List, [], ◌++◌, length, Option, None, Some, MatchOption, IfNone}
use Rattle.hs_entries.specs.declared.item.Item.{Item}
use Rattle.hs_entries.specs.declared.item.Item.TheVariants.{End}
use Rattle.hs_entries.specs.declared.reader.EntryReader.{EntryReader}
use Rattle.hs_entries.specs.Asking.{AreNeeded, given_by}
use Rattle.hs_entries.specs.Left.{Left, Takes, TakesFirst, TakesWhole, Continues, RunsOut, KeepsRoom, IsNumbered, whole_of}
use Rattle.hs_entries.specs.Reader.{ahead, room, next_number, has_ended, is_ready_with, left, left_items, left_whole, left_over, Grows, Shrinks}
use Rattle.hs_entries.specs.Window.{begun_of, left_of, IsFresh}

-- Of the items that are left the first is taken, among those within the limit too, and the bytes that it uses may not be used
-- again.
pub record TakesItem (old : EntryReader) (before : List ℕ) (item : Item) (new : EntryReader) (after : List ℕ) : Type 0 where
  pub first : TakesFirst (left_items old before) item (left_items new after)
  pub whole : RunsOut (left old before) → TakesWhole (left_whole old before) item (left_whole new after)
  pub used : KeepsRoom (left old before) (left new after)

-- An item has the next number and uses bytes. Where it is the end, the reader has ended and nothing is at hand.
pub record Counts (old : EntryReader) (item : Item) (new : EntryReader) : Type 0 where
  pub number : IsNumbered item (next_number old) (next_number new)
  pub shrinks : Shrinks item (room old) (room new)
  pub end : item ≡ End → (has_ended new ≡ true) × (ahead new ≡ [])

-- an item is taken of what was left, or none is
abbrev pub Becomes : Left → Option Item → Left → Type 0
Becomes before None after = Continues before after
Becomes before (Some item) after = Takes before item after

-- The same for the reader. Where none is taken, more bytes are at hand than were.
pub record GoesOn (old : EntryReader) (item : Option Item) (new : EntryReader) : Type 0 where
  pub number : MatchOption item (next_number new ≡ next_number old) (λ i. IsNumbered i (next_number old) (next_number new))
  pub grows : IfNone item (Grows old new)
  pub shrinks : MatchOption item (room new ≤ room old) (λ i. Shrinks i (room old) (room new))
  pub ended : MatchOption item (has_ended new ≡ false) (λ i. i ≡ End → (has_ended new ≡ true) × (ahead new ≡ []))

-- the same in an entry or a comment whose front was used before
pub record Passes (old : EntryReader) (item : Option Item) (new : EntryReader) : Type 0 where
  pub number : MatchOption item (next_number new ≡ next_number old) (λ i. IsNumbered i (next_number old) (next_number new))
  pub grows : room new + length (ahead old) ≤ room old + length (ahead new)
  pub shrinks : room new ≤ room old
  pub ended : MatchOption item (has_ended new ≡ false) (λ i. i ≡ End → (has_ended new ≡ true) × (ahead new ≡ []))

-- One read gave bytes behind those that are begun, or none.
pub record Refills (old : EntryReader) (got : Bool) (new : EntryReader) : Type 0 where
  pub begun : begun_of new.window ≡ begun_of old.window
  pub fresh : IsFresh old.window → IsFresh new.window
  pub fresh_room : IsFresh old.window → room new ≡ room old
  pub more : got ≡ true → Grows old new
  pub some : got ≡ true → 0 < length (left_of new.window)
  pub none : got ≡ false → left_of new.window ≡ []
  pub on : (rest : List ℕ) → Continues (left_over old (left_of new.window ++ rest)) (left_over new rest)

-- They are those that the source had left, and none only at its end.
pub record GetsMore (old : EntryReader) (before : List ℕ) (more : Bool) (new : EntryReader) (after : List ℕ) : Type 0 where
  pub continues : Continues (left_over old before) (left_over new after)
  pub bytes : IsFresh old.window → ahead new ++ after ≡ ahead old ++ before
  pub end : more ≡ false → after ≡ []

-- no item was counted, no fault kept, and no end seen
pub record KeepsCount (old new : EntryReader) : Type 0 where
  pub count : new.count ≡ old.count
  pub kept : new.kept ≡ old.kept
  pub ended : new.has_ended ≡ old.has_ended

-- Reads that were needed lead from one state of a source to another. An item is the first that is whole among the bytes that a reader
-- had at hand and those that they gave, and the others are those that are left for it, whatever bytes come behind.
pub record IsGiven {T : Type 0} (reads : T → T → List ℕ → Type 0) (before : EntryReader) (item : Item) (after : EntryReader) (old new : T) : Type 0 where
  pub made : List (T × List ℕ)
  pub needed : AreNeeded reads (λ given. is_ready_with before given ≡ false) made old new
  pub room : KeepsRoom (left_over before (given_by made)) (left_over after [])
  pub whole : (rest : List ℕ) → TakesWhole (whole_of (left_over before (given_by made ++ rest))) item (whole_of (left_over after rest))
