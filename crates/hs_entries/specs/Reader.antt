-- What a reader has at hand, and what it takes from the input.
use Rattle.std.specs.Prelude.{◌≡◌, ℕ, ◌+◌, ◌<◌, ◌≤◌, Bool, true, false, ◌||◌, nat_lt, List, [], ◌++◌, Option, is_some, length, take, if◌then◌else◌}
use Rattle.hs_host.specs.declared.host_fault.HostFault.{HostFault}
use Rattle.hs_host.specs.declared.host_fault.HostFault.TheVariants as host
use Rattle.hs_entries.specs.declared.input_fault.InputFault.{InputFault}
use Rattle.hs_entries.specs.declared.input_fault.InputFault.TheVariants as input
use Rattle.hs_entries.specs.declared.item.Item.{Item}
use Rattle.hs_entries.specs.declared.item.Item.TheVariants.{Bad, TooLong, End}
use Rattle.hs_entries.specs.declared.window.Look.{Look}
use Rattle.hs_entries.specs.declared.window.Look.TheVariants as look
use Rattle.hs_entries.specs.declared.reader.EntryReader.{EntryReader}
use Rattle.hs_entries.specs.declared.reader.Skim.{Skim}
use Rattle.hs_entries.specs.declared.reader.Skim.TheVariants.{Entry, Skipped, Limit, Nothing}
use Rattle.hs_entries.specs.declared.place.Place.{Place}
use Rattle.hs_entries.specs.declared.place.Place.TheVariants.{Between}
use Rattle.hs_entries.specs.Place.{is_entry}
use Rattle.hs_entries.specs.Items.{whole_items, has_item}
use Rattle.hs_entries.specs.Left.{Left, items_of, whole_of, long, Takes, Continues, IsBeyond}
use Rattle.hs_entries.specs.Window.{ahead_of, room_of}

-- the bytes that were read from the source and not yet used
abbrev pub ahead : EntryReader → List ℕ
ahead r = ahead_of r.window

-- how many more bytes of the input may be used, these first
abbrev pub room : EntryReader → ℕ
room r = room_of r.window

-- the number of the next item
abbrev pub next_number : EntryReader → ℕ
next_number r = r.count + 1

-- the fault that it answered and now keeps
abbrev pub kept : EntryReader → Option InputFault
kept r = r.kept

-- a read gave it no byte
abbrev pub has_ended : EntryReader → Bool
has_ended r = r.has_ended

-- it asks its source no more
abbrev pub rests : EntryReader → Bool
rests r = is_some (kept r) || has_ended r

-- where the input has ended for the reader, its source has nothing left
abbrev pub AgreesWith : EntryReader → List ℕ → Type 0
AgreesWith r rest = has_ended r ≡ true → rest ≡ []

-- A whole item is among those of these bytes that may be used, or a byte beyond those is there.
abbrev pub is_answered : ℕ → ℕ → List ℕ → Bool
is_answered number room bytes = nat_lt room (length bytes) || has_item (whole_items number (take room bytes))

abbrev pub is_at_hand : EntryReader → Bool
is_at_hand r = is_answered (next_number r) (room r) (ahead r)

-- the next answer needs no more input
abbrev pub is_ready : EntryReader → Bool
is_ready r = rests r || is_at_hand r

-- it needs no more input than these bytes behind those at hand
abbrev pub is_ready_with : EntryReader → List ℕ → Bool
is_ready_with r more = rests r || is_answered (next_number r) (room r) (ahead r ++ more)

-- what is left for a reader behind whose bytes at hand these come
abbrev pub left_over : EntryReader → List ℕ → Left
left_over r rest = record { number = next_number r; place = Between; begun = []; room = room r; input = ahead r ++ rest }

-- what is left for a reader whose source has this left: once the input has ended for it, nothing but its bytes at hand
abbrev pub left : EntryReader → List ℕ → Left
left r rest = left_over r (if has_ended r then [] else rest)

-- the same in the middle of an entry or a comment that is too long to be kept, at this place
abbrev pub left_within : EntryReader → Place → List ℕ → Left
left_within r place rest = record { number = next_number r; place = place; begun = long; room = room r; input = ahead r ++ rest }

-- the items that a reader gives whose source has this left
abbrev pub left_items : EntryReader → List ℕ → List Item
left_items r rest = items_of (left r rest)

-- those that are whole among the bytes that may be used
abbrev pub left_whole : EntryReader → List ℕ → List Item
left_whole r rest = whole_of (left r rest)

-- an item uses bytes, and the end may use none
abbrev pub Shrinks : Item → ℕ → ℕ → Type 0
Shrinks End before now = now ≤ before
Shrinks item before now = now < before

-- what a fault of the host is for the reader
abbrev pub input_fault_of : HostFault → InputFault
input_fault_of host.Fault = input.Fault
input_fault_of host.NoMemory = input.NoMemory

-- more bytes are at hand than were, not counting those used
abbrev pub Grows : EntryReader → EntryReader → Type 0
Grows old new = room new + length (ahead old) < room old + length (ahead new)

-- the look found something
abbrev pub finds : Look → Bool
finds look.Nothing = false
finds _ = true

-- the item of what leads to a place, where the input ends
abbrev pub cut_at : Place → Bool → ℕ → Item
cut_at place is_too_long number =
    if is_entry place then (if is_too_long then TooLong number else Bad number) else End

-- what becomes of a long entry or comment, where bytes are used from a place on
abbrev pub Skims : EntryReader → Place → List ℕ → Skim → EntryReader → Type 0
Skims old from rest Entry new =
    Takes (left_within old from rest) (TooLong (next_number old)) (record (left_over new rest) { number = next_number old + 1 })
Skims old from rest Skipped new = Continues (left_within old from rest) (left_over new rest)
Skims old from rest Limit new = IsBeyond (left_within old from rest) × (room new < length (ahead new))
Skims old from rest (Nothing place) new = Continues (left_within old from rest) (left_within new place rest) × (ahead new ≡ [])
