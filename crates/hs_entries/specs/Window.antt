-- The bytes at hand.
use Rattle.std.specs.Prelude.{◌≡◌, ℕ, ◌+◌, ◌-◌, ◌^◌, ◌<◌, ◌≤◌, ◌↔◌, IsTrue, Bool, true, false, List, [], ◌++◌, Some, length, slice_range, slice_index}
use Rattle.hs_entries.specs.declared.window.Window.{Window}
use Rattle.hs_entries.specs.declared.place.Place.TheVariants.{Between}
use Rattle.hs_entries.specs.Place.{leads, passes, ends}

-- the bytes that are skipped
abbrev pub skipped_of : Window → List ℕ
skipped_of w = slice_range w.buffer.items w.start w.first

-- those of the entry or the comment that is begun
abbrev pub begun_of : Window → List ℕ
begun_of w = slice_range w.buffer.items w.first w.at

-- those that weren't looked at
abbrev pub left_of : Window → List ℕ
left_of w = slice_range w.buffer.items w.at w.end

-- all that are at hand
abbrev pub ahead_of : Window → List ℕ
ahead_of w = slice_range w.buffer.items w.start w.end

-- how many of them, and of those that come behind them, may be used
abbrev pub room_of : Window → ℕ
room_of w = w.room + (w.at - w.start)

pub record IsSound (w : Window) : Type 0 where
  pub skipped : w.start ≤ w.first
  pub begun : w.first ≤ w.at
  pub left : w.at ≤ w.end
  pub end : w.end ≤ length w.buffer.items
  pub size : 0 < length w.buffer.items → length w.buffer.items ≡ 131072
  pub room : room_of w < 2 ^ 64
  pub skips : passes Between (skipped_of w) ≡ Some Between
  pub leads : leads Between (begun_of w) ≡ Some w.place

-- an entry ends with the next byte
pub record IsAtEnd (w : Window) : Type 0 where
  pub next : w.at < w.end
  pub room : 0 < w.room
  pub ends : ends w.place (slice_index w.buffer.items w.at) ≡ true

-- nothing is skipped and nothing begun
abbrev pub IsFresh : Window → Type 0
IsFresh w = w.start ≡ w.at

-- One read gave bytes behind those that are begun, or none, and what was skipped is dropped.
pub record Refilled (old : Window) (got : Bool) (new : Window) : Type 0 where
  pub fresh : IsFresh old → IsFresh new
  pub begun : begun_of new ≡ begun_of old
  pub skipped : skipped_of new ≡ []
  pub place : new.place ≡ old.place
  pub more : IsTrue got ↔ (0 < length (left_of new))

-- They are those that the source had left, and none only at its end.
pub record GetsBytes (before : List ℕ) (more : Bool) (bytes_got after : List ℕ) : Type 0 where
  pub bytes : bytes_got ++ after ≡ before
  pub end : more ≡ false → after ≡ []
