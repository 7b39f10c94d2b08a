-- What the sessions hold.
use Rattle.std.specs.Prelude.{◌≤◌, ◌-◌, ◌==◌, ◌&&◌, ℕ, not, Bool, length, slice_index_or, if◌then◌else◌}
use Rattle.hs_claims.specs.declared.blockers.Blockers.{Blockers}
use Rattle.hs_claims.specs.Blockers.{has}
use Rattle.hs_waits.specs.Waits.{waits_of}
use Rattle.hs_holding.specs.declared.holding.Holding.{Holding}
use Rattle.hs_holding.specs.declared.seat.Seat.{Seat}
use Rattle.hs_holding.specs.Seats.{is_open_seat, nobody_seat}

-- a number of one of so many sessions
abbrev pub IsNumber : ℕ → ℕ → Type 0
IsNumber n s = (1 ≤ s) × (s ≤ n)

abbrev pub IsSeat : Holding → ℕ → Type 0
IsSeat h s = IsNumber (length h.seats.items) s

abbrev pub seat_of : Holding → ℕ → Seat
seat_of h s = slice_index_or h.seats.items (s - 1) nobody_seat

abbrev pub is_open_at : Holding → ℕ → Bool
is_open_at h s = is_open_seat (seat_of h s)

-- which session waits for which
abbrev pub Waits : Type 0
Waits = ℕ → ℕ → Bool

abbrev pub graph : Holding → Waits
graph h = λ a b. has (waits_of h.waits a) b

-- a session waits for these, in place of those before
abbrev pub waits_by : ℕ → Blockers → Waits → Waits
waits_by s blockers waits = λ a b. if a == s then has blockers b else waits a b

-- it waits for nobody
abbrev pub answered : ℕ → Waits → Waits
answered s waits = λ a b. not (a == s) && waits a b

-- nobody waits for it
abbrev pub freed : ℕ → Waits → Waits
freed s waits = λ a b. not (b == s) && waits a b
