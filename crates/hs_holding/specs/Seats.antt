-- What statements make of a session and its open transaction.
use Rattle.std.specs.Prelude.{ℕ, ◌==◌, ◌&&◌, not, Bool, true, false, List, Option, None, Some, is_some, if◌then◌else◌}
use Rattle.hs_ast.specs.declared.session.Isolation.TheVariants.{ReadCommitted}
use Rattle.hs_base.specs.declared.numbers.CommitNo.{CommitNo}
use Rattle.hs_claims.specs.declared.model.ControlKind.{ControlKind}
use Rattle.hs_claims.specs.declared.model.Level.{Level}
use Rattle.hs_claims.specs.declared.model.Level.TheVariants.{Rc, Ser, Snap}
use Rattle.hs_claims.specs.Wants.{reads_start_of}
use Rattle.hs_plan.specs.declared.change.Change.{Change}
use Rattle.hs_sessions.specs.Modes.{level_of}
use Rattle.hs_sessions.specs.Settings as session
use Rattle.hs_holding.specs.declared.seat.Own.{Own}
use Rattle.hs_holding.specs.declared.seat.Seat.{Seat}

-- that of no session
abbrev pub nobody_seat : Seat
nobody_seat = record { session = session.fresh ReadCommitted; auto = false }

abbrev pub is_open_seat : Seat → Bool
is_open_seat seat = is_some seat.session.transaction

-- what its open transaction is like under a model, or the one that a data statement would begin
abbrev pub own_in : ControlKind → Seat → Own
own_in kind seat = record {
  level = level_of kind (session.modes_of seat.session).isolation;
  read_only = (session.modes_of seat.session).read_only;
  auto = if is_open_seat seat then seat.auto else seat.session.autocommit;
}

abbrev pub begun : Bool → CommitNo → Seat → Seat
begun auto start seat = record { session = session.begun start seat.session; auto = auto }

-- its changes are more by these
abbrev pub added : List Change → Seat → Seat
added changes seat = record seat { session = session.added changes seat.session }

-- ---- what its open transaction reads

-- how many commits there were at its beginning
abbrev pub start_in : Seat → Option CommitNo
start_in seat = session.start_of seat.session

abbrev pub is_start : ℕ → Option CommitNo → Bool
is_start n None = false
is_start n (Some start) = start.0 == n

-- it is open, and reads the state behind so many commits
abbrev pub reads_from : ControlKind → ℕ → Seat → Bool
reads_from kind n seat = is_start n (start_in seat) && reads_start_of kind (own_in kind seat).level (own_in kind seat).read_only

abbrev pub is_at_snapshot : Level → Bool
is_at_snapshot Snap = true
is_at_snapshot Ser = false
is_at_snapshot Rc = false

-- it is open, and may conflict with commits since its beginning
abbrev pub may_conflict : ControlKind → Seat → Bool
may_conflict kind seat = is_open_seat seat && (is_at_snapshot (own_in kind seat).level && not (own_in kind seat).read_only)
