-- What a run at work stands for, and how it goes on.
use Rattle.std.specs.Prelude.{◌≡◌, ℕ, ◌+◌, ◌≤◌, true, false, List, [], ◌++◌, length, None, Result, OnOk}
use Rattle.hs_host.specs.declared.source.Source as source
use Rattle.hs_host.specs.declared.host.Host as host
use Rattle.hs_host.specs.Files.{IsOpen}
use Rattle.hs_host.specs.Moments.{Moment, Since}
use Rattle.hs_host.specs.Used.{Told}
use Rattle.hs_entries.specs.declared.item.Item.{Item}
use Rattle.hs_entries.specs.Left.{RunsOut, KeepsRoom, whole_of}
use Rattle.hs_entries.specs.declared.reader.EntryReader.{EntryReader}
use Rattle.hs_entries.specs.Reader.{AgreesWith, ahead as reader_ahead, has_ended, kept as fault_kept, left as input_left, left_items, left_over, left_whole, next_number, room}
use Rattle.hs_log.specs.declared.log.Log.{Log}
use Rattle.hs_log.specs.Log.{IsLog, epoch_in}
use Rattle.hs_run.specs.declared.running.Running.{Running}
use Rattle.hs_run.specs.declared.stop.Stop.{Stop}
use Rattle.hs_run.specs.declared.turns.Turns as turns
use Rattle.hs_run.specs.Crash.{IsHeld, texts_in}
use Rattle.hs_run.specs.Holding.{WritesPrefix}
use Rattle.hs_run.specs.Future.{Future}
use Rattle.hs_run.specs.Items.{AreTold}
use Rattle.hs_run.specs.Outgoing.{IsServing, IsTelling}
use Rattle.hs_run.specs.Pieces.{Piece, AreTrue, told_by, made_by}
use Rattle.hs_run.specs.Prompt.{Due, IsOnTime}
use Rattle.hs_run.specs.Used.{TakesTurns}

-- all pieces that are left over these items to the end of the run
abbrev pub pieces : Future → List Item → List Piece
pieces f items = f.taken items ++ f.closing items

-- the same for a run that has so much of its input unread
abbrev pub ahead : {T : Type 0} → Future → Running T → List ℕ → List Piece
ahead f r unread = pieces f (left_items r.reader unread)

-- those that come with the items that are whole within the limit of the input
abbrev pub ahead_within : {T : Type 0} → Future → Running T → List ℕ → List Piece
ahead_within f r unread = f.taken (left_whole r.reader unread)

-- over any items such as an input has no piece tells of a commit that isn't made
abbrev pub IsTrue : Future → Type 0
IsTrue f = (items : List Item) → AreTold items → AreTrue f.commits (pieces f items)

-- the input goes beyond the bytes that may be used
abbrev pub IsTooLong : {T : Type 0} → Running T → List ℕ → Type 0
IsTooLong r unread = RunsOut (input_left r.reader unread)

-- no piece is left at the end of the input
abbrev pub HasNoneAhead : {T : Type 0} → turns.Ghosts T → T → Type 0
HasNoneAhead t turns = (f : Future) → t.has_ahead turns f → pieces f [] ≡ []

-- The run may go on, and this is ahead of it: what goes out does, what is left to be told is true, and the commits of turns are
-- those that are logged or gathered.
pub record IsSane {T H : Type 0} (t : turns.Ghosts T) (s : source.Ghosts H) (g : host.Ghosts H) (f : Future) (r : Running T) (h : H) : Type 0 where
  pub at : t.has_ahead r.turns f
  pub serving : IsServing s g r.outgoing h
  pub is_true : s.tells → AreTrue f.commits (ahead f r (s.unread h))
  pub counted : Told s g h → f.commits ≡ length (texts_in (g.files h)) + length r.outgoing.gathered.made

-- A run may begin, and this is ahead of it: the host's files are open, the log is of the first epoch and kept as it is, also on the
-- disk, what turns tell over any items is true, and each of their commits is one of its texts.
pub record IsBeginning {T H : Type 0} (t : turns.Ghosts T) (s : source.Ghosts H) (g : host.Ghosts H) (f : Future) (turns : T) (log : Log) (h : H) : Type 0 where
  pub at : t.has_ahead turns f
  pub opened : IsOpen (g.standing h)
  pub epoch : epoch_in log ≡ 1
  pub kept : Told s g h → IsLog (g.history h) (g.files h) log
  pub is_true : IsTrue f
  pub counted : Told s g h → f.commits ≡ length (texts_in (g.files h))

-- The reader of a run keeps no fault.
pub record IsReading {T H : Type 0} (s : source.Ghosts H) (r : Running T) (h : H) : Type 0 where
  pub kept : fault_kept r.reader ≡ None
  pub agrees : s.tells → AgreesWith r.reader (s.unread h)

-- a reader has the same ahead of it, and keeps what it kept
pub record IsSameReader (old new : EntryReader) : Type 0 where
  pub left : (rest : List ℕ) → input_left new rest ≡ input_left old rest
  pub ahead : reader_ahead new ≡ reader_ahead old
  pub room : room new ≡ room old
  pub number : next_number new ≡ next_number old
  pub kept : fault_kept new ≡ fault_kept old
  pub ended : has_ended new ≡ has_ended old

-- The input is at its end, and all of it was taken.
pub record IsOver (r : EntryReader) : Type 0 where
  pub ended : has_ended r ≡ true
  pub none : reader_ahead r ≡ []

-- What is due when so much of the input was taken, and until the input has ended when any bytes that may be used come behind it, is what
-- was written and gathered, or logged and gathered, with what comes of the items that are whole in the bytes at hand and in these.
pub record IsDue {T H : Type 0} (g : host.Ghosts H) (due : Due) (start : Moment) (f : Future) (r : Running T) (h : H) : Type 0 where
  pub given : List ℕ
  pub taken : (g.history h).now.taken ≡ start.taken ++ given
  pub told : has_ended r.reader ≡ false → (rest : List ℕ) → length (reader_ahead r.reader ++ rest) ≤ room r.reader
      → g.written h ++ (r.outgoing.gathered.told ++ told_by (f.taken (whole_of (left_over r.reader rest)))) ≡ start.out ++ due.told (given ++ rest)
  pub made : has_ended r.reader ≡ false → (rest : List ℕ) → length (reader_ahead r.reader ++ rest) ≤ room r.reader
      → texts_in (g.files h) ++ (r.outgoing.gathered.made ++ made_by (f.taken (whole_of (left_over r.reader rest)))) ≡ due.made (given ++ rest)

-- What is left to be told and logged is what was left before, with what is gathered; what is due is so still; and the reader counts what
-- it takes.
pub record GoesOn {T H : Type 0} (s : source.Ghosts H) (g : host.Ghosts H) (f : Future) (old_run : Running T) (old : H) (next : Future) (new_run : Running T) (new : H) : Type 0 where
  pub told : s.tells → g.written new ++ (new_run.outgoing.gathered.told ++ told_by (ahead next new_run (s.unread new))) ≡ g.written old ++ (old_run.outgoing.gathered.told ++ told_by (ahead f old_run (s.unread old)))
  pub within : s.tells → IsTooLong old_run (s.unread old)
      → g.written new ++ (new_run.outgoing.gathered.told ++ told_by (ahead_within next new_run (s.unread new))) ≡ g.written old ++ (old_run.outgoing.gathered.told ++ told_by (ahead_within f old_run (s.unread old)))
  pub made : Told s g old → texts_in (g.files new) ++ (new_run.outgoing.gathered.made ++ made_by (ahead next new_run (s.unread new))) ≡ texts_in (g.files old) ++ (old_run.outgoing.gathered.made ++ made_by (ahead f old_run (s.unread old)))
  pub commits : s.tells → next.commits + length (made_by (ahead next new_run (s.unread new))) ≡ f.commits + length (made_by (ahead f old_run (s.unread old)))
  pub count : s.tells → KeepsRoom (input_left old_run.reader (s.unread old)) (input_left new_run.reader (s.unread new))
  pub due : Told s g old → (due : Due) (start : Moment) → IsDue g due start f old_run old → IsDue g due start next new_run new

-- The run has something ahead of it again, with which it goes on.
pub record HasNext {T H : Type 0} (t : turns.Ghosts T) (s : source.Ghosts H) (g : host.Ghosts H) (f : Future) (old_run : Running T) (old : H) (new_run : Running T) (new : H) : Type 0 where
  pub future : Future
  pub sane : IsSane t s g future new_run new
  pub goes_on : GoesOn s g f old_run old future new_run new

-- A part of a run that has this ahead of it: whatever it ends with, a prefix of what was left to be told was written, and a crash
-- at each moment leaves a log of what was logged and a front of what was left to be logged. What is due is written and logged before
-- input is asked for. Where it doesn't stop, the run goes on.
pub record Follows {R T H : Type 0} (t : turns.Ghosts T) (s : source.Ghosts H) (g : host.Ghosts H) (f : Future) (old_run : Running T) (old : H) (new_run : Running T) (new : H) (result : Result R Stop) : Type 0 where
  pub next : OnOk result (HasNext t s g f old_run old new_run new)
  pub telling : Told s g old → (least : ℕ) (before : List ℕ) → IsTelling least before g old_run.outgoing old → OnOk result (IsTelling least before g new_run.outgoing new)
  pub front : s.tells → WritesPrefix (g.written old) (g.written new) (old_run.outgoing.gathered.told ++ told_by (ahead f old_run (s.unread old)))
  pub moments : Told s g old → (least : ℕ) (before : List ℕ) → IsTelling least before g old_run.outgoing old
      → Since (IsHeld least (texts_in (g.files old) ++ (old_run.outgoing.gathered.made ++ made_by (ahead f old_run (s.unread old)))) before) (g.history old) (g.history new)
  pub prompt : Told s g old → (due : Due) (start : Moment) → IsDue g due start f old_run old → Since (IsOnTime due start) (g.history old) (g.history new)
  pub ends : TakesTurns s g old new result

-- so it is whatever is ahead of the run
abbrev pub MovesOn : {R T H : Type 0} → turns.Ghosts T → source.Ghosts H → host.Ghosts H → Running T → H → Running T → H → Result R Stop → Type 0
MovesOn t s g old_run old new_run new result = (f : Future) → IsSane t s g f old_run old → Follows t s g f old_run old new_run new result

-- the input is too long, and all was written that comes with the items that are whole within its limit
abbrev pub EndsWithin : {T H : Type 0} → turns.Ghosts T → source.Ghosts H → host.Ghosts H → Running T → H → H → Type 0
EndsWithin t s g old_run old new = (f : Future) → IsSane t s g f old_run old
    → IsTooLong old_run (s.unread old) × (g.written new ≡ g.written old ++ (old_run.outgoing.gathered.told ++ told_by (ahead_within f old_run (s.unread old))))
