-- What is kept behind a data statement.
use Rattle.std.specs.Prelude.{ℕ, List}
use Rattle.hs_turns.specs.Histories.{Commit, others, put_open}
use Rattle.hs_seams.specs.World.{World}
use Rattle.hs_sides.specs.Sides.{side_of}
use Rattle.hs_turns.specs.Machine.{Machine}
use Rattle.hs_turns.specs.Waiting.{Entry, freed, waits_for}
use Rattle.hs_tied.specs.Kept.{Kept, used, with_waits}
use Rattle.hs_moves.specs.Evaluated.{data_after, data_own}
use Rattle.hs_moves.specs.Fits.{kept_of}

-- what is kept behind the statement, in its open transaction
abbrev pub kept_after : World → Machine → Entry → Kept
kept_after w m entry = record (kept_of (side_of m)) { open_ = put_open entry.session (data_after w m entry) m.history.open_; settings = used entry.session (kept_of (side_of m)) }

-- what is kept where that transaction has ended, with these commits
abbrev pub ended_with : World → Machine → Entry → List Commit → Kept
ended_with w m entry commits = record (kept_of (side_of m)) { commits = commits; open_ = others entry.session m.history.open_; settings = used entry.session (kept_of (side_of m)); waits = freed entry.session m.waits }

-- what is kept where it is open and waits for these sessions
abbrev pub kept_waiting : World → Machine → Entry → List ℕ → Kept
kept_waiting w m entry list = with_waits (waits_for entry.session list m.waits) (record (kept_of (side_of m)) { open_ = put_open entry.session (data_own w m entry) m.history.open_; settings = used entry.session (kept_of (side_of m)) })
