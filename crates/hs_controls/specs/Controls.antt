-- Statements on settings and savepoints.
use Rattle.std.specs.Prelude.{◌≡◌, ℕ, ◌==◌, ◌&&◌, not, Bool, true, false, List, ◌++◌, None, length, take, codes}
use Rattle.hs_turns.specs.Histories.{Commit}
use Rattle.hs_lines.specs.declared.words.Words.{Words as Said}
use Rattle.hs_plan.specs.declared.change.Change.{Change}
use Rattle.hs_seams.specs.World.{World}
use Rattle.hs_seams.specs.declared.attempted.Attempted.{Attempted}
use Rattle.hs_sessions.specs.declared.control.Control.{Control}
use Rattle.hs_sessions.specs.declared.control.ControlReply.{ControlReply}
use Rattle.hs_sessions.specs.declared.control.ControlReply.TheVariants as reply
use Rattle.hs_sessions.specs.Settings.{controlled}
use Rattle.hs_turns.specs.Attempts.{is_savepoint, savepoint_of}
use Rattle.hs_turns.specs.Dialect.{open_transaction}
use Rattle.hs_holding.specs.declared.holding.Holding.{Holding}
use Rattle.hs_holding.specs.declared.seat.Seat.{Seat}
use Rattle.hs_holding.specs.Held.{seat_of}
use Rattle.hs_holding.specs.Seats.{is_open_seat}
use Rattle.hs_moves.specs.Answers.{ok_told, refusal_told}
use Rattle.hs_moves.specs.Fits.{changes_of}
use Rattle.hs_moves.specs.Parts.{Parts}
use Rattle.hs_controls.specs.Called.{IsControlled}

-- SAVEPOINT begins a transaction, where none is open and autocommit is off
abbrev pub begins_first : Control → Seat → Bool
begins_first control seat = is_savepoint control && not seat.session.autocommit && not (is_open_seat seat)

-- the reply behind the words that were told before
abbrev pub control_told : World → List Said → ControlReply → Control → List Said
control_told w told reply.Ok control = ok_told told None
control_told w told reply.OpenTransaction control = refusal_told told open_transaction
control_told w told reply.NoSavepoint control = refusal_told told (codes "no savepoint " ++ w.run.dialect.printed_name (savepoint_of control))

-- the changes that are left to the session are on the database, where it is seated; else those that were there
pub record IsTakenBack {S : Type 0} (At : S → World → List Commit → List Change → Type 0) (w : World) (commits : List Commit) (old new : Parts S) (s : ℕ) : Type 0 where
  pub own : old.seated.0 ≡ s → At new.store w commits (take (length (changes_of new s)) (changes_of old s))
  pub other : (old.seated.0 == s) ≡ false → At new.store w commits (changes_of old old.seated.0)

-- the statement is done on what sessions hold, on the database too, and it is told
pub record IsSet {S : Type 0} (At : S → World → List Commit → List Change → Type 0) (w : World) (commits : List Commit) (control : Control) (s : ℕ) (old : Parts S) (begun : Holding) (new : Parts S) (r : Attempted) (old_told told : List Said) : Type 0 where
  pub sessions : IsControlled control begun new.holding s
  pub store : IsTakenBack At w commits old new s
  pub seated : new.seated ≡ old.seated
  pub commits_same : new.commits ≡ old.commits
  pub spans : new.spans ≡ old.spans
  pub final_is : r.is_final ≡ true
  pub ended_is : r.has_ended ≡ false
  pub told_is : told ≡ control_told w old_told (controlled control (seat_of begun s).session).0 control
