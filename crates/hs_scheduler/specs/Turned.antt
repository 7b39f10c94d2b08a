-- What a turn comes to.
use Rattle.std.specs.Prelude.{◌≡◌, ℕ, Bool, None, Some}
use Rattle.hs_futures.specs.Futures.{Gathers, Stirs, attempts, ends}
use Rattle.hs_run.specs.declared.gathered.Gathered.{Gathered}
use Rattle.hs_schema.specs.Catalogue.{Text}
use Rattle.hs_seams.specs.World.{World, texts_since}
use Rattle.hs_seams.specs.declared.engine.Engine as engine
use Rattle.hs_sides.specs.Sides.{attempted, side_of}
use Rattle.hs_turns.specs.Attempts.{present}
use Rattle.hs_turns.specs.Lines.{printed}
use Rattle.hs_turns.specs.Machine.{Machine, is_open, with_session}
use Rattle.hs_turns.specs.Turns.{Turned, admits, closes, of_session}
use Rattle.hs_turns.specs.Waiting.{Entry, is_waiting}
use Rattle.hs_scheduler.specs.declared.scheduler.Scheduler.{Scheduler}
use Rattle.hs_scheduler.specs.Standing.{IsMachine}

-- ---- turns

-- It was gathered, and the scheduler stands for the machine behind it.
pub record IsTurned {E : Type 0} (g : engine.Ghosts E) (w : World) (m : Machine) (t : Turned) (new : Scheduler E) (old_gathered gathered : Gathered) : Type 0 where
  pub gathers : Gathers w m t old_gathered gathered
  pub stands : IsMachine g new w t.next

-- So was one that needs no more of the input.
pub record IsStirred {E : Type 0} (g : engine.Ghosts E) (w : World) (m : Machine) (new : Scheduler E) (old_gathered gathered : Gathered) : Type 0 where
  pub turn : Turned
  pub stirs : Stirs w m turn
  pub turned : IsTurned g w m turn new old_gathered gathered

-- So was one that comes at the end of the input.
pub record IsEnded {E : Type 0} (g : engine.Ghosts E) (w : World) (m : Machine) (new : Scheduler E) (old_gathered gathered : Gathered) : Type 0 where
  pub turn : Turned
  pub is : ends w m ≡ Some turn
  pub turned : IsTurned g w m turn new old_gathered gathered

-- An entry was attempted: all is as behind the turn, but that it isn't among the waiters yet.
pub record IsTried {E : Type 0} (g : engine.Ghosts E) (new : Scheduler E) (w : World) (m : Machine) (is_first : Bool) (entry : Entry) (final : Bool) : Type 0 where
  pub is_final : final ≡ (attempted w.run m.names is_first entry (side_of m)).final
  pub text : new.text.items ≡ printed (attempts w is_first entry m).lines
  pub made : new.made ≡ texts_since w m.history.commits (attempts w is_first entry m).next.history.commits
  pub stands : IsMachine g new w (record (attempts w is_first entry m).next { seen = m.seen })

-- ---- parts of them

module _ (w : World) where
  -- an entry of a session that there is
  abbrev pub admitted : Entry → Machine → Turned
  admitted entry m = admits w.run.dialect w.run.opening w.run.made (is_waiting entry.session m.seen) entry m

  -- a session more
  abbrev pub begun : Text → Machine → Machine
  begun name m = with_session name (present w.run.dialect w.run.opening w.run.made m).level m

  -- the first entry of a name
  abbrev pub of_new : ℕ → Text → Text → Machine → Turned
  of_new number name statement m = of_session w.run.dialect w.run.opening w.run.made None number name statement m

  -- a session is closed
  abbrev pub closed : ℕ → Machine → Turned
  closed s m = closes w.run.dialect w.run.opening w.run.made (is_open m s) s m
