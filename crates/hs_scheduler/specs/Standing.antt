-- What a scheduler stands for.
use Rattle.std.specs.Prelude.{◌≡◌, ◌≤◌, ◌+◌, ◌*◌, ℕ, not, false, List, [], length, map, filter, None}
use Rattle.hs_claims.specs.Blockers.{has}
use Rattle.hs_claims.specs.Session.{IsSession}
use Rattle.hs_futures.specs.Futures.{future_of}
use Rattle.hs_turns.specs.Each.{Each}
use Rattle.hs_lines.specs.Names.{IsKnown}
use Rattle.hs_queue.specs.Entries.{entry_of}
use Rattle.hs_queue.specs.Queues.{IsQueue, count_of}
use Rattle.hs_run.specs.Future.{Future}
use Rattle.hs_schema.specs.Catalogue.{Text}
use Rattle.hs_seams.specs.World.{World}
use Rattle.hs_seams.specs.declared.engine.Engine as engine
use Rattle.hs_sides.specs.Sides.{side_of}
use Rattle.hs_turns.specs.Machine.{Machine}
use Rattle.hs_turns.specs.Turns.{flag, is_closed, ready_among}
use Rattle.hs_turns.specs.Waiting.{Entry, ascending}
use Rattle.hs_scheduler.specs.declared.scheduler.Scheduler.{Scheduler}

-- each is an entry of one of these sessions
abbrev pub AreOf : List Text → List Entry → Type 0
AreOf names entries = Each (λ e. IsKnown names e.session) entries

-- All that is beside the engine stands for a machine: names, waiters, queued entries and closed sessions. None of the input is at
-- hand.
pub record IsBeside {E : Type 0} (s : Scheduler E) (m : Machine) : Type 0 where
  pub names : s.names ≡ m.names
  pub few : length m.names ≤ 64
  pub settings : length m.settings ≡ length m.names
  pub seen : s.seen ≡ m.seen
  pub pass : map entry_of s.pass.items ≡ m.pass
  pub again : s.again ≡ m.again
  pub queue : IsQueue s.queue m.queue
  pub lanes : length s.queue.lanes ≤ length m.names
  pub closed : (n : ℕ) → IsSession n → has s.closed n ≡ is_closed m n
  pub unread : m.unread ≡ []
  pub of_seen : AreOf m.names m.seen
  pub of_pass : AreOf m.names m.pass

-- The scheduler stands for a machine in a world.
pub record IsMachine {E : Type 0} (g : engine.Ghosts E) (s : Scheduler E) (w : World) (m : Machine) : Type 0 where
  pub engine : g.stands s.engine w (side_of m)
  pub beside : IsBeside s m

-- this is ahead of it
abbrev pub HasAhead : {E : Type 0} → engine.Ghosts E → Scheduler E → Future → Type 0
HasAhead g s f = (w : World) × ((m : Machine) × (IsMachine g s w m × (f ≡ future_of w m)))

-- No turn is due without more of the input.
abbrev pub IsResting : {E : Type 0} → Scheduler E → Type 0
IsResting s = (s.pass.items ≡ []) × ((s.again ≡ false) × ((queue : List Entry) → IsQueue s.queue queue → ready_among s.seen queue ≡ None))

-- ---- an end

abbrev pub waiters_in : {E : Type 0} → Scheduler E → ℕ
waiters_in s = length s.seen + length s.pass.items

-- how many sessions aren't closed
abbrev pub unclosed_in : {E : Type 0} → Scheduler E → ℕ
unclosed_in s = length (filter (λ n. not (has s.closed n)) (ascending 1 (length s.names)))

abbrev pub work_in : {E : Type 0} → Scheduler E → ℕ
work_in s = 4 * count_of s.queue + 2 * waiters_in s + 2 * unclosed_in s + flag s.again

-- how much it is left to do, at most
abbrev pub weight_in : {E : Type 0} → Scheduler E → ℕ
weight_in s = (count_of s.queue + waiters_in s + 1) * work_in s + length s.pass.items
