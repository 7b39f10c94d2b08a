-- What of a machine an engine keeps: what its attempts look at and change.
use Rattle.std.specs.Prelude.{ℕ, ◌||◌, Bool, true, false, if◌then◌else◌, List, [], ◌∷◌, ◌++◌}
use Rattle.hs_schema.specs.Catalogue.{Text}
use Rattle.hs_turns.specs.Database.{Database}
use Rattle.hs_turns.specs.Histories.{History, now}
use Rattle.hs_turns.specs.Dialect.{Dialect}
use Rattle.hs_turns.specs.Waiting.{Entry, Waits, answered}
use Rattle.hs_turns.specs.Machine.{Machine, Settings, new_settings, is_open}
use Rattle.hs_turns.specs.Attempts.{Attempt, attempt, left_own}

-- what a run is over: the language of its entries, the database that it opened, and how many commits that has
pub record Run : Type 0 where
  pub dialect : Dialect
  pub opening : Database
  pub made : ℕ

-- the history, the settings of sessions, and who waits for whom
pub record Side : Type 0 where
  pub history : History
  pub settings : List Settings
  pub waits : Waits

abbrev pub side_of : Machine → Side
side_of m = record { history = m.history; settings = m.settings; waits = m.waits }

-- a machine of sessions of these names, without waiters, queue and input
abbrev pub alone : List Text → Side → Machine
alone names side = record { history = side.history; names = names; settings = side.settings; waits = side.waits; seen = []; pass = []; again = false; queue = []; unread = []; closed = [] }

-- a machine whose engine has gone on to a side, where a transaction ended or none did
abbrev pub gone_on : Machine → Side → Bool → Machine
gone_on m side ended = record m { history = side.history; settings = side.settings; waits = side.waits; again = ended || m.again }

-- what an attempt comes to where others wait, are queued or aren't read, if this is what it comes to alone
abbrev pub in_place : Machine → Attempt → Attempt
in_place m a = record { words = a.words; final = a.final; next = gone_on m (side_of a.next) a.next.again }

-- ---- calls

abbrev pub attempted : Run → List Text → Bool → Entry → Side → Attempt
attempted run names is_first entry side = attempt run.dialect run.opening run.made is_first entry (alone names side)

-- a waiter that is answered waits for nobody any more
abbrev pub answered_by : Bool → Bool → ℕ → Side → Side
answered_by true final s side = side
answered_by false true s side = record side { waits = answered s side.waits }
answered_by false false s side = side

abbrev pub behind_attempt : Run → List Text → Bool → Entry → Side → Side
behind_attempt run names is_first entry side = let a = attempted run names is_first entry side in answered_by is_first a.final entry.session (side_of a.next)

-- a session more
abbrev pub with_new : Run → Side → Side
with_new run side = record side { settings = side.settings ++ new_settings (now run.opening side.history.commits).level ∷ [] }

-- the open transaction of a session is rolled back
abbrev pub behind_close : Run → List Text → ℕ → Side → Side
behind_close run names s side = if is_open (alone names side) s then side_of (left_own run.dialect run.opening run.made s (alone names side)) else side
