-- The machine: sessions, transactions, waits, and the items that are left.
use Rattle.std.specs.Prelude.{ℕ, ◌-◌, ◌==◌, Bool, true, false, List, [], ◌∷◌, ◌++◌, Option, None, Some, is_some, find, slice_index_or, slice_set}
use Rattle.hs_ast.specs.declared.session.Isolation.{Isolation}
use Rattle.hs_ast.specs.declared.session.Isolation.TheVariants.{ReadCommitted}
use Rattle.hs_ast.specs.declared.session.Modes.{Modes as NewModes}
use Rattle.hs_entries.specs.declared.item.Item.{Item}
use Rattle.hs_schema.specs.Catalogue.{Text}
use Rattle.hs_sessions.specs.declared.modes.Characteristics.{Characteristics}
use Rattle.hs_sessions.specs.declared.session.Session.{Session}
use Rattle.hs_sessions.specs.Modes.{no_modes, with_modes}
use Rattle.hs_sessions.specs.Settings.{fresh as fresh_session, begun as begun_session}
use Rattle.hs_turns.specs.Database.{Database}
use Rattle.hs_turns.specs.Histories.{Open, History}
use Rattle.hs_turns.specs.Events.{Act, Event, begun, step}
use Rattle.hs_turns.specs.Dialect.{Dialect, language_of}
use Rattle.hs_turns.specs.Waiting.{Entry, Waits, nobody, freed}

-- what a session has set: autocommit, the level and the access of its transactions, and what is named for the next
-- alone
pub record Settings : Type 0 where
  pub autocommit : Bool
  pub modes : Characteristics
  pub next : NewModes

-- Open and ended transactions and commits; the sessions by their numbers, from 1 on, with their names and settings;
-- who waits for whom; the waiters in the order in which they began to wait, those that the present pass over them
-- has seen before those that it hasn't; whether something ended or was answered since the pass began; queued
-- entries; the items that aren't read; and the sessions that are closed.
pub record Machine : Type 0 where
  pub history : History
  pub names : List Text
  pub settings : List Settings
  pub waits : Waits
  pub seen : List Entry
  pub pass : List Entry
  pub again : Bool
  pub queue : List Entry
  pub unread : List Item
  pub closed : List ℕ

abbrev pub start : Database → List Item → Machine
start opening items = record { history = begun opening; names = []; settings = []; waits = nobody; seen = []; pass = []; again = false; queue = []; unread = items; closed = [] }

-- ---- sessions

abbrev pub new_settings : Isolation → Settings
new_settings level = record { autocommit = true; modes = record { isolation = level; read_only = false }; next = no_modes }

abbrev pub settings_of : Machine → ℕ → Settings
settings_of m s = slice_index_or m.settings (s - 1) (new_settings ReadCommitted)

abbrev pub with_settings : ℕ → Settings → Machine → Machine
with_settings s set m = record m { settings = slice_set m.settings (s - 1) set }

-- what was named for the next transaction is used up
abbrev pub with_modes_used : ℕ → Machine → Machine
with_modes_used s m = with_settings s (record (settings_of m s) { next = no_modes }) m

abbrev pub name_of : Machine → ℕ → Text
name_of m s = slice_index_or m.names (s - 1) []

-- a session more
abbrev pub with_session : Text → Isolation → Machine → Machine
with_session name level m = record m { names = m.names ++ name ∷ []; settings = m.settings ++ new_settings level ∷ [] }

-- ---- transactions

abbrev pub open_of : Machine → ℕ → Option Open
open_of m s = find (λ o. o.session == s) m.history.open_

abbrev pub is_open : Machine → ℕ → Bool
is_open m s = is_some (open_of m s)

-- a session as its own statements on settings and savepoints see it
abbrev pub session_seen : Settings → Option Open → Session
session_seen set None = record (fresh_session ReadCommitted) { autocommit = set.autocommit; modes = set.modes; next = set.next }
session_seen set (Some o) = record (begun_session (record { 0 = o.start }) (fresh_session ReadCommitted)) { autocommit = set.autocommit; modes = set.modes; next = set.next; changes = o.trace.changes; savepoints = o.trace.savepoints }

abbrev pub settings_in : Session → Settings
settings_in s = record { autocommit = s.autocommit; modes = s.modes; next = s.next }

-- ---- events

-- what a session does, with the modes of a transaction that this begins
abbrev pub event : Machine → ℕ → Bool → Bool → Act → Event
event m s auto back act = record {
  session = s;
  isolation = (with_modes (settings_of m s).next (settings_of m s).modes).isolation;
  read_only = (with_modes (settings_of m s).next (settings_of m s).modes).read_only;
  auto = auto;
  back = back;
  act = act;
}

abbrev pub happens : Dialect → Database → Event → Machine → Machine
happens d opening e m = record m { history = step (language_of d) opening e m.history }

-- the transaction of a session has ended: nobody waits for it any more, and the waiters are attempted
abbrev pub ends : ℕ → Machine → Machine
ends s m = record m { waits = freed s m.waits; again = true }
