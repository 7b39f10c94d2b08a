-- What statements make of a session.
use Rattle.std.specs.Prelude.{◌≡◌, ℕ, ◌+◌, true, false, List, [], ◌++◌, length, take, position, Option, None, Some, is_some, IsSome, if◌then◌else◌}
use Rattle.std.specs.Option.{option_map}
use Rattle.hs_ast.specs.declared.session.Isolation.{Isolation}
use Rattle.hs_base.specs.declared.numbers.CommitNo.{CommitNo}
use Rattle.hs_plan.specs.declared.change.Change.{Change}
use Rattle.hs_sessions.specs.declared.control.Control.{Control}
use Rattle.hs_sessions.specs.declared.control.Control.TheVariants as control
use Rattle.hs_sessions.specs.declared.control.ControlReply.{ControlReply}
use Rattle.hs_sessions.specs.declared.control.ControlReply.TheVariants as reply
use Rattle.hs_sessions.specs.declared.modes.Characteristics.{Characteristics}
use Rattle.hs_sessions.specs.declared.modes.Modes.{Modes}
use Rattle.hs_sessions.specs.declared.session.Transaction.{Transaction}
use Rattle.hs_sessions.specs.declared.session.Session.{Session}
use Rattle.hs_sessions.specs.Modes.{with_modes, joined, no_modes}
use Rattle.hs_sessions.specs.Savepoints.{is_called, with_savepoint, changes_at}

-- a new session is in autocommit, READ WRITE, and at the database's default level
abbrev pub fresh : Isolation → Session
fresh level = record { autocommit = true; modes = record { isolation = level; read_only = false }; next = no_modes; transaction = None; changes = []; savepoints = [] }

-- ---- transactions

-- the level and the access of the open transaction, and else of the next one
abbrev pub characteristics_by : Option Transaction → Session → Characteristics
characteristics_by None s = with_modes s.next s.modes
characteristics_by (Some now) s = now.modes

abbrev pub modes_of : Session → Modes
modes_of s = let now = characteristics_by s.transaction s in record { isolation = now.isolation; read_only = now.read_only; autocommit = s.autocommit }

-- a transaction begins; the modes that were named for it are used up
abbrev pub begun : CommitNo → Session → Session
begun start s = record s { transaction = Some (record { start = start; modes = with_modes s.next s.modes }); next = no_modes; changes = []; savepoints = [] }

-- its changes are more by these
abbrev pub added : List Change → Session → Session
added more s = record s { changes = s.changes ++ more }

-- it ends
abbrev pub ended : Session → Session
ended s = record s { transaction = None; changes = []; savepoints = [] }

-- ---- statements on settings and savepoints

-- a setting is changed, unless a transaction is open
abbrev pub unless_open : Session → Session → ControlReply × Session
unless_open s changed = if is_some s.transaction then (reply.OpenTransaction, s) else (reply.Ok, changed)

-- the open transaction gets a savepoint where it stands
abbrev pub marked : List ℕ → Session → Session
marked name s = if is_some s.transaction then record s { savepoints = with_savepoint name (length s.changes) s.savepoints } else s

-- the place of the open transaction's savepoint of a name
abbrev pub place_of : List ℕ → Session → Option ℕ
place_of name s = if is_some s.transaction then position (is_called name) s.savepoints else None

-- the changes behind a savepoint go, and the savepoints behind it
abbrev pub gone_back : Option ℕ → Session → ControlReply × Session
gone_back None s = (reply.NoSavepoint, s)
gone_back (Some place) s = (reply.Ok, record s { changes = take (changes_at place s.savepoints) s.changes; savepoints = take (place + 1) s.savepoints })

-- a savepoint goes, and those behind it
abbrev pub released : Option ℕ → Session → ControlReply × Session
released None s = (reply.NoSavepoint, s)
released (Some place) s = (reply.Ok, record s { savepoints = take place s.savepoints })

-- what a statement answers, and what it makes of its session
abbrev pub controlled : Control → Session → ControlReply × Session
controlled (control.Autocommit on) s = unless_open s (record s { autocommit = on })
controlled (control.Characteristics new) s = unless_open s (record s { modes = with_modes new s.modes })
controlled (control.Transaction new) s = unless_open s (record s { next = joined new s.next })
controlled (control.Savepoint name) s = (reply.Ok, marked name s)
controlled (control.RollbackTo name) s = gone_back (place_of name s) s
controlled (control.Release name) s = released (place_of name s) s
controlled control.WriteDelayFalse s = (reply.Ok, s)

-- SAVEPOINT outside autocommit finds an open transaction
abbrev pub IsReady : Control → Session → Type 0
IsReady (control.Autocommit on) s = Unit {0}
IsReady (control.Characteristics new) s = Unit {0}
IsReady (control.Transaction new) s = Unit {0}
IsReady (control.Savepoint name) s = s.autocommit ≡ false → IsSome s.transaction
IsReady (control.RollbackTo name) s = Unit {0}
IsReady (control.Release name) s = Unit {0}
IsReady control.WriteDelayFalse s = Unit {0}

-- how many commits there were at the beginning of the open transaction
abbrev pub start_of : Session → Option CommitNo
start_of s = option_map (λ now. now.start) s.transaction
