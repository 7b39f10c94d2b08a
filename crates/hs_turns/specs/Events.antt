-- Events, of each of which a history is one step further: one attempt of a statement, or one end of a transaction. Waiters
-- and queues say which event comes next, and no more; so the laws are about every list of events.
use Rattle.std.specs.Prelude.{ℕ, Bool, true, false, if◌then◌else◌, Option, None, Some, List, [], ◌∷◌, ◌++◌, length}
use Rattle.hs_ast.specs.declared.session.Isolation.{Isolation}
use Rattle.hs_claims.specs.declared.model.ControlKind.{ControlKind}
use Rattle.hs_claims.specs.declared.model.Level.TheVariants.{Rc}
use Rattle.hs_plan.specs.declared.change.Change.{Change}
use Rattle.hs_plan.specs.declared.change.Change.TheVariants as change
use Rattle.hs_plan.specs.declared.definition.Definition.{Definition}
use Rattle.hs_changes.specs.Changes.{count_all_inserted}
use Rattle.hs_schema.specs.Catalogue.{Text}
use Rattle.hs_sessions.specs.Modes.{level_of}
use Rattle.hs_turns.specs.Database.{Database, view, has_room}
use Rattle.hs_turns.specs.Definitions.{control_after}
use Rattle.hs_turns.specs.Language.{Language}
use Rattle.hs_turns.specs.Transactions.{Statement, nothing, settle}
use Rattle.hs_turns.specs.Transactions.Statement.{Data, OnSession}
use Rattle.hs_turns.specs.Histories.{commit_of, Open, Commit, History, now, base, newer, is_free, no_conflict, others, own, put_open}

-- START TRANSACTION; an attempt of a statement; COMMIT; ROLLBACK, and refusals that end a transaction; an attempt of a
-- definition
pub data Act : Type 0 where
  Begins : Act
  Says : Statement → Act
  Commits : Act
  Leaves : Act
  Defines : Text → Act

-- what a session does, with the modes of a transaction that this begins, and whether recorded waits lead from one of its
-- blockers back to it
pub record Event : Type 0 where
  pub session : ℕ
  pub isolation : Isolation
  pub read_only : Bool
  pub auto : Bool
  pub back : Bool
  pub act : Act

-- the transaction that it begins, after so many commits
abbrev pub fresh : ControlKind → Event → ℕ → Open
fresh kind e n = record { session = e.session; level = level_of kind e.isolation; read_only = e.read_only; auto = e.auto; start = n; statements = []; trace = nothing }

-- ---- ends

-- a transaction ends, and its changes are committed or dropped
abbrev pub finish : Bool → Open → ℕ → History → History
finish keep o who h = record h {
  commits = if keep then h.commits ++ commit_of o ∷ [] else h.commits;
  open_ = others who h.open_;
  ended = record { txn = o; kind = h.kind; at = length h.commits; kept = keep } ∷ h.ended;
}

abbrev pub stays_open : Open → ℕ → History → History
stays_open o who h = record h { open_ = put_open who o h.open_ }

-- a transaction without changes ends without a commit; where there is no room for its changes, `refused` is what happens
abbrev pub commit_by : List Change → Bool → Open → ℕ → History → History → History
commit_by [] room o who h refused = finish false o who h
commit_by (c ∷ cs) true o who h refused = finish true o who h
commit_by (c ∷ cs) false o who h refused = refused

abbrev pub commit : Database → Open → ℕ → History → History → History
commit opening o who h refused = commit_by o.trace.changes (has_room (now opening h.commits) o.trace.changes) o who h refused

-- ---- attempts

abbrev pub said : Language → Database → Statement → Open → Open
said lang db s o = record o { statements = s ∷ o.statements; trace = settle lang o.read_only db s o.trace }

-- after a data statement a transaction goes on, but one that it began in autocommit ends: without it, where its commit
-- is refused
abbrev pub goes_on : Database → Open → Open → ℕ → History → History
goes_on opening before o who h = if o.auto then commit opening o who h (finish false before who h) else stays_open o who h

-- by whether nobody holds the statement up, whether it conflicts with no newer commit, and whether waits lead back
abbrev pub judged : Bool → Bool → Bool → Database → Open → Open → ℕ → History → History
judged true true back opening before after who h = goes_on opening before after who h
judged true false back opening before after who h = finish false before who h
judged false clear true opening before after who h = finish false before who h
judged false clear false opening before after who h = stays_open before who h

abbrev pub says : Language → Database → Bool → Statement → Open → ℕ → History → History
says lang opening back (Data text) o who h =
    let db = base h.kind opening h.commits o in
    let f = (lang.outcome o.read_only (count_all_inserted o.trace.changes) (view db o.trace.changes) text).foot in
    judged (is_free h.kind o f (others who h.open_)) (no_conflict h.kind o f (newer h.commits o)) back opening o (said lang db (Data text) o) who h
says lang opening back (OnSession control) o who h = stays_open (said lang (base h.kind opening h.commits o) (OnSession control) o) who h

-- ---- definitions

-- the commit of a definition, which has one change
abbrev pub definition_commit : ℕ → Definition → Commit
definition_commit session definition = record { session = session; level = Rc; read_only = false; changes = change.Define definition ∷ []; feet = [] }

abbrev pub define_by : Bool → ℕ → Definition → History → History
define_by true session definition h = record h { kind = control_after definition h.kind; commits = h.commits ++ definition_commit session definition ∷ [] }
define_by false session definition h = h

abbrev pub define : Database → ℕ → Option Definition → History → History
define opening session None h = h
define opening session (Some definition) h = define_by (has_room (now opening h.commits) (change.Define definition ∷ [])) session definition h

-- a definition waits for each open transaction, and it is bound over the present catalogue
abbrev pub defines : Language → Database → ℕ → Text → List Open → History → History
defines lang opening session text [] h = define opening session (lang.definition (now opening h.commits) text) h
defines lang opening session text (o ∷ os) h = h

-- ---- steps

abbrev pub by_act : Language → Database → Bool → Act → Open → ℕ → History → History
by_act lang opening back Begins o who h = stays_open o who h
by_act lang opening back (Says s) o who h = says lang opening back s o who h
by_act lang opening back Commits o who h = commit opening o who h (stays_open o who h)
by_act lang opening back Leaves o who h = finish false o who h
by_act lang opening back (Defines text) o who h = defines lang opening who text h.open_ h

abbrev pub step : Language → Database → Event → History → History
step lang opening e h = by_act lang opening e.back e.act (own e.session (fresh h.kind e (length h.commits)) h.open_) e.session h

-- before the first event
abbrev pub begun : Database → History
begun opening = record { kind = opening.control; commits = []; open_ = []; ended = [] }

-- the history after these events, the newest first
unfoldable pub reached : Language → Database → List Event → History
reached lang opening [] = begun opening
reached lang opening (e ∷ earlier) = step lang opening e (reached lang opening earlier)
