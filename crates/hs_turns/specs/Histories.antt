-- Histories of transactions: who is open, who has ended, and what was committed.
use Rattle.std.specs.Prelude.{ℕ, ◌==◌, not, Bool, true, false, if◌then◌else◌, List, [], ◌∷◌, take, drop, fold}
use Rattle.std.specs.List.{filter, flat_map, list_all}
use Rattle.hs_claims.specs.declared.claim.Claim.{Claim}
use Rattle.hs_claims.specs.declared.footprint.Footprint.{Footprint}
use Rattle.hs_claims.specs.declared.model.ControlKind.{ControlKind}
use Rattle.hs_claims.specs.declared.model.Level.{Level}
use Rattle.hs_claims.specs.declared.model.Level.TheVariants.{Rc, Ser, Snap}
use Rattle.hs_claims.specs.Compatible.{fits}
use Rattle.hs_claims.specs.Wants.{catalog_claim, wants_of, keeps_of, reads_start_of}
use Rattle.hs_plan.specs.declared.change.Change.{Change}
use Rattle.hs_sessions.specs.declared.commit.Commit.{Commit as SessionCommit}
use Rattle.hs_turns.specs.Database.{Database, committed}
use Rattle.hs_turns.specs.Transactions.{Statement, Trace}

-- an open transaction: its session, level and access, whether it ends with its first statement, how many commits there
-- were at its beginning, its statements, the newest first, and what they have come to
pub record Open : Type 0 where
  pub session : ℕ
  pub level : Level
  pub read_only : Bool
  pub auto : Bool
  pub start : ℕ
  pub statements : List Statement
  pub trace : Trace

-- a commit: its session, level and access, its changes as they stood in its transaction, and what its statements touched
pub record Commit : Type 0 where
  pub session : ℕ
  pub level : Level
  pub read_only : Bool
  pub changes : List Change
  pub feet : List Footprint

-- an ended transaction, its model, how many commits there were just before its end, and whether it is the next one
pub record Ended : Type 0 where
  pub txn : Open
  pub kind : ControlKind
  pub at : ℕ
  pub kept : Bool

-- the model, the commits, the open transactions, and those that have ended, the last one first
pub record History : Type 0 where
  pub kind : ControlKind
  pub commits : List Commit
  pub open_ : List Open
  pub ended : List Ended

-- ---- commits

abbrev pub commit_of : Open → Commit
commit_of o = record { session = o.session; level = o.level; read_only = o.read_only; changes = o.trace.changes; feet = o.trace.feet }

abbrev pub make : Database → Commit → Database
make db commit = committed db commit.changes

-- the database after these commits
abbrev pub now : Database → List Commit → Database
now opening commits = fold make opening commits

-- the database after the first k of them
abbrev pub state : Database → List Commit → ℕ → Database
state opening commits k = now opening (take k commits)

-- ---- what is read and held

-- the database that a transaction's statements read, beside its own changes
abbrev pub base : ControlKind → Database → List Commit → Open → Database
base kind opening commits o = if reads_start_of kind o.level o.read_only then state opening commits o.start else now opening commits

-- what a transaction holds: the catalogue from its beginning on, and what its statements keep
abbrev pub held : ControlKind → Level → Bool → List Footprint → List Claim
held kind level read_only feet = catalog_claim false ∷ flat_map (keeps_of kind level read_only) feet

-- nobody holds up a statement that touches this
abbrev pub is_free : ControlKind → Open → Footprint → List Open → Bool
is_free kind o f rest = list_all (λ u. fits (wants_of kind o.level o.read_only f) (held kind u.level u.read_only u.trace.feet)) rest

abbrev pub is_snap : Level → Bool
is_snap Snap = true
is_snap Ser = false
is_snap Rc = false

-- the commits with which a statement may conflict: at snapshot isolation those since its transaction's start
abbrev pub newer : List Commit → Open → List Commit
newer commits o = if is_snap o.level then drop o.start commits else []

-- none of them has a claim that doesn't go together with what the statement wants
abbrev pub no_conflict : ControlKind → Open → Footprint → List Commit → Bool
no_conflict kind o f commits = list_all (λ k. fits (wants_of kind o.level o.read_only f) (held kind k.level k.read_only k.feet)) commits

-- a commit as hs_sessions has it
abbrev pub session_commit : ControlKind → Commit → SessionCommit
session_commit kind k = record { session = record { 0 = k.session }; changes = k.changes; claims = held kind k.level k.read_only k.feet }

-- ---- open transactions, by their sessions

abbrev pub others : ℕ → List Open → List Open
others session open_ = filter (λ o. not (o.session == session)) open_

-- the one of this session, and a new one where it has none
abbrev pub own : ℕ → Open → List Open → Open
own session fresh [] = fresh
own session fresh (o ∷ os) = if o.session == session then o else own session fresh os

-- in the place of the one of this session, or behind all
abbrev pub put_open : ℕ → Open → List Open → List Open
put_open session o [] = o ∷ []
put_open session o (x ∷ xs) = if x.session == session then o ∷ others session xs else x ∷ put_open session o xs
