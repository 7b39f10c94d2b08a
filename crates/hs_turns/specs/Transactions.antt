-- The statements of one transaction, and what they come to where nobody holds them up.
use Rattle.std.specs.Prelude.{Bool, List, [], ◌∷◌, ◌++◌}
use Rattle.hs_ast.specs.declared.session.Isolation.TheVariants.{ReadCommitted}
use Rattle.hs_claims.specs.declared.footprint.Footprint.{Footprint}
use Rattle.hs_plan.specs.declared.change.Change.{Change}
use Rattle.hs_changes.specs.Changes.{count_all_inserted}
use Rattle.hs_schema.specs.Catalogue.{Text}
use Rattle.hs_sessions.specs.declared.control.Control.{Control}
use Rattle.hs_sessions.specs.declared.control.ControlReply.{ControlReply}
use Rattle.hs_sessions.specs.declared.savepoints.Savepoint.{Savepoint}
use Rattle.hs_sessions.specs.declared.session.Session.{Session}
use Rattle.hs_sessions.specs.Settings.{fresh, begun, controlled}
use Rattle.hs_turns.specs.Database.{Database, view}
use Rattle.hs_turns.specs.Language.{Language, Outcome}

-- a statement in a transaction: a data statement by its text, or one on savepoints or on the settings of its session
pub data Statement : Type 0 where
  Data : Text → Statement
  OnSession : Control → Statement

-- what it answers
pub data Reply : Type 0 where
  Told : List Text → Text → Reply
  Controlled : ControlReply → Reply

-- what the statements of a transaction have come to: their replies and footprints, the newest first, the changes that
-- stand, and the savepoints
pub record Trace : Type 0 where
  pub replies : List Reply
  pub changes : List Change
  pub savepoints : List Savepoint
  pub feet : List Footprint

-- at its beginning
abbrev pub nothing : Trace
nothing = record { replies = []; changes = []; savepoints = []; feet = [] }

-- a data statement adds its changes behind the others
abbrev pub answered : Outcome → Trace → Trace
answered o t = record t { replies = Told o.rows o.reply ∷ t.replies; changes = t.changes ++ o.changes; feet = o.foot ∷ t.feet }

-- a session whose open transaction has these changes and savepoints
abbrev pub session_in : Trace → Session
session_in t = record (begun (record { 0 = 0 }) (fresh ReadCommitted)) { changes = t.changes; savepoints = t.savepoints }

abbrev pub with_session : ControlReply × Session → Trace → Trace
with_session after t = record t { replies = Controlled after.0 ∷ t.replies; changes = after.1.changes; savepoints = after.1.savepoints }

-- one statement, which nobody holds up, where its transaction reads this database and has come to a trace
abbrev pub settle : Language → Bool → Database → Statement → Trace → Trace
settle lang read_only db (Data text) t = answered (lang.outcome read_only (count_all_inserted t.changes) (view db t.changes) text) t
settle lang read_only db (OnSession control) t = with_session (controlled control (session_in t)) t

-- statements one after another, the newest first, in one transaction that reads this database
abbrev pub replay : Language → Bool → Database → List Statement → Trace
replay lang read_only db [] = nothing
replay lang read_only db (s ∷ earlier) = settle lang read_only db s (replay lang read_only db earlier)

-- what they answer where there is no other session
abbrev pub alone : Language → Bool → Database → List Statement → List Reply
alone lang read_only db statements = (replay lang read_only db statements).replies
