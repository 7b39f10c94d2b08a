-- SQL's reading of texts.
use Rattle.std.specs.Prelude.{◌≡◌, Bool, List, Result, Ok, Err}
use Rattle.hs_ast.specs.declared.statement.Stmt.{Stmt}
use Rattle.hs_entries.specs.Entry.{place_of, statement_of}
use Rattle.hs_turns.specs.Histories.{Commit}
use Rattle.hs_language.specs.Reading.{Reading, TellsTables}
use Rattle.hs_reached.specs.Reached.{tables_read, tables_written}
use Rattle.hs_read.specs.Read.{IsReadAs, Refusal}
use Rattle.hs_requests.specs.Plans.{IsPlan, plan_of}
use Rattle.hs_requests.specs.Requests.{request_by, request_of}
use Rattle.hs_requests.specs.Words.{refusal_words}
use Rattle.hs_schema.specs.Catalogue.{Text, Things}

-- an entry asks for what its statement is; it means over a catalogue what is answered to that statement, or why it is
-- none; and the tables of a plan are those to which foreign keys lead
pub record IsReading (r : Reading) : Type 0 where
  pub request : (entry : Text) (answer : Result Stmt Refusal) → IsReadAs (statement_of entry) answer → r.request entry ≡ request_by (place_of entry) answer
  pub plan : (things : Things) (entry : Text) (statement : Stmt) → IsReadAs (statement_of entry) (Ok statement) → IsPlan things (place_of entry) statement (r.plan things entry)
  pub unread : (things : Things) (entry : Text) (refusal : Refusal) → IsReadAs (statement_of entry) (Err refusal) → r.plan things entry ≡ Err (refusal_words (place_of entry) refusal)
  pub tables : TellsTables r

-- the reading, where the log has this room
abbrev pub reading_of : (List Commit → Commit → Bool) → Reading
reading_of room = record {
  request = request_of;
  plan = plan_of;
  reads = tables_read;
  writes = tables_written;
  has_log_room = room;
}
