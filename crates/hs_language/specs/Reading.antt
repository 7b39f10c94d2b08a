-- What the texts of entries mean, as functions, and which tables their statements read and write.
use Rattle.std.specs.Prelude.{◌↔◌, Bool, List, Result}
use Rattle.std.specs.List.{Contains}
use Rattle.hs_base.specs.declared.numbers.TableNo.{TableNo}
use Rattle.hs_closure.specs.Changing.{IsRead, IsWritten}
use Rattle.hs_turns.specs.Histories.{Commit}
use Rattle.hs_plan.specs.declared.plan.Plan.{Plan}
use Rattle.hs_schema.specs.Catalogue.{Text, Things}
use Rattle.hs_turns.specs.Dialect.{Request}

pub record Reading : Type 0 where
  -- what an entry asks for, by its text alone
  pub request : Text → Request
  -- what a data statement or a definition means over a catalogue, or the words of its least fault
  pub plan : Things → Text → Result Plan Text
  -- the tables that a statement reads, and those that it writes, in any order
  pub reads : Things → Plan → List TableNo
  pub writes : Things → Plan → List TableNo
  -- the log has room for a commit behind these of the run
  pub has_log_room : List Commit → Commit → Bool

-- it tells exactly the tables that foreign keys lead to
pub record TellsTables (r : Reading) : Type 0 where
  pub read : (things : Things) (plan : Plan) (table : TableNo) → Contains (r.reads things plan) table ↔ IsRead things plan table
  pub written : (things : Things) (plan : Plan) (table : TableNo) → Contains (r.writes things plan) table ↔ IsWritten things plan table
