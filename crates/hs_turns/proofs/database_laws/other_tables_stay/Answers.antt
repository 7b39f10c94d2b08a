use Rattle.std.proofs.Common.{ap}
use Rattle.hs_turns.proofs.Tables.{Frame, frame_stays, table_stays, table_seen}
use Rattle.hs_turns.proofs.database_laws.other_tables_stay.Goals as goal

pub returns : goal.returns
returns c = record {
  things = λ db changes h. ap (λ (f : Frame). f.things) (frame_stays db changes h);
  control = λ db changes h. ap (λ (f : Frame). f.control) (frame_stays db changes h);
  level = λ db changes h. ap (λ (f : Frame). f.level) (frame_stays db changes h);
  rows = table_stays;
  seen = table_seen;
}
