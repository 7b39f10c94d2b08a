-- Runs of SQL over what the texts of a log made, where that log has so many bytes before the one that ends it. And how many of
-- their lines answer an item.
use Rattle.std.specs.Prelude.{ℕ, List}
use Rattle.hs_entries.specs.declared.item.Item.{Item}
use Rattle.hs_program.specs.Meaning.{Opened}
use Rattle.hs_seams.specs.World.{World}
use Rattle.hs_system.specs.Meaning.{world_at}
use Rattle.hs_turns.specs.Dialect.{language_of}
use Rattle.hs_turns.specs.Histories.{History}
use Rattle.hs_turns.specs.Language.{Language}
use Rattle.hs_turns.specs.Laws.{history_after}
use Rattle.hs_turns.specs.Lines.{Line}
use Rattle.hs_turns.specs.Machine.{start}
use Rattle.hs_turns.specs.Turns.{lines, weight}
use Rattle.hs_engine.specs.Sql.{sql_system}
pub use Rattle.hs_system.specs.Answers.{answers_among}

module _ (opened : Opened) (size : ℕ) where
  abbrev pub world_over : World
  world_over = world_at sql_system opened size

  -- what its statements mean
  abbrev pub language_over : Language
  language_over = language_of world_over.run.dialect

  -- the history of a run over these items, after so many turns of the machine
  abbrev pub history_over : List Item → ℕ → History
  history_over items n = history_after world_over.run.dialect opened.database opened.commits items n

  -- the lines that all its turns tell
  abbrev pub lines_over : List Item → List Line
  lines_over items = let m = start opened.database items in lines world_over.run.dialect opened.database opened.commits (weight m) m
