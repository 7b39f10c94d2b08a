-- What runs of SQL over what the texts of a log made promise.
use Rattle.std.proofs.Common.{◌≡◌, ℕ, true, List, arith}
use Rattle.std.specs.Prelude.{count_by}
use Rattle.hs_entries.specs.declared.item.Item.{Item}
use Rattle.hs_futures.proofs.Whole.{whole_told}
use Rattle.hs_language.specs.Sql.{is_valid}
use Rattle.hs_plainsql.specs.Naming.{are_named}
use Rattle.hs_program.specs.Lawful.{IsSound}
use Rattle.hs_program.specs.Meaning.{Opened}
use Rattle.hs_run.specs.Items.{AreTold}
use Rattle.hs_run.specs.Pieces.{told_by}
use Rattle.hs_run.specs.Running.{pieces}
use Rattle.hs_seams.specs.Stores.{IsWorld}
use Rattle.hs_system.specs.Meaning.{state_of}
use Rattle.hs_system.proofs.Ahead.{answered as answered_in}
use Rattle.hs_system.proofs.Lawful.{sound_state, world_opened}
use Rattle.hs_turns.specs.Histories.{state}
use Rattle.hs_turns.specs.Laws.{is_item}
use Rattle.hs_turns.specs.Lines.{printed, replies_among}
use Rattle.hs_turns.specs.Machine.{start}
use Rattle.hs_turns.specs.Promises.{AreMade, EachEnded, IsCommitted, IsFirst, IsInOrder, IsSerial, IsSnapshot}
use Rattle.hs_turns.specs.Turns.{after, weight}
use Rattle.hs_turns.proofs.Answered.{nothing_owed, run_good}
use Rattle.hs_turns.proofs.Ends.{over}
use Rattle.hs_turns.proofs.Owed.{run_told}
use Rattle.hs_turns.proofs.Promised as promised
use Rattle.hs_engine.specs.Meets.{sql_governed}
use Rattle.hs_engine.specs.Runs.{answers_among, history_over, language_over, lines_over, world_over}
use Rattle.hs_engine.specs.Sql.{IsRegular, sql_system}
use Rattle.hs_engine.specs.Standing.{sql_meaning}

module _ (opened : Opened) (size : ℕ) (items : List Item) where
  -- what is ahead of a run tells the lines of the machine
  pub told : told_by (pieces (sql_meaning.future opened size) items) ≡ printed (lines_over opened size items)
  told = whole_told (world_over opened size) items

  pub replied : (number : ℕ) → replies_among number (lines_over opened size items) ≡ count_by (is_item number) items
  replied number =
      let d = (world_over opened size).run.dialect in
      let m = start opened.database items in
      let k = weight m in
      omega (
        arith,
        run_told d opened.database opened.commits number k m,
        nothing_owed d opened.database opened.commits (after d opened.database opened.commits k m) (run_good d opened.database opened.commits items k) (over d opened.database opened.commits k m (omega arith)) number,
      )

  module _ (s : IsSound sql_meaning opened) where
    world : IsWorld (world_over opened size)
    world = world_opened are_named IsRegular sql_system sql_governed opened size s

    -- each item of an input is answered once
    pub answered : AreTold items → (number : ℕ) → answers_among number (lines_over opened size items) ≡ count_by (is_item number) items
    answered are number = answered_in are_named IsRegular sql_system sql_governed s.reached.0 (state_of opened) opened.commits size (sound_state are_named IsRegular sql_system sql_governed opened s) items are number

    module _ (n : ℕ) where
      pub serial : EachEnded (history_over opened size items n) (IsSerial (language_over opened size) opened.database)
      serial = promised.serial (world_over opened size).run.dialect opened.database opened.commits world.laws world.opened items n

      pub in_order : EachEnded (history_over opened size items n) (IsInOrder (language_over opened size) opened.database)
      in_order = promised.ordered (world_over opened size).run.dialect opened.database opened.commits world.laws world.opened items n

      pub committed : EachEnded (history_over opened size items n) IsCommitted
      committed = promised.committed (world_over opened size).run.dialect opened.database opened.commits world.laws world.opened items n

      pub made_by : AreMade (history_over opened size items n).commits (history_over opened size items n).ended
      made_by = promised.made_by (world_over opened size).run.dialect opened.database opened.commits world.laws world.opened items n

      pub snapshot : EachEnded (history_over opened size items n) (IsSnapshot (language_over opened size) opened.database)
      snapshot = promised.snapshots (world_over opened size).run.dialect opened.database opened.commits world.laws world.opened items n

      pub first : EachEnded (history_over opened size items n) IsFirst
      first = promised.first (world_over opened size).run.dialect opened.database opened.commits world.laws world.opened items n

      pub valid : (k : ℕ) → is_valid (state opened.database (history_over opened size items n).commits k) ≡ true
      valid k = promised.valid (world_over opened size).run.dialect opened.database opened.commits world.laws world.opened items n k
