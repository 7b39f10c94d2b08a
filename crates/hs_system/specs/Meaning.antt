-- What a database system is to a run of the program.
use Rattle.std.specs.Prelude.{◌≡◌, ℕ, ◌+◌, List, length, Option}
use Rattle.std.specs.Option.{option_map}
use Rattle.hs_base.specs.declared.numbers.SessionNo.{SessionNo}
use Rattle.hs_committext.specs.Commits.{number_of}
use Rattle.hs_entries.specs.declared.item.Item.{Item}
use Rattle.hs_program.specs.Meaning.{Meaning, Opened}
use Rattle.hs_logged.specs.Redone.{IsRedone, State}
use Rattle.hs_seams.specs.World.{World}
use Rattle.hs_system.specs.Openings.{behind_at, first_of, future_at, may, world_of}
use Rattle.hs_system.specs.System.{System}

-- ---- sessions by their numbers

abbrev pub numbered_session : ℕ → SessionNo
numbered_session n = record { 0 = n }

abbrev pub session_in : Option ℕ → Option SessionNo
session_in last = option_map numbered_session last

-- what texts made, without how many there are, and with it
abbrev pub state_of : Opened → State
state_of opened = record { database = opened.database; last = session_in opened.last }

abbrev pub opened_as : State → ℕ → Opened
opened_as at commits = record { database = at.database; last = number_of at.last; commits = commits }

-- ---- the whole

module _ (y : System) where
  -- a text makes this: it is that of a commit whose changes may be made, and one commit more
  pub record Makes (opened : Opened) (text : List ℕ) (next : Opened) : Type 0 where
    pub made : IsRedone y.wording (may y) (state_of opened) text (state_of next)
    pub counted : next.commits ≡ opened.commits + 1

  -- the world of a run over what texts made
  abbrev pub world_at : Opened → ℕ → World
  world_at opened size = world_of y (state_of opened) opened.commits size

  -- what there is behind the first so many commits of a run over these items
  abbrev pub behind_over : Opened → ℕ → List Item → ℕ → Opened
  behind_over opened size items count =
      opened_as (behind_at y (state_of opened) opened.commits size items count) (opened.commits + length (first_of y (state_of opened) opened.commits size items count))

  abbrev pub meaning_of : Meaning
  meaning_of = record {
    empty = y.empty;
    Redone = Makes;
    violated = λ opened. y.violated opened.database;
    future = λ opened size. future_at y (state_of opened) opened.commits size;
    behind = behind_over;
  }
