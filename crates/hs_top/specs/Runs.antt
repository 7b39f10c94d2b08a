-- Runs of SQL over the log that they find, which may be any bytes: what the log gives, and what a run over it and an input tells and makes.
use Rattle.std.specs.Prelude.{ℕ, List}
use Rattle.hs_engine.specs.Runs.{history_over, language_over, lines_over}
use Rattle.hs_engine.specs.Standing.{sql_meaning}
use Rattle.hs_entries.specs.Items.{items}
use Rattle.hs_program.specs.Ahead as program
use Rattle.hs_program.specs.Damaged as damaged
use Rattle.hs_program.specs.Meaning.{Opened}
use Rattle.hs_program.specs.Opening as opening
use Rattle.hs_run.specs.Pieces.{told_by}
use Rattle.hs_run.specs.Prompt.{due_for, logged_for}
use Rattle.hs_run.specs.Running.{pieces}
use Rattle.hs_turns.specs.Histories.{History}
use Rattle.hs_turns.specs.Language.{Language}
use Rattle.hs_turns.specs.Lines.{Line}
use Rattle.hs_turns.specs.Machine.{start}
use Rattle.hs_turns.specs.Turns.{weight}

-- ---- what a log gives

-- it gives a database with which a run may begin: its texts make it, and it violates no constraint
abbrev pub Gives : List ℕ → Opened → Type 0
Gives = opening.IsOpened sql_meaning

-- it gives one alone, and is neither damaged nor does it violate a constraint
abbrev pub GivesOne : List ℕ → Type 0
GivesOne = damaged.GivesOneAlone sql_meaning

-- it is damaged, first at the group of this number
abbrev pub IsDamaged : List ℕ → ℕ → Type 0
IsDamaged = damaged.IsDamagedAt sql_meaning

-- it is damaged at no other number, gives no database, and violates no constraint
abbrev pub IsDamagedOnly : List ℕ → ℕ → Type 0
IsDamagedOnly = damaged.IsDamagedAlone sql_meaning

-- its texts make what violates the constraint of this name, as the first
abbrev pub Violates : List ℕ → List ℕ → Type 0
Violates = opening.IsInvalid sql_meaning

-- it violates no other constraint first, gives no database, and isn't damaged
abbrev pub ViolatesOnly : List ℕ → List ℕ → Type 0
ViolatesOnly = damaged.IsInvalidAlone sql_meaning

-- ---- a run over a log that gives a database

module _ (log : List ℕ) (opened : Opened) where
  -- what statements mean
  abbrev pub language : Language
  language = language_over opened (opening.size_at log)

  -- What is due when these bytes of an input were taken: the first line, and the lines of all turns before the first one that needs an
  -- item which isn't whole in them.
  abbrev pub due : List ℕ → List ℕ
  due = due_for (program.ahead sql_meaning log opened)

  -- What is due in the log then: its texts, and those of the commits of all turns before that one.
  abbrev pub due_log : List ℕ → List (List ℕ)
  due_log = logged_for (opening.texts_at log) (program.ahead sql_meaning log opened)

  module _ (input : List ℕ) where
    -- all that is written
    abbrev pub transcript : List ℕ
    transcript = program.all_told (program.ahead sql_meaning log opened) input

    -- what is written over the items that are whole in the first bytes of the input
    abbrev pub transcript_within : ℕ → List ℕ
    transcript_within limit = program.told_within limit (program.ahead sql_meaning log opened) input

    -- what is written between the first line and the last
    abbrev pub turns_told : List ℕ
    turns_told = told_by (pieces (program.ahead sql_meaning log opened) (items 1 input))

    -- the lines of all turns of the machine
    abbrev pub turns_lines : List Line
    turns_lines = lines_over opened (opening.size_at log) (items 1 input)

    -- the transactions and the commits after so many turns of the machine
    abbrev pub history : ℕ → History
    history = history_over opened (opening.size_at log) (items 1 input)

    -- as many turns as there can be, behind which none is left
    abbrev pub all_turns : ℕ
    all_turns = weight (start opened.database (items 1 input))

    -- the texts of all commits that are made
    abbrev pub commit_texts : List (List ℕ)
    commit_texts = program.texts_from (program.ahead sql_meaning log opened) input

    -- what there is behind the first so many of them
    abbrev pub after_commits : ℕ → Opened
    after_commits = program.after_commits sql_meaning log opened input

    -- what there is when the run has ended
    abbrev pub ended : Opened
    ended = program.ended_with sql_meaning log opened input
