-- That replies are written, and their commits logged, before more of the input is asked for.
use Rattle.std.specs.Prelude.{◌≡◌, ℕ, List, ◌++◌}
use Rattle.hs_entries.specs.Items.{whole_items}
use Rattle.hs_host.specs.declared.file_kind.FileKind.TheVariants.{Log}
use Rattle.hs_host.specs.declared.source.Source as source
use Rattle.hs_host.specs.declared.host.Host as host
use Rattle.hs_host.specs.Disk.{Leaves}
use Rattle.hs_host.specs.Moments.{Moment, Since, asked, disk_of}
use Rattle.hs_host.specs.Used.{Told}
use Rattle.hs_log.specs.Log.{IsLogOf}
use Rattle.hs_run.specs.Future.{Future}
use Rattle.hs_run.specs.Pieces.{made_by, transcript_within}

-- What is due when these bytes of the input were taken: the first line, and all that is told over the items that are whole in them,
-- until a further one is needed.
abbrev pub due_for : Future → List ℕ → List ℕ
due_for f given = transcript_within f.commits (f.taken (whole_items 1 given))

-- What is due in a log that had these texts: they, and those of all commits that are made over the items that are whole in these bytes,
-- until a further one is needed.
abbrev pub logged_for : List (List ℕ) → Future → List ℕ → List (List ℕ)
logged_for texts f given = texts ++ made_by (f.taken (whole_items 1 given))

-- So much of the input was taken behind that of a start, and what is due for it was written behind the output of the start, at least.
pub record IsAnswered (due : List ℕ → List ℕ) (start : Moment) (taken out : List ℕ) : Type 0 where
  pub given : List ℕ
  pub is : taken ≡ start.taken ++ given
  pub more : List ℕ
  pub written : out ≡ start.out ++ (due given ++ more)

-- so it is at a moment that a call for input made, by what was taken before that call
abbrev pub IsPrompt : (List ℕ → List ℕ) → Moment → Moment → Type 0
IsPrompt due start m = (taken : List ℕ) → m.call ≡ asked taken → IsAnswered due start taken m.out

-- whatever a crash at this moment leaves of the log is a log of these texts, no fewer and no more
abbrev pub IsLogged : List (List ℕ) → Moment → Type 0
IsLogged texts m = (log : List ℕ) → Leaves (disk_of m Log) log → IsLogOf 1 texts log

-- so it is at a moment that a call for input made, by what was taken behind that of a start before that call
abbrev pub IsPromptlyLogged : (List ℕ → List (List ℕ)) → Moment → Moment → Type 0
IsPromptlyLogged due start m = (given : List ℕ) → m.call ≡ asked (start.taken ++ given) → IsLogged (due given) m

-- what is due when so much of the input was taken: to be written, and in the log
pub record Due : Type 0 where
  pub told : List ℕ → List ℕ
  pub made : List ℕ → List (List ℕ)

-- that of a run, by the texts that were in the log before
abbrev pub due_of : List (List ℕ) → Future → Due
due_of texts f = record { told = due_for f; made = logged_for texts f }

-- it was written and logged
pub record IsOnTime (due : Due) (start m : Moment) : Type 0 where
  pub told : IsPrompt due.told start m
  pub made : IsPromptlyLogged due.made start m

-- a call made this moment that didn't ask for input, and no more was taken by then
pub record IsUnasked (before m : Moment) : Type 0 where
  pub taken : m.taken ≡ before.taken
  pub none : (taken : List ℕ) → ¬ (m.call ≡ asked taken)

-- no call asked for input
abbrev pub AsksNothing : {H : Type 0} → source.Ghosts H → host.Ghosts H → H → H → Type 0
AsksNothing s g old new = Told s g old → Since (IsUnasked (g.history old).now) (g.history old) (g.history new)
