-- What is ahead of a run over a log, and what it tells, makes and ends with.
use Rattle.std.specs.Prelude.{ℕ, List, length, take}
use Rattle.hs_entries.specs.Items.{items, whole_items}
use Rattle.hs_run.specs.Future.{Future}
use Rattle.hs_run.specs.Pieces.{made_by, transcript, transcript_within}
use Rattle.hs_run.specs.Running.{pieces}
use Rattle.hs_program.specs.Meaning.{Meaning, Opened}
use Rattle.hs_program.specs.Opening.{size_at}

-- all that is written over an input
abbrev pub all_told : Future → List ℕ → List ℕ
all_told f input = transcript f.commits (pieces f (items 1 input))

-- what is written over the items that are whole in the first bytes of an input, and the first line before it
abbrev pub told_within : ℕ → Future → List ℕ → List ℕ
told_within limit f input = transcript_within f.commits (f.taken (whole_items 1 (take limit input)))

-- the texts of all commits that are made over an input
abbrev pub texts_from : Future → List ℕ → List (List ℕ)
texts_from f input = made_by (pieces f (items 1 input))

-- what is ahead of a run over a log that gives this
abbrev pub ahead : Meaning → List ℕ → Opened → Future
ahead m log opened = m.future opened (size_at log)

-- what there is behind the first so many commits of that run
abbrev pub after_commits : Meaning → List ℕ → Opened → List ℕ → ℕ → Opened
after_commits m log opened input count = m.behind opened (size_at log) (items 1 input) count

-- what there is when it has ended: behind all of them
abbrev pub ended_with : Meaning → List ℕ → Opened → List ℕ → Opened
ended_with m log opened input = after_commits m log opened input (length (texts_from (ahead m log opened) input))
