-- What goes out of a run: what is gathered, and the log.
use Rattle.std.specs.Prelude.{◌≡◌, ℕ, ◌+◌, ◌≤◌, List, [], ◌∷◌, ◌++◌, length, take, Result, Err, OnOk}
use Rattle.hs_host.specs.declared.source.Source as source
use Rattle.hs_host.specs.declared.host.Host as host
use Rattle.hs_host.specs.declared.file_kind.FileKind.TheVariants.{Log}
use Rattle.hs_host.specs.Files.{IsOpen}
use Rattle.hs_host.specs.Moments.{Moment, OneFile, Since}
use Rattle.hs_host.specs.Used.{Told}
use Rattle.hs_log.specs.Log.{HasNoneOrAll, IsLog, IsWholeLog, epoch_in}
use Rattle.hs_run.specs.declared.gathered.Gathered.{Gathered}
use Rattle.hs_run.specs.declared.outgoing.Outgoing.{Outgoing}
use Rattle.hs_run.specs.declared.stop.Stop.{Stop}
use Rattle.hs_run.specs.Crash.{IsHeld, texts_in}
use Rattle.hs_run.specs.Holding.{WritesPrefix, IsGathered}
use Rattle.hs_run.specs.Lines.{opened_line, closed_line}
use Rattle.hs_run.specs.Used.{TakesTurns}

-- nothing is to be told, and no commit is to be logged
pub record IsEmpty (gathered : Gathered) : Type 0 where
  pub told : gathered.told ≡ []
  pub made : gathered.made ≡ []

-- How much of what is told stands, where these commits are to be logged: all where there are none, else so much as before.
abbrev pub standing_with : List (List ℕ) → ℕ → ℕ → ℕ
standing_with [] all before = all
standing_with (text ∷ texts) all before = before

-- what is gathered as what stands
abbrev pub marked : Outgoing → Outgoing
marked o = record o { standing = standing_with o.gathered.made (length o.gathered.told) o.standing }

-- The host's files are open, the log is of the first epoch and kept as it is, also on the disk, and no more of what is told stands
-- than there is.
pub record IsServing {H : Type 0} (s : source.Ghosts H) (g : host.Ghosts H) (o : Outgoing) (h : H) : Type 0 where
  pub opened : IsOpen (g.standing h)
  pub epoch : epoch_in o.log ≡ 1
  pub log : Told s g h → IsLog (g.history h) (g.files h) o.log
  pub within : o.standing ≤ length o.gathered.told

-- At least so many commits are logged. What was written, with so much of what is gathered as stands, tells of none that isn't
-- logged; with all that is gathered, of none that is neither logged nor gathered.
pub record IsTelling {H : Type 0} (least : ℕ) (before : List ℕ) (g : host.Ghosts H) (o : Outgoing) (h : H) : Type 0 where
  pub enough : least ≤ length (texts_in (g.files h))
  pub stands : IsGathered before (g.written h) (take o.standing o.gathered.told) (length (texts_in (g.files h)))
  pub gathered : IsGathered before (g.written h) o.gathered.told (length (texts_in (g.files h)) + length o.gathered.made)

-- Behind these texts others are being logged: what a crash leaves is a log of them, or of all.
abbrev pub IsLogging : Moment → List (List ℕ) → List (List ℕ) → Moment → Type 0
IsLogging before logged texts m = OneFile before Log (HasNoneOrAll 1 logged texts) m

-- What is gathered goes out, as far as it comes: whatever this ends with, a prefix of what was gathered is written, and a crash at
-- each moment leaves a log of what was logged, or of that and what was gathered.
pub record HandsOn {R H : Type 0} (s : source.Ghosts H) (g : host.Ghosts H) (old_out : Outgoing) (old : H) (new_out : Outgoing) (new : H) (result : Result R Stop) : Type 0 where
  pub serving : OnOk result (IsServing s g new_out new)
  pub told : s.tells → OnOk result (g.written new ++ new_out.gathered.told ≡ g.written old ++ old_out.gathered.told)
  pub made : Told s g old → OnOk result (texts_in (g.files new) ++ new_out.gathered.made ≡ texts_in (g.files old) ++ old_out.gathered.made)
  pub telling : Told s g old → (least : ℕ) (before : List ℕ) → IsTelling least before g old_out old → OnOk result (IsTelling least before g new_out new)
  pub front : s.tells → WritesPrefix (g.written old) (g.written new) old_out.gathered.told
  pub moments : Told s g old → (least : ℕ) (before : List ℕ) → IsTelling least before g old_out old → (rest : List (List ℕ))
      → Since (IsHeld least (texts_in (g.files old) ++ (old_out.gathered.made ++ rest)) before) (g.history old) (g.history new)
  pub ends : TakesTurns s g old new result

-- what ends a run, as the result of a part of it
abbrev pub failing : Stop → Result (Unit {0}) Stop
failing stop = Err stop

-- The first line is written, where nothing else is gathered. Until it is whole no commit counts that wasn't logged before.
pub record Opens {R H : Type 0} (s : source.Ghosts H) (g : host.Ghosts H) (commits : ℕ) (old_out : Outgoing) (old : H) (new_out : Outgoing) (new : H) (result : Result R Stop) : Type 0 where
  pub serving : OnOk result (IsServing s g new_out new)
  pub told : s.tells → OnOk result (g.written new ≡ g.written old ++ opened_line commits)
  pub none_told : OnOk result (new_out.gathered.told ≡ [])
  pub none_made : OnOk result (new_out.gathered.made ≡ [])
  pub files : Told s g old → g.files new ≡ g.files old
  pub telling : Told s g old → OnOk result (IsTelling (length (texts_in (g.files old))) (g.written old) g new_out new)
  pub front : s.tells → WritesPrefix (g.written old) (g.written new) (opened_line commits)
  pub moments : Told s g old → (rest : List (List ℕ)) → Since (IsHeld (length (texts_in (g.files old))) (texts_in (g.files old) ++ rest) (g.written old)) (g.history old) (g.history new)
  pub ends : TakesTurns s g old new result

-- The last line is written, behind all that is gathered.
pub record Closes {R H : Type 0} (s : source.Ghosts H) (g : host.Ghosts H) (commits : ℕ) (out : Outgoing) (old new : H) (result : Result R Stop) : Type 0 where
  pub told : s.tells → OnOk result (g.written new ≡ g.written old ++ (out.gathered.told ++ closed_line commits))
  pub log : Told s g old → OnOk result (IsWholeLog 1 (texts_in (g.files old) ++ out.gathered.made) (g.files new).log)
  pub front : s.tells → WritesPrefix (g.written old) (g.written new) (out.gathered.told ++ closed_line commits)
  pub moments : Told s g old → (least : ℕ) (before : List ℕ) → IsTelling least before g out old → Since (IsHeld least (texts_in (g.files old) ++ out.gathered.made) before) (g.history old) (g.history new)
  pub ends : TakesTurns s g old new result
