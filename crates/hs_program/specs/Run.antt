-- What a run does, on the way and in the end.
use Rattle.std.specs.Prelude.{◌≡◌, ◌⊎◌, ℕ, ◌^◌, true, false, List, ◌++◌, Some}
use Rattle.hs_host.specs.declared.source.Source as source
use Rattle.hs_host.specs.declared.host.Host as host
use Rattle.hs_host.specs.Files.{Five, IsOpen}
use Rattle.hs_host.specs.Moments.{History, Since}
use Rattle.hs_host.specs.Used.{Told}
use Rattle.hs_log.specs.Log.{IsLog, IsWholeLog, epoch_in, is_born, is_broken}
use Rattle.hs_log.specs.LogReading.{left_in}
use Rattle.hs_log.specs.declared.log_reader.LogReader.{LogReader}
use Rattle.hs_run.specs.Crash.{IsLater, OnlyLog, texts_in}
use Rattle.hs_run.specs.Holding.{WritesPrefix}
use Rattle.hs_run.specs.Prompt.{IsOnTime, due_of}
use Rattle.hs_program.specs.declared.damage.Damage.TheVariants.{Log, Invalid}
use Rattle.hs_program.specs.declared.opening.Opening.{Opening}
use Rattle.hs_program.specs.declared.status.Status.{Status}
use Rattle.hs_program.specs.declared.status.Status.TheVariants.{Done, DiskFault, NoMemory, Damaged, InputTooLong}
use Rattle.hs_program.specs.Ahead.{ahead, all_told, told_within, texts_from, ended_with}
use Rattle.hs_program.specs.Crash.{IsQuiet, IsKept, IsSafe, IsSafeOnce, Survives}
use Rattle.hs_program.specs.Damaged.{GivesOneAlone, IsDamagedAlone, IsDamagedAt, IsInvalidAlone}
use Rattle.hs_program.specs.Lawful.{IsSound}
use Rattle.hs_program.specs.Meaning.{Meaning, Opened, nothing_logged}
use Rattle.hs_program.specs.Opening.{AreMadeOnly, IsInvalid, IsOpened, texts_at}
use Rattle.hs_program.specs.Stop.{TellsDamage, is_damaged}

-- The texts that were left of a log make this and nothing else, and each was whole.
abbrev pub AllMade : Meaning → LogReader → List ℕ → Opened → Type 0
AllMade m r log opened = AreMadeOnly m (nothing_logged m) (left_in r log) opened × (is_broken log ≡ false)

-- They make what violates this constraint, as the first.
pub record MakeInvalid (m : Meaning) (r : LogReader) (log name : List ℕ) : Type 0 where
  pub opened : Opened
  pub made : AllMade m r log opened
  pub violates : m.violated opened ≡ Some name

-- An engine stands for what they make, with which a run may begin.
pub record Redoes {E H : Type 0} (m : Meaning) (stands_for : E → Opened → Type 0) (s : source.Ghosts H) (g : host.Ghosts H) (r : LogReader) (old : H) (engine : E) : Type 0 where
  pub opened : Opened
  pub stands : stands_for engine opened
  pub sound : IsSound m opened
  pub is : Told s g old → AllMade m r (g.files old).log opened

-- A log was opened: an engine stands for what it gives, which is one alone, and the log, with the same commits, is kept as it is, also
-- on the disk.
pub record Opens {E H : Type 0} (m : Meaning) (stands_for : E → Opened → Type 0) (s : source.Ghosts H) (g : host.Ghosts H) (old new : H) (o : Opening E) : Type 0 where
  pub opened : Opened
  pub stands : stands_for o.engine opened
  pub sound : IsSound m opened
  pub is : Told s g old → IsOpened m (g.files old).log opened
  pub alone : Told s g old → GivesOneAlone m (g.files old).log
  pub host : IsOpen (g.standing new)
  pub epoch : epoch_in o.log ≡ 1
  pub log : Told s g new → IsLog (g.history new) (g.files new) o.log
  pub texts : Told s g old → texts_in (g.files new) ≡ texts_at (g.files old).log

-- the log was born, or a run over one that wasn't ended without a fault of the disk or want of memory
abbrev pub HasLog : List ℕ → Status → Type 0
HasLog log status = (is_born log ≡ true) ⊎ ((status ≡ DiskFault → ⊥) × (status ≡ NoMemory → ⊥))

-- A run over an honest host that tells its bytes, from these files, input, output and moments on: what it wrote, what stands in the
-- files, which moments were passed, and what it ends with.
pub record Runs (m : Meaning) (files : Five (List ℕ)) (input before : List ℕ) (start : History) (after : Five (List ℕ)) (out : List ℕ) (now : History) (status : Status) : Type 0 where
  pub front : (opened : Opened) → IsOpened m files.log opened → WritesPrefix before out (all_told (ahead m files.log opened) input)
  pub opened_first : (¬ (out ≡ before)) ⊎ ((status ≡ Done) ⊎ (status ≡ InputTooLong)) → (opened : Opened) × IsOpened m files.log opened
  pub opened_alone : (¬ (out ≡ before)) ⊎ ((status ≡ Done) ⊎ (status ≡ InputTooLong)) → GivesOneAlone m files.log
  pub done : (opened : Opened) → IsOpened m files.log opened → status ≡ Done → out ≡ before ++ all_told (ahead m files.log opened) input
  pub before_too_long : (opened : Opened) → IsOpened m files.log opened → status ≡ InputTooLong → out ≡ before ++ told_within (2 ^ 30) (ahead m files.log opened) input
  pub prompt : (opened : Opened) → IsOpened m files.log opened → Since (IsOnTime (due_of (texts_at files.log) (ahead m files.log opened)) start.now) start now
  pub log : (opened : Opened) → IsOpened m files.log opened → status ≡ Done → IsWholeLog 1 (texts_at files.log ++ texts_from (ahead m files.log opened) input) after.log
  pub reopens : (opened : Opened) → IsOpened m files.log opened → status ≡ Done → IsOpened m after.log (ended_with m files.log opened input)
  pub others : OnlyLog files after
  pub crash : IsQuiet files start.now → (opened : Opened) → IsOpened m files.log opened → Since (IsKept m files opened input before start.now) start now
  pub crash_later : (opened : Opened) → IsOpened m files.log opened → Since (IsSafeOnce m files.log opened input before) start now
  pub safe : IsQuiet files start.now → (opened : Opened) → IsOpened m files.log opened → HasLog files.log status → IsSafe m files.log opened input before now.now
  pub left : IsQuiet files start.now → (opened : Opened) → IsOpened m files.log opened → HasLog files.log status → Survives m files.log opened input before out after.log
  pub begun : is_born files.log ≡ false → (is_born after.log ≡ false) ⊎ Survives m files.log (nothing_logged m) input before out after.log
  pub alone : Since (IsLater start.now) start now
  pub damaged : (number : ℕ) → status ≡ Damaged (Log number) → IsDamagedAt m files.log number
  pub damaged_alone : (number : ℕ) → status ≡ Damaged (Log number) → IsDamagedAlone m files.log number
  pub damage : (number : ℕ) → IsDamagedAt m files.log number → TellsDamage (Log number) status
  pub damaged_silent : (number : ℕ) → IsDamagedAt m files.log number → out ≡ before
  pub damaged_kept : (number : ℕ) → IsDamagedAt m files.log number → after ≡ files
  pub invalid : (name : List ℕ) → status ≡ Damaged (Invalid name) → IsInvalid m files.log name
  pub invalid_alone : (name : List ℕ) → status ≡ Damaged (Invalid name) → IsInvalidAlone m files.log name
  pub violation : (name : List ℕ) → IsInvalid m files.log name → TellsDamage (Invalid name) status
  pub invalid_silent : (name : List ℕ) → IsInvalid m files.log name → out ≡ before
  pub invalid_kept : (name : List ℕ) → IsInvalid m files.log name → after ≡ files
  pub kept : is_damaged status ≡ true → after ≡ files
