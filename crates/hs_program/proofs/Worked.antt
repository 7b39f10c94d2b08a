-- What a run did, put together from its parts.
use Rattle.std.proofs.Common.{◌≡◌, ◌⊎◌, ℕ, ◌^◌, true, false, List, ◌++◌, length, inl, inr, refl, sym, ap, subst, ◌∙◌}
use Rattle.hs_host.specs.declared.file_kind.FileKind.TheVariants.{Log as LogFile}
use Rattle.hs_host.specs.Disk.{Leaves}
use Rattle.hs_host.specs.Files.{Five}
use Rattle.hs_host.specs.Moments.{History, Since, disk_of}
use Rattle.hs_host.proofs.Passing.{since_none, since_weaker, since_join}
use Rattle.hs_host.proofs.Used.{only_on}
use Rattle.hs_log.specs.declared.log.Log.{Log as Kept}
use Rattle.hs_log.specs.Log.{IsLog, IsUnbornOrNew, IsWholeLog, epoch_in, is_born}
use Rattle.hs_run.specs.Crash.{IsHeld, IsLater, OnlyLog, texts_in}
use Rattle.hs_run.specs.Future.{Future}
use Rattle.hs_run.specs.Holding.{WritesPrefix}
use Rattle.hs_run.specs.Prompt.{IsOnTime, due_of}
use Rattle.hs_run.specs.declared.stop.Stop.{Stop}
use Rattle.hs_run.specs.declared.stop.Stop.TheVariants as stop
use Rattle.hs_run.proofs.Alone.{alone_on}
use Rattle.hs_run.proofs.Prefixes.{nothing_yet}
use Rattle.hs_run.proofs.Prompt.{prompt_from, unasked_prompt, unasked_taken}
use Rattle.hs_program.specs.declared.damage.Damage.{Damage}
use Rattle.hs_program.specs.declared.damage.Damage.TheVariants.{Foreign, Log, Invalid}
use Rattle.hs_program.specs.declared.fault.OpenFault.{OpenFault}
use Rattle.hs_program.specs.declared.fault.OpenFault.TheVariants as fault
use Rattle.hs_program.specs.declared.status.Status.{Status}
use Rattle.hs_program.specs.declared.status.Status.TheVariants.{Done, Usage, InputFault, OutputFault, DiskFault, NoMemory, Damaged, InputTooLong}
use Rattle.hs_program.specs.Ahead.{ahead, all_told, ended_with, told_within, texts_from}
use Rattle.hs_program.specs.Damaged.{GivesOneAlone, IsDamagedAlone, IsDamagedAt, IsInvalidAlone}
use Rattle.hs_program.specs.Crash.{IsFound, IsKept, IsPreparing, IsQuiet, IsSafe, IsSafeOnce, Survives}
use Rattle.hs_program.specs.Lawful.{IsLawful}
use Rattle.hs_program.specs.Meaning.{Meaning, Opened, nothing_logged}
use Rattle.hs_program.specs.Opening.{IsInvalid, IsOpened, texts_at}
use Rattle.hs_program.specs.Run.{HasLog, Runs}
use Rattle.hs_program.specs.Stop.{TellsDamage, is_damaged, stopped, unopened}
use Rattle.hs_program.proofs.Alone.{preparing_later, preparing_unasked}
use Rattle.hs_program.proofs.Openings.{same_gives}
use Rattle.hs_program.proofs.Replayed.{unborn_gives}
use Rattle.hs_program.proofs.Stops.{is_idle}
use Rattle.hs_program.proofs.Safe.{born_safe, found_kept, held_opened, left_now, reopened, safe, safe_now, same_survives, start_safe, unborn_or_new}

-- ---- a run that did nothing

pub idle_never : (status other : Status) → is_idle status ≡ true → is_idle other ≡ false → status ≡ other → ⊥
idle_never status other idle busy is = let e : true ≡ false = sym idle ∙ ap is_idle is ∙ busy in absurd (cc)

idle_as : (status : Status) (damage : Damage) → is_idle status ≡ true → TellsDamage damage status
idle_as Usage damage idle = inl refl
idle_as (Damaged Foreign) damage idle = inr (inl refl)
idle_as DiskFault damage idle = inr (inr (inr (inl refl)))
idle_as NoMemory damage idle = inr (inr (inr (inr refl)))
idle_as Done damage idle = absurd (cc)
idle_as InputFault damage idle = absurd (cc)
idle_as OutputFault damage idle = absurd (cc)
idle_as (Damaged (Log n)) damage idle = absurd (cc)
idle_as (Damaged (Invalid n)) damage idle = absurd (cc)
idle_as InputTooLong damage idle = absurd (cc)

-- nothing was written, and no turns were taken to their end
quiet_never : {A : Type 0} (status : Status) (before out : List ℕ) → out ≡ before → (status ≡ Done → ⊥) → (status ≡ InputTooLong → ⊥) → (¬ (out ≡ before)) ⊎ ((status ≡ Done) ⊎ (status ≡ InputTooLong)) → A
quiet_never status before out told done long (inl wrote) = absurd (wrote told)
quiet_never status before out told done long (inr (inl is)) = absurd (done is)
quiet_never status before out told done long (inr (inr is)) = absurd (long is)

-- ---- one whose log couldn't be opened

pub unopened_done : (why : OpenFault) → unopened why ≡ Done → ⊥
unopened_done fault.Disk is = absurd (cc)
unopened_done (fault.Damaged n) is = absurd (cc)
unopened_done (fault.Invalid n) is = absurd (cc)
unopened_done fault.NoMemory is = absurd (cc)

pub unopened_long : (why : OpenFault) → unopened why ≡ InputTooLong → ⊥
unopened_long fault.Disk is = absurd (cc)
unopened_long (fault.Damaged n) is = absurd (cc)
unopened_long (fault.Invalid n) is = absurd (cc)
unopened_long fault.NoMemory is = absurd (cc)

-- where it wasn't for a fault, it was for a damage
damage_of : (why : OpenFault) → (unopened why ≡ DiskFault → ⊥) → (unopened why ≡ NoMemory → ⊥) → ((number : ℕ) × (why ≡ fault.Damaged number)) ⊎ ((name : List ℕ) × (why ≡ fault.Invalid name))
damage_of fault.Disk disk memory = absurd (disk refl)
damage_of (fault.Damaged n) disk memory = inl (n, refl)
damage_of (fault.Invalid n) disk memory = inr (n, refl)
damage_of fault.NoMemory disk memory = absurd (memory refl)

damaged_as : (why : OpenFault) (number : ℕ) → unopened why ≡ Damaged (Log number) → why ≡ fault.Damaged number
damaged_as fault.Disk number is = absurd (cc)
damaged_as (fault.Damaged n) number is = cc
damaged_as (fault.Invalid n) number is = absurd (cc)
damaged_as fault.NoMemory number is = absurd (cc)

invalid_as : (why : OpenFault) (name : List ℕ) → unopened why ≡ Damaged (Invalid name) → why ≡ fault.Invalid name
invalid_as fault.Disk name is = absurd (cc)
invalid_as (fault.Damaged n) name is = absurd (cc)
invalid_as (fault.Invalid n) name is = cc
invalid_as fault.NoMemory name is = absurd (cc)

pub unopened_own : (why : OpenFault) → unopened why ≡ Damaged Foreign → ⊥
unopened_own fault.Disk is = absurd (cc)
unopened_own (fault.Damaged n) is = absurd (cc)
unopened_own (fault.Invalid n) is = absurd (cc)
unopened_own fault.NoMemory is = absurd (cc)

-- ---- one that took turns

pub stopped_whole : (why : Stop) → is_damaged (stopped why) ≡ false
stopped_whole stop.Input = refl
stopped_whole stop.Output = refl
stopped_whole stop.Disk = refl
stopped_whole stop.NoMemory = refl
stopped_whole stop.TooLong = refl

pub stopped_done : (why : Stop) → stopped why ≡ Done → ⊥
stopped_done stop.Input is = absurd (cc)
stopped_done stop.Output is = absurd (cc)
stopped_done stop.Disk is = absurd (cc)
stopped_done stop.NoMemory is = absurd (cc)
stopped_done stop.TooLong is = absurd (cc)

pub stopped_long : (why : Stop) → stopped why ≡ InputTooLong → why ≡ stop.TooLong
stopped_long stop.Input is = absurd (cc)
stopped_long stop.Output is = absurd (cc)
stopped_long stop.Disk is = absurd (cc)
stopped_long stop.NoMemory is = absurd (cc)
stopped_long stop.TooLong is = refl

-- what taking turns did, of which these pieces were ahead, where the log had these texts
pub record Turned (f : Future) (texts : List (List ℕ)) (input before : List ℕ) (files : Five (List ℕ)) (mid : History) (after : Five (List ℕ)) (out : List ℕ) (now : History) (status : Status) : Type 0 where
  pub front : WritesPrefix before out (all_told f input)
  pub done : status ≡ Done → out ≡ before ++ all_told f input
  pub too_long : status ≡ InputTooLong → out ≡ before ++ told_within (2 ^ 30) f input
  pub log : status ≡ Done → IsWholeLog 1 (texts ++ texts_from f input) after.log
  pub moments : Since (IsHeld (length texts) (texts ++ texts_from f input) before) mid now
  pub prompt : Since (IsOnTime (due_of texts f) mid.now) mid now
  pub others : OnlyLog files after
  pub alone : Since (IsLater mid.now) mid now
  pub whole : is_damaged status ≡ false

-- the same where the texts, the input and the output are the same
pub turned_from : (f : Future) (texts texts-2 : List (List ℕ)) (input input-2 before before-2 : List ℕ) (files : Five (List ℕ)) (mid : History) (after : Five (List ℕ)) (out : List ℕ) (now : History) (status : Status)
    → texts-2 ≡ texts → input-2 ≡ input → before-2 ≡ before → Turned f texts-2 input-2 before-2 files mid after out now status → Turned f texts input before files mid after out now status
turned_from f texts texts-2 input input-2 before before-2 files mid after out now status same_texts same_input same_out turned =
    subst (λ (x : List (List ℕ)). Turned f x input before files mid after out now status) same_texts
    (subst (λ (x : List ℕ). Turned f texts-2 x before files mid after out now status) same_input
    (subst (λ (x : List ℕ). Turned f texts-2 input-2 x files mid after out now status) same_out turned))

module _ (m : Meaning) (law : IsLawful m) (files : Five (List ℕ)) (input before : List ℕ) (start : History) (first : start.now.out ≡ before) where
  pub idle_runs : (status : Status) → is_idle status ≡ true → Runs m files input before start files before start status
  idle_runs status idle = record {
    front = λ opened is. nothing_yet before _;
    opened_first = quiet_never status before before refl (λ done. absurd (idle_never status Done idle refl done)) (λ long. absurd (idle_never status InputTooLong idle refl long));
    opened_alone = quiet_never status before before refl (λ done. absurd (idle_never status Done idle refl done)) (λ long. absurd (idle_never status InputTooLong idle refl long));
    done = λ opened is done. absurd (idle_never status Done idle refl done);
    before_too_long = λ opened is long. absurd (idle_never status InputTooLong idle refl long);
    log = λ opened is done. absurd (idle_never status Done idle refl done);
    reopens = λ opened is done. absurd (idle_never status Done idle refl done);
    others = refl;
    prompt = λ opened is. since_none _ start;
    crash = λ quiet opened is. since_none _ start;
    crash_later = λ opened is. since_none _ start;
    safe = λ quiet opened is has. start_safe m law files opened input before start.now is quiet first;
    left = λ quiet opened is has. same_survives m law files.log opened input before before files.log is refl (same_gives m files.log files.log refl);
    begun = λ unborn. inl unborn;
    alone = since_none _ start;
    damaged = λ number is. absurd (idle_never status (Damaged (Log number)) idle refl is);
    damaged_alone = λ number is. absurd (idle_never status (Damaged (Log number)) idle refl is);
    damage = λ number is. idle_as status (Log number) idle;
    damaged_silent = λ number is. refl;
    damaged_kept = λ number is. refl;
    invalid = λ name is. absurd (idle_never status (Damaged (Invalid name)) idle refl is);
    invalid_alone = λ name is. absurd (idle_never status (Damaged (Invalid name)) idle refl is);
    violation = λ name is. idle_as status (Invalid name) idle;
    invalid_silent = λ name is. refl;
    invalid_kept = λ name is. refl;
    kept = λ is. refl;
  }

  -- while the log is opened nothing is written
  nothing_once : {mid : History} (opened : Opened) → Since (IsPreparing start.now) start mid → Since (IsSafeOnce m files.log opened input before) start mid
  nothing_once opened each = since_weaker each (λ at is wrote. absurd (wrote (is.out ∙ first)))

  -- what stands in the end and was written by then
  module _ (after : Five (List ℕ)) (out : List ℕ) (now : History) (last : now.now.out ≡ out) (leaves : Leaves (disk_of now.now LogFile) after.log) where
    -- the log couldn't be opened
    module _ (why : OpenFault) (told : out ≡ before) (others : OnlyLog files after) (found : IsQuiet files start.now → Since (IsFound m files start.now) start now) (prepared : Since (IsPreparing start.now) start now)
        (damaged : (number : ℕ) → why ≡ fault.Damaged number → IsDamagedAt m files.log number × IsDamagedAlone m files.log number × (after ≡ files))
        (invalid : (name : List ℕ) → why ≡ fault.Invalid name → IsInvalid m files.log name × IsInvalidAlone m files.log name × (after ≡ files))
        (kept : ((number : ℕ) → IsDamagedAt m files.log number → after ≡ files) × ((name : List ℕ) → IsInvalid m files.log name → after ≡ files)) (begun : is_born files.log ≡ false → IsUnbornOrNew after.log) where
      unopened_crash : IsQuiet files start.now → (opened : Opened) → IsOpened m files.log opened → Since (IsKept m files opened input before start.now) start now
      unopened_crash quiet opened is = since_weaker (found quiet) (λ at. found_kept m law files opened input before start.now at is first)

      unopened_safe : IsQuiet files start.now → (opened : Opened) → IsOpened m files.log opened → HasLog files.log (unopened why) → IsSafe m files.log opened input before now.now
      unopened_safe quiet opened is (inl born) = born_safe m law files opened input before start now is born quiet first (unopened_crash quiet opened is)
      unopened_safe quiet opened is (inr other) = elim (damage_of why other.0 other.1) [
        | inl by ↦ absurd ((damaged by.0 by.1).1.nothing opened is)
        | inr by ↦ absurd ((invalid by.0 by.1).1.nothing opened is)
      ]

      damaged_told : (w : OpenFault) → why ≡ w → (number : ℕ) → IsDamagedAt m files.log number → TellsDamage (Log number) (unopened w)
      damaged_told fault.Disk w number is = inr (inr (inr (inl refl)))
      damaged_told (fault.Damaged n) w number is = inr (inr (inl (ap (λ (k : ℕ). Damaged (Log k)) (sym ((damaged n w).1.one number is)))))
      damaged_told (fault.Invalid n) w number is = absurd ((invalid n w).1.whole number is)
      damaged_told fault.NoMemory w number is = inr (inr (inr (inr refl)))

      invalid_told : (w : OpenFault) → why ≡ w → (name : List ℕ) → IsInvalid m files.log name → TellsDamage (Invalid name) (unopened w)
      invalid_told fault.Disk w name is = inr (inr (inr (inl refl)))
      invalid_told (fault.Damaged n) w name is = absurd ((damaged n w).1.valid name is)
      invalid_told (fault.Invalid n) w name is = inr (inr (inl (ap (λ (k : List ℕ). Damaged (Invalid k)) (sym ((invalid n w).1.one name is)))))
      invalid_told fault.NoMemory w name is = inr (inr (inr (inr refl)))

      untouched : (w : OpenFault) → why ≡ w → is_damaged (unopened w) ≡ true → after ≡ files
      untouched fault.Disk w is = absurd (cc)
      untouched (fault.Damaged n) w is = (damaged n w).2
      untouched (fault.Invalid n) w is = (invalid n w).2
      untouched fault.NoMemory w is = absurd (cc)

      pub unopened_runs : Runs m files input before start after out now (unopened why)
      unopened_runs = record {
        front = λ opened is. subst (λ (o : List ℕ). WritesPrefix before o (all_told (ahead m files.log opened) input)) (sym told) (nothing_yet before _);
        opened_first = quiet_never (unopened why) before out told (unopened_done why) (unopened_long why);
        opened_alone = quiet_never (unopened why) before out told (unopened_done why) (unopened_long why);
        done = λ opened is done. absurd (unopened_done why done);
        before_too_long = λ opened is long. absurd (unopened_long why long);
        log = λ opened is done. absurd (unopened_done why done);
        reopens = λ opened is done. absurd (unopened_done why done);
        others = others;
        prompt = λ opened is. unasked_prompt _ start.now (preparing_unasked prepared);
        crash = unopened_crash;
        crash_later = λ opened is. nothing_once opened prepared;
        safe = unopened_safe;
        left = λ quiet opened is has. left_now m files.log opened input before now.now out after.log (unopened_safe quiet opened is has) last leaves;
        begun = λ unborn. unborn_or_new m law files.log input before out after.log unborn told (begun unborn);
        alone = preparing_later prepared;
        damaged = λ number is. (damaged number (damaged_as why number is)).0;
        damaged_alone = λ number is. (damaged number (damaged_as why number is)).1;
        damage = damaged_told why refl;
        damaged_silent = λ number is. told;
        damaged_kept = kept.0;
        invalid = λ name is. (invalid name (invalid_as why name is)).0;
        invalid_alone = λ name is. (invalid name (invalid_as why name is)).1;
        violation = invalid_told why refl;
        invalid_silent = λ name is. told;
        invalid_kept = kept.1;
        kept = untouched why refl;
      }

    -- turns were taken behind an opening
    module _ (opened : Opened) (is : IsOpened m files.log opened) (gives : GivesOneAlone m files.log) (mid : History) (between : Five (List ℕ)) (kept : Kept) (log : IsLog mid between kept) (epoch : epoch_in kept ≡ 1)
        (texts : texts_in between ≡ texts_at files.log) (told : mid.now.out ≡ before) (only : OnlyLog files between) (found : IsQuiet files start.now → Since (IsFound m files start.now) start mid)
        (prepared : Since (IsPreparing start.now) start mid) (status : Status)
        (turned : Turned (ahead m files.log opened) (texts_at files.log) input before between mid after out now status) where
      each_safe : Since (IsSafe m files.log opened input before) mid now
      each_safe = since_weaker turned.moments (λ at. safe m law files.log opened input before at is)

      turned_safe : IsSafe m files.log opened input before now.now
      turned_safe =
          safe_now m (safe m law files.log opened input before mid.now is
          (subst (λ (ts : List (List ℕ)). IsHeld (length ts) (ts ++ texts_from (ahead m files.log opened) input) before mid.now) texts
          (held_opened between mid kept log epoch before (texts_from (ahead m files.log opened) input) told))) each_safe

      turned_left : Survives m files.log opened input before out after.log
      turned_left = left_now m files.log opened input before now.now out after.log turned_safe last leaves

      turned_crash : IsQuiet files start.now → Since (IsKept m files opened input before start.now) start now
      turned_crash quiet = since_join (since_weaker (found quiet) (λ at. found_kept m law files opened input before start.now at is first)) (since_weaker each_safe (λ at safe. inr safe))

      turned_prompt : Since (IsOnTime (due_of (texts_at files.log) (ahead m files.log opened)) start.now) start now
      turned_prompt =
          let due = due_of (texts_at files.log) (ahead m files.log opened) in
          since_join (unasked_prompt due start.now (preparing_unasked prepared))
          (since_weaker turned.prompt (λ at. prompt_from due start.now mid.now at (unasked_taken (preparing_unasked prepared)) (told ∙ sym first)))

      -- what the log gives is this
      same : (o : Opened) → IsOpened m files.log o → opened ≡ o
      same o there = gives.one opened o is there

      whole : {A : Type 0} (number : ℕ) → IsDamagedAt m files.log number → A
      whole number damaged = absurd (gives.whole number damaged)

      valid : {A : Type 0} (name : List ℕ) → IsInvalid m files.log name → A
      valid name invalid = absurd (gives.valid name invalid)

      hurt : {A : Type 0} → is_damaged status ≡ true → A
      hurt damaged = absurd (let e : true ≡ false = sym damaged ∙ turned.whole in cc)

      pub turned_runs : Runs m files input before start after out now status
      turned_runs = record {
        front = λ o there. subst (λ (x : Opened). WritesPrefix before out (all_told (ahead m files.log x) input)) (same o there) turned.front;
        opened_first = λ wrote. (opened, is);
        opened_alone = λ wrote. gives;
        done = λ o there done. subst (λ (x : Opened). out ≡ before ++ all_told (ahead m files.log x) input) (same o there) (turned.done done);
        before_too_long = λ o there long. subst (λ (x : Opened). out ≡ before ++ told_within (2 ^ 30) (ahead m files.log x) input) (same o there) (turned.too_long long);
        log = λ o there done. subst (λ (x : Opened). IsWholeLog 1 (texts_at files.log ++ texts_from (ahead m files.log x) input) after.log) (same o there) (turned.log done);
        reopens = λ o there done. subst (λ (x : Opened). IsOpened m after.log (ended_with m files.log x input)) (same o there) (reopened m law files.log after.log opened input is (turned.log done));
        others = only_on files between after LogFile only turned.others;
        prompt = λ o there. subst (λ (x : Opened). Since (IsOnTime (due_of (texts_at files.log) (ahead m files.log x)) start.now) start now) (same o there) turned_prompt;
        crash = λ quiet o there. subst (λ (x : Opened). Since (IsKept m files x input before start.now) start now) (same o there) (turned_crash quiet);
        crash_later = λ o there. subst (λ (x : Opened). Since (IsSafeOnce m files.log x input before) start now) (same o there) (since_join (nothing_once opened prepared) (since_weaker each_safe (λ at safe wrote. safe)));
        safe = λ quiet o there has. subst (λ (x : Opened). IsSafe m files.log x input before now.now) (same o there) turned_safe;
        left = λ quiet o there has. subst (λ (x : Opened). Survives m files.log x input before out after.log) (same o there) turned_left;
        begun = λ unborn. inr (subst (λ (x : Opened). Survives m files.log x input before out after.log) (same (nothing_logged m) (unborn_gives m law files.log unborn)) turned_left);
        alone = alone_on (preparing_later prepared) turned.alone;
        damaged = λ number damaged. hurt (ap is_damaged damaged);
        damaged_alone = λ number damaged. hurt (ap is_damaged damaged);
        damage = λ number there. whole number there;
        damaged_silent = λ number there. whole number there;
        damaged_kept = λ number there. whole number there;
        invalid = λ name invalid. hurt (ap is_damaged invalid);
        invalid_alone = λ name invalid. hurt (ap is_damaged invalid);
        violation = λ name there. valid name there;
        invalid_silent = λ name there. valid name there;
        invalid_kept = λ name there. valid name there;
        kept = λ damaged. hurt damaged;
      }

-- the same run, seen from a moment at which nothing was other, and up to one at which nothing is
pub runs_from : (m : Meaning) (files files-2 : Five (List ℕ)) (input input-2 before before-2 : List ℕ) (start start-2 : History) (after : Five (List ℕ)) (out : List ℕ) (now : History) (status : Status)
    → files-2 ≡ files → input-2 ≡ input → before-2 ≡ before → start-2 ≡ start → Runs m files-2 input-2 before-2 start-2 after out now status → Runs m files input before start after out now status
runs_from m files files-2 input input-2 before before-2 start start-2 after out now status same_files same_input same_out same_start runs =
    subst (λ (x : Five (List ℕ)). Runs m x input before start after out now status) same_files
    (subst (λ (x : List ℕ). Runs m files-2 x before start after out now status) same_input
    (subst (λ (x : List ℕ). Runs m files-2 input-2 x start after out now status) same_out
    (subst (λ (x : History). Runs m files-2 input-2 before-2 x after out now status) same_start runs)))

pub runs_to : (m : Meaning) (files : Five (List ℕ)) (input before : List ℕ) (start : History) (after after-2 : Five (List ℕ)) (out out-2 : List ℕ) (now now-2 : History) (status : Status)
    → after-2 ≡ after → out-2 ≡ out → now-2 ≡ now → Runs m files input before start after out now status → Runs m files input before start after-2 out-2 now-2 status
runs_to m files input before start after after-2 out out-2 now now-2 status same_files same_out same_now runs =
    subst (λ (x : Five (List ℕ)). Runs m files input before start x out-2 now-2 status) (sym same_files)
    (subst (λ (x : List ℕ). Runs m files input before start after x now-2 status) (sym same_out)
    (subst (λ (x : History). Runs m files input before start after out x status) (sym same_now) runs))
