-- What stops a part of a run stops the whole, and which status it has.
use Rattle.std.proofs.Common.{◌≡◌, ◌⊎◌, ℕ, ◌<◌, ◌≤◌, ◌^◌, Bool, true, false, List, length, Result, Ok, Err, inl, inr, refl, sym, subst, ◌∙◌, arith}
use Rattle.std.specs.Prelude.{IfOk, IsErrOf, MatchResult}
use Rattle.std.specs.Result.{IsErrAnd}
use Rattle.hs_host.specs.declared.source.Source as source
use Rattle.hs_host.specs.declared.host.Host as host
use Rattle.hs_host.specs.Host.{Rose}
use Rattle.hs_host.specs.Files.{IsForeign}
use Rattle.hs_host.specs.Used.{UsesDisk}
use Rattle.hs_log.specs.Faults.{HasLogCause, FailsWith}
use Rattle.hs_log.specs.declared.log_fault.LogFault.{LogFault}
use Rattle.hs_log.specs.declared.log_fault.LogFault.TheVariants as log
use Rattle.hs_run.specs.Stop.{NoFaults, RunStops}
use Rattle.hs_run.specs.declared.stop.Stop.{Stop}
use Rattle.hs_run.specs.declared.stop.Stop.TheVariants as stop
use Rattle.hs_run.proofs.Stops.{disk_calm, no_faults_on}
use Rattle.hs_program.specs.declared.damage.Damage.{Damage}
use Rattle.hs_program.specs.declared.damage.Damage.TheVariants.{Foreign, Log, Invalid}
use Rattle.hs_program.specs.declared.fault.OpenFault.{OpenFault}
use Rattle.hs_program.specs.declared.fault.OpenFault.TheVariants as fault
use Rattle.hs_program.specs.declared.status.Status.{Status}
use Rattle.hs_program.specs.declared.status.Status.TheVariants.{Done, Usage, InputFault, OutputFault, DiskFault, NoMemory, Damaged, InputTooLong}
use Rattle.hs_program.specs.Mounting.{MountStops}
use Rattle.hs_program.specs.Stop.{OpenStops, Ends, FindsForeign, IsSilent, TellsDamage, fault_of, is_damaged, stopped, unopened}

-- an error that is handed on
pub ends_by : {T : Type 0} (A : Type 0) (P : OpenFault → Type 0) (r : Result T OpenFault) (why : OpenFault) → IsErrAnd r (λ e. e ≡ why) → P why → MatchResult r (λ _. A) P
ends_by A P (Ok x) why is p = absurd is
ends_by A P (Err e) why is p = subst P (sym is) p

pub ends_for : {T A B : Type 0} (P Q : OpenFault → Type 0) (r : Result T OpenFault) → (A → B) → ((why : OpenFault) → P why → Q why) → MatchResult r (λ _. A) P → MatchResult r (λ _. B) Q
ends_for P Q (Ok x) f h e = f e
ends_for P Q (Err why) f h e = h why e

pub ok_for : {T E : Type 0} (P Q : T → Type 0) (r : Result T E) → ((x : T) → P x → Q x) → IfOk r P → IfOk r Q
ok_for P Q (Ok x) f h = f x h
ok_for P Q (Err e) f h = tt

broken_by : (why : LogFault) (number : ℕ) → fault_of why ≡ fault.Damaged number → why ≡ log.Broken number
broken_by log.Disk number is = absurd (cc)
broken_by (log.Broken n) number is = cc
broken_by log.NoMemory number is = absurd (cc)

-- a fault of the log is never a violated constraint
valid_by : (why : LogFault) (name : List ℕ) → fault_of why ≡ fault.Invalid name → ⊥
valid_by log.Disk name is = absurd (cc)
valid_by (log.Broken n) name is = absurd (cc)
valid_by log.NoMemory name is = absurd (cc)

pub invalid_never : {T A : Type 0} (result : Result T OpenFault) (why : LogFault) (name : List ℕ) → IsErrAnd result (λ e. e ≡ fault_of why) → IsErrOf result (fault.Invalid name) → A
invalid_never (Ok x) why name made is = absurd (cc)
invalid_never (Err e) why name made is = let same : e ≡ fault.Invalid name = cc in absurd (valid_by why name (sym made ∙ same))

-- a log is damaged where it is broken
pub damaged_from : {T : Type 0} (result : Result T OpenFault) (why : LogFault) (number : ℕ) → IsErrAnd result (λ e. e ≡ fault_of why) → IsErrOf result (fault.Damaged number) → why ≡ log.Broken number
damaged_from (Ok x) why number made is = absurd (cc)
damaged_from (Err e) why number made is = let same : e ≡ fault.Damaged number = cc in broken_by why number (sym made ∙ same)

module _ {H : Type 0} (s : source.Ghosts H) (g : host.Ghosts H) where
  -- where no device failed before, what stops a part stops all that was done
  pub open_open : (why : OpenFault) (a b c : H) → NoFaults s g a b → OpenStops s g b c why → OpenStops s g a c why
  open_open fault.Disk a b c calm rose = subst (λ (n : ℕ). Rose n (g.disk_faults c)) calm.disk rose
  open_open (fault.Damaged number) a b c calm same = no_faults_on calm same
  open_open (fault.Invalid name) a b c calm same = no_faults_on calm same
  open_open fault.NoMemory a b c calm same = no_faults_on calm same

  -- a fault of the log, where nothing but its file was used
  pub log_open : (why : LogFault) (a b : H) → UsesDisk s g a b → HasLogCause {T = Unit {0}} (g.disk_faults a) (g.disk_faults b) (Err why) → OpenStops s g a b (fault_of why)
  log_open log.Disk a b uses rose = rose
  log_open (log.Broken group) a b uses same = disk_calm uses same
  log_open log.NoMemory a b uses same = disk_calm uses same

  pub settle_open : (why : LogFault) (a b : H) → UsesDisk s g a b → FailsWith {T = Unit {0}} (g.disk_faults a) (g.disk_faults b) (Err why) → OpenStops s g a b (fault_of why)
  settle_open log.Disk a b uses rose = rose
  settle_open (log.Broken group) a b uses never = absurd never
  settle_open log.NoMemory a b uses same = disk_calm uses same

  -- how a run ends whose log couldn't be opened
  pub unopened_ends : (why : OpenFault) (status : Status) (a b : H) → status ≡ unopened why → OpenStops s g a b why → IsSilent s g a b → Ends s g a b status
  unopened_ends fault.Disk status a b is rose silent = subst (Ends s g a b) (sym is) rose
  unopened_ends (fault.Damaged number) status a b is calm silent = subst (Ends s g a b) (sym is) (calm, silent)
  unopened_ends (fault.Invalid name) status a b is calm silent = subst (Ends s g a b) (sym is) (calm, silent)
  unopened_ends fault.NoMemory status a b is calm silent = subst (Ends s g a b) (sym is) calm

  -- and one that took turns, where no device failed before
  pub stopped_ends : (why : Stop) (status : Status) (a b c : H) → status ≡ stopped why → NoFaults s g a b → RunStops s g b c why → Ends s g a c status
  stopped_ends stop.Input status a b c is calm rose = subst (Ends s g a c) (sym is) (subst (λ (n : ℕ). Rose n (s.input_faults c)) calm.input rose)
  stopped_ends stop.Output status a b c is calm rose = subst (Ends s g a c) (sym is) (subst (λ (n : ℕ). Rose n (g.output_faults c)) calm.output rose)
  stopped_ends stop.Disk status a b c is calm rose = subst (Ends s g a c) (sym is) (subst (λ (n : ℕ). Rose n (g.disk_faults c)) calm.disk rose)
  stopped_ends stop.NoMemory status a b c is calm same = subst (Ends s g a c) (sym is) (no_faults_on calm same)
  stopped_ends stop.TooLong status a b c is calm same = subst (Ends s g a c) (sym is) (no_faults_on calm same)

  -- and one whose files were mounted before
  pub mounted_ends : (status : Status) (a b c : H) → NoFaults s g a b → IsSilent s g a b → (status ≡ Damaged Foreign → ⊥) → Ends s g b c status → Ends s g a c status
  mounted_ends Done a b c calm silent other same = no_faults_on calm same
  mounted_ends Usage a b c calm silent other never = never
  mounted_ends InputFault a b c calm silent other rose = subst (λ (n : ℕ). Rose n (s.input_faults c)) calm.input rose
  mounted_ends OutputFault a b c calm silent other rose = subst (λ (n : ℕ). Rose n (g.output_faults c)) calm.output rose
  mounted_ends DiskFault a b c calm silent other rose = subst (λ (n : ℕ). Rose n (g.disk_faults c)) calm.disk rose
  mounted_ends NoMemory a b c calm silent other same = no_faults_on calm same
  mounted_ends (Damaged Foreign) a b c calm silent other finds = absurd (other refl)
  mounted_ends (Damaged (Log number)) a b c calm silent other ends = (
    no_faults_on calm ends.0,
    record { written = ends.1.written ∙ silent.written; unread = ends.1.unread ∙ silent.unread },
  )
  mounted_ends (Damaged (Invalid name)) a b c calm silent other ends = (
    no_faults_on calm ends.0,
    record { written = ends.1.written ∙ silent.written; unread = ends.1.unread ∙ silent.unread },
  )
  mounted_ends InputTooLong a b c calm silent other same = no_faults_on calm same

  -- what is told as no fault is told where no device failed
  pub calm_by : (status : Status) (a b : H) → Ends s g a b status → (status ≡ InputFault → ⊥) → (status ≡ OutputFault → ⊥) → (status ≡ DiskFault → ⊥) → NoFaults s g a b
  calm_by Done a b ends input output disk = ends
  calm_by Usage a b ends input output disk = absurd ends
  calm_by InputFault a b ends input output disk = absurd (input refl)
  calm_by OutputFault a b ends input output disk = absurd (output refl)
  calm_by DiskFault a b ends input output disk = absurd (disk refl)
  calm_by NoMemory a b ends input output disk = ends
  calm_by (Damaged Foreign) a b ends input output disk = ends.calm
  calm_by (Damaged (Log number)) a b ends input output disk = ends.0
  calm_by (Damaged (Invalid name)) a b ends input output disk = ends.0
  calm_by InputTooLong a b ends input output disk = ends

  -- a run that finds files at fault is silent
  pub silent_by : (status : Status) (a b : H) → Ends s g a b status → is_damaged status ≡ true → IsSilent s g a b
  silent_by (Damaged Foreign) a b ends damaged = ends.silent
  silent_by (Damaged (Log number)) a b ends damaged = ends.1
  silent_by (Damaged (Invalid name)) a b ends damaged = ends.1
  silent_by Done a b ends damaged = absurd (cc)
  silent_by Usage a b ends damaged = absurd (cc)
  silent_by InputFault a b ends damaged = absurd (cc)
  silent_by OutputFault a b ends damaged = absurd (cc)
  silent_by DiskFault a b ends damaged = absurd (cc)
  silent_by NoMemory a b ends damaged = absurd (cc)
  silent_by InputTooLong a b ends damaged = absurd (cc)

  -- files of another program
  pub foreign_by : (status : Status) (a b : H) → Ends s g a b status → status ≡ Damaged Foreign → s.tells → IsForeign (g.standing a)
  foreign_by status a b ends is = let finds : FindsForeign s g a b = subst (Ends s g a b) is ends in finds.foreign

  pub foreign_kept : (status : Status) (a b : H) → Ends s g a b status → status ≡ Damaged Foreign → s.tells → g.files b ≡ g.files a
  foreign_kept status a b ends is = let finds : FindsForeign s g a b = subst (Ends s g a b) is ends in finds.kept

  -- Where no device fails, a run over files of its own ends as its log and its input say.
  pub complete_as : (status : Status) (a b : H) → Ends s g a b status → s.tells → (IsForeign (g.standing a) → ⊥) → (Rose (s.input_faults a) (s.input_faults b) → ⊥) → (Rose (g.output_faults a) (g.output_faults b) → ⊥)
      → (Rose (g.disk_faults a) (g.disk_faults b) → ⊥) → ((number : ℕ) → ¬ (status ≡ Damaged (Log number))) → ((name : List ℕ) → ¬ (status ≡ Damaged (Invalid name))) → (status ≡ InputTooLong → 2 ^ 30 < length (s.unread a))
      → length (s.unread a) ≤ 2 ^ 30 → (status ≡ Done) ⊎ (status ≡ NoMemory)
  complete_as Done a b ends tells own input output disk damaged invalid long short = inl refl
  complete_as Usage a b ends tells own input output disk damaged invalid long short = absurd ends
  complete_as InputFault a b ends tells own input output disk damaged invalid long short = absurd (input ends)
  complete_as OutputFault a b ends tells own input output disk damaged invalid long short = absurd (output ends)
  complete_as DiskFault a b ends tells own input output disk damaged invalid long short = absurd (disk ends)
  complete_as NoMemory a b ends tells own input output disk damaged invalid long short = inr refl
  complete_as (Damaged Foreign) a b ends tells own input output disk damaged invalid long short = absurd (own (ends.foreign tells))
  complete_as (Damaged (Log number)) a b ends tells own input output disk damaged invalid long short = absurd (damaged number refl)
  complete_as (Damaged (Invalid name)) a b ends tells own input output disk damaged invalid long short = absurd (invalid name refl)
  complete_as InputTooLong a b ends tells own input output disk damaged invalid long short = absurd (omega (arith, long refl, short))

  pub complete_long_as : (status : Status) (a b : H) → Ends s g a b status → s.tells → (IsForeign (g.standing a) → ⊥) → (Rose (s.input_faults a) (s.input_faults b) → ⊥) → (Rose (g.output_faults a) (g.output_faults b) → ⊥)
      → (Rose (g.disk_faults a) (g.disk_faults b) → ⊥) → ((number : ℕ) → ¬ (status ≡ Damaged (Log number))) → ((name : List ℕ) → ¬ (status ≡ Damaged (Invalid name))) → (status ≡ Done → length (s.unread a) ≤ 2 ^ 30)
      → 2 ^ 30 < length (s.unread a) → (status ≡ InputTooLong) ⊎ (status ≡ NoMemory)
  complete_long_as Done a b ends tells own input output disk damaged invalid done long = absurd (omega (arith, done refl, long))
  complete_long_as Usage a b ends tells own input output disk damaged invalid done long = absurd ends
  complete_long_as InputFault a b ends tells own input output disk damaged invalid done long = absurd (input ends)
  complete_long_as OutputFault a b ends tells own input output disk damaged invalid done long = absurd (output ends)
  complete_long_as DiskFault a b ends tells own input output disk damaged invalid done long = absurd (disk ends)
  complete_long_as NoMemory a b ends tells own input output disk damaged invalid done long = inr refl
  complete_long_as (Damaged Foreign) a b ends tells own input output disk damaged invalid done long = absurd (own (ends.foreign tells))
  complete_long_as (Damaged (Log number)) a b ends tells own input output disk damaged invalid done long = absurd (damaged number refl)
  complete_long_as (Damaged (Invalid name)) a b ends tells own input output disk damaged invalid done long = absurd (invalid name refl)
  complete_long_as InputTooLong a b ends tells own input output disk damaged invalid done long = inl refl

  pub complete_damaged_as : (status : Status) (a b : H) → Ends s g a b status → s.tells → (IsForeign (g.standing a) → ⊥) → (Rose (g.disk_faults a) (g.disk_faults b) → ⊥) → (damage : Damage)
      → TellsDamage damage status → (status ≡ Damaged damage) ⊎ (status ≡ NoMemory)
  complete_damaged_as status a b ends tells own disk damage (inl is) = absurd (subst (Ends s g a b) is ends)
  complete_damaged_as status a b ends tells own disk damage (inr (inl is)) = absurd (own (foreign_by status a b ends is tells))
  complete_damaged_as status a b ends tells own disk damage (inr (inr (inl is))) = inl is
  complete_damaged_as status a b ends tells own disk damage (inr (inr (inr (inl is)))) = absurd (disk (subst (Ends s g a b) is ends))
  complete_damaged_as status a b ends tells own disk damage (inr (inr (inr (inr is)))) = inr is

-- ---- where the files couldn't be mounted

abbrev pub is_idle : Status → Bool
is_idle Usage = true
is_idle (Damaged Foreign) = true
is_idle DiskFault = true
is_idle NoMemory = true
is_idle Done = false
is_idle InputFault = false
is_idle OutputFault = false
is_idle (Damaged (Log number)) = false
is_idle (Damaged (Invalid name)) = false
is_idle InputTooLong = false

module _ {H : Type 0} (s : source.Ghosts H) (g : host.Ghosts H) where
  pub mount_idle : (status : Status) (a b : H) → MountStops s g a b status → is_idle status ≡ true
  mount_idle (Damaged Foreign) a b stops = refl
  mount_idle (Damaged (Log group)) a b stops = absurd stops
  mount_idle (Damaged (Invalid name)) a b stops = absurd stops
  mount_idle DiskFault a b stops = refl
  mount_idle NoMemory a b stops = refl
  mount_idle Done a b stops = absurd stops
  mount_idle Usage a b stops = absurd stops
  mount_idle InputFault a b stops = absurd stops
  mount_idle OutputFault a b stops = absurd stops
  mount_idle InputTooLong a b stops = absurd stops

  pub mount_ends : (status : Status) (a b : H) → MountStops s g a b status → (s.tells → g.files b ≡ g.files a) → IsSilent s g a b → Ends s g a b status
  mount_ends (Damaged Foreign) a b stops files silent = record { foreign = stops.0; kept = files; calm = stops.1; silent = silent }
  mount_ends (Damaged (Log group)) a b stops files silent = absurd stops
  mount_ends (Damaged (Invalid name)) a b stops files silent = absurd stops
  mount_ends DiskFault a b stops files silent = stops
  mount_ends NoMemory a b stops files silent = stops
  mount_ends Done a b stops files silent = absurd stops
  mount_ends Usage a b stops files silent = absurd stops
  mount_ends InputFault a b stops files silent = absurd stops
  mount_ends OutputFault a b stops files silent = absurd stops
  mount_ends InputTooLong a b stops files silent = absurd stops

  pub mount_as : (status : Status) (a b : H) → MountStops s g a b status → (status ≡ Damaged Foreign) ⊎ ((status ≡ DiskFault) ⊎ (status ≡ NoMemory))
  mount_as (Damaged Foreign) a b stops = inl refl
  mount_as (Damaged (Log group)) a b stops = absurd stops
  mount_as (Damaged (Invalid name)) a b stops = absurd stops
  mount_as DiskFault a b stops = inr (inl refl)
  mount_as NoMemory a b stops = inr (inr refl)
  mount_as Done a b stops = absurd stops
  mount_as Usage a b stops = absurd stops
  mount_as InputFault a b stops = absurd stops
  mount_as OutputFault a b stops = absurd stops
  mount_as InputTooLong a b stops = absurd stops
