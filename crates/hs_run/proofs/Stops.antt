-- What stops a part stops the whole.
use Rattle.std.proofs.Common.{◌≡◌, ℕ, Result, Ok, Err, refl, sym, subst, ◌∙◌}
use Rattle.std.specs.Prelude.{IfErr, IsErrOf, OnOk, MatchResult}
use Rattle.std.specs.Result.{IsErrAnd}
use Rattle.hs_host.specs.declared.source.Source as source
use Rattle.hs_host.specs.declared.host.Host as host
use Rattle.hs_host.specs.Host.{Rose}
use Rattle.hs_host.specs.Used.{UsesDisk, UsesInput, UsesOutput}
use Rattle.hs_log.specs.Faults.{FailsWith}
use Rattle.hs_log.specs.declared.log_fault.LogFault.{LogFault}
use Rattle.hs_log.specs.declared.log_fault.LogFault.TheVariants as log
use Rattle.hs_run.specs.declared.stop.Stop.{Stop}
use Rattle.hs_run.specs.declared.stop.Stop.TheVariants.{Input, Output, Disk, NoMemory, TooLong}
use Rattle.hs_run.specs.Stop.{stop_of, NoFaults, OutputStops, DiskStops, RunStops}

pub stops_for : {T : Type 0} (P Q : Stop → Type 0) (r : Result T Stop) → ((stop : Stop) → P stop → Q stop) → IfErr r P → IfErr r Q
stops_for P Q (Ok x) f e = tt
stops_for P Q (Err stop) f e = f stop e

-- an error that is handed on
pub stopped_by : {T : Type 0} (P : Stop → Type 0) (r : Result T Stop) (stop : Stop) → IsErrAnd r (λ e. e ≡ stop) → P stop → IfErr r P
stopped_by P (Ok x) stop is p = tt
stopped_by P (Err e) stop is p = subst P (sym is) p

pub ends_by : {T : Type 0} (A : Type 0) (P : Stop → Type 0) (r : Result T Stop) (stop : Stop) → IsErrAnd r (λ e. e ≡ stop) → P stop → MatchResult r (λ _. A) P
ends_by A P (Ok x) stop is p = absurd is
ends_by A P (Err e) stop is p = subst P (sym is) p

pub not_ok : {T : Type 0} (A : Type 0) (r : Result T Stop) (stop : Stop) → IsErrAnd r (λ e. e ≡ stop) → OnOk r A
not_ok A (Ok x) stop is = absurd is
not_ok A (Err e) stop is = tt

pub long_of : {T : Type 0} (r : Result T Stop) (stop : Stop) → IsErrAnd r (λ e. e ≡ stop) → IsErrOf r TooLong → stop ≡ TooLong
long_of (Ok x) stop is long = absurd is
long_of (Err e) stop is long = let same : e ≡ TooLong = cc in sym is ∙ same

pub any_ok : {T E P : Type 0} (r : Result T E) → P → OnOk r P
any_ok (Ok x) p = p
any_ok (Err e) p = tt

pub ok_weaker : {T E P Q : Type 0} (r : Result T E) → (P → Q) → OnOk r P → OnOk r Q
ok_weaker (Ok x) f p = f p
ok_weaker (Err e) f p = tt

rose_after : (a b c : ℕ) → b ≡ a → Rose b c → Rose a c
rose_after a b c same rose = subst (λ (n : ℕ). Rose n c) same rose

-- no device failed where nothing was done, nor in two parts where none failed in either
pub no_faults : {H : Type 0} {s : source.Ghosts H} {g : host.Ghosts H} (a : H) → NoFaults s g a a
no_faults a = record { input = refl; output = refl; disk = refl }

pub no_faults_on : {H : Type 0} {s : source.Ghosts H} {g : host.Ghosts H} {a b c : H} → NoFaults s g a b → NoFaults s g b c → NoFaults s g a c
no_faults_on ab bc = record { input = bc.input ∙ ab.input; output = bc.output ∙ ab.output; disk = bc.disk ∙ ab.disk }

pub disk_calm : {H : Type 0} {s : source.Ghosts H} {g : host.Ghosts H} {a b : H} → UsesDisk s g a b → g.disk_faults b ≡ g.disk_faults a → NoFaults s g a b
disk_calm uses same = record { input = uses.input_faults; output = uses.output_faults; disk = same }

pub input_calm : {H : Type 0} {s : source.Ghosts H} {g : host.Ghosts H} {a b : H} → UsesInput s g a b → s.input_faults b ≡ s.input_faults a → NoFaults s g a b
input_calm uses same = record { input = same; output = uses.output_faults; disk = uses.disk_faults }

pub calm_on : {T H : Type 0} {s : source.Ghosts H} {g : host.Ghosts H} (a b c : H) (r : Result T Stop) → NoFaults s g a b → OnOk r (NoFaults s g b c) → OnOk r (NoFaults s g a c)
calm_on a b c r ab bc = ok_weaker r (no_faults_on ab) bc

-- where no device failed before, what stops a part stops all that was done
module _ {H : Type 0} (s : source.Ghosts H) (g : host.Ghosts H) where
  pub output_run : (stop : Stop) (a b c : H) → NoFaults s g a b → OutputStops s g b c stop → RunStops s g a c stop
  output_run Output a b c calm rose = rose_after _ _ _ calm.output rose
  output_run NoMemory a b c calm same = no_faults_on calm same
  output_run Input a b c calm never = absurd never
  output_run Disk a b c calm never = absurd never
  output_run TooLong a b c calm never = absurd never

  pub disk_run : (stop : Stop) (a b : H) → DiskStops s g a b stop → RunStops s g a b stop
  disk_run Disk a b rose = rose
  disk_run NoMemory a b same = same
  disk_run Input a b never = absurd never
  disk_run Output a b never = absurd never
  disk_run TooLong a b never = absurd never

  pub run_run : (stop : Stop) (a b c : H) → NoFaults s g a b → RunStops s g b c stop → RunStops s g a c stop
  run_run Input a b c calm rose = rose_after _ _ _ calm.input rose
  run_run Output a b c calm rose = rose_after _ _ _ calm.output rose
  run_run Disk a b c calm rose = rose_after _ _ _ calm.disk rose
  run_run NoMemory a b c calm same = no_faults_on calm same
  run_run TooLong a b c calm same = no_faults_on calm same

  -- output is handed over behind a commit that failed
  pub disk_handed : (stop : Stop) (a b c : H) → UsesOutput s g b c → (stop ≡ NoMemory → ⊥) → DiskStops s g a b stop → RunStops s g a c stop
  disk_handed Disk a b c uses other rose = subst (λ (n : ℕ). Rose (g.disk_faults a) n) (sym uses.disk_faults) rose
  disk_handed NoMemory a b c uses other same = absurd (other refl)
  disk_handed Input a b c uses other never = absurd never
  disk_handed Output a b c uses other never = absurd never
  disk_handed TooLong a b c uses other never = absurd never

  pub commit_disk : (fault : LogFault) (a b : H) → UsesDisk s g a b → FailsWith {T = Unit {0}} (g.disk_faults a) (g.disk_faults b) (Err fault) → DiskStops s g a b (stop_of fault)
  commit_disk log.Disk a b uses rose = rose
  commit_disk (log.Broken group) a b uses never = absurd never
  commit_disk log.NoMemory a b uses same = disk_calm uses same

  -- neither says that the input is too long
  pub output_short : (stop : Stop) (a b : H) → OutputStops s g a b stop → stop ≡ TooLong → ⊥
  output_short TooLong a b never is = never
  output_short Input a b never is = never
  output_short Disk a b never is = never
  output_short Output a b rose is = absurd (cc)
  output_short NoMemory a b same is = absurd (cc)

  pub disk_short : (stop : Stop) (a b : H) → DiskStops s g a b stop → stop ≡ TooLong → ⊥
  disk_short TooLong a b never is = never
  disk_short Input a b never is = never
  disk_short Output a b never is = never
  disk_short Disk a b rose is = absurd (cc)
  disk_short NoMemory a b same is = absurd (cc)
