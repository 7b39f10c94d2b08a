-- What is used by one part of a run and then by another, and what stops it.
use Rattle.std.proofs.Common.{◌≡◌, ◌≤◌, ℕ, List, Result, Ok, Err, refl, sym, subst, arith}
use Rattle.std.specs.Result.{IsErrAnd}
use Rattle.hs_host.specs.declared.source.Source as source
use Rattle.hs_host.specs.declared.host.Host as host
use Rattle.hs_host.specs.declared.file_kind.FileKind.TheVariants.{Log}
use Rattle.hs_host.specs.Files.{Five, IsHonest}
use Rattle.hs_host.specs.Moments.{OneFile, Since}
use Rattle.hs_host.specs.Used.{Told, UsesOutput, UsesInput, Moves}
use Rattle.hs_host.proofs.Passing.{since_none}
use Rattle.hs_host.proofs.Used.{all_on, output_all, disk_all, only_on}
use Rattle.hs_run.specs.declared.stop.Stop.{Stop}
use Rattle.hs_run.specs.Crash.{OnlyLog}
use Rattle.hs_run.specs.Holding.{IsHandedOver}
use Rattle.hs_run.specs.Stop.{NoFaults, OutputStops, RunStops}
use Rattle.hs_run.specs.Used.{UsesLog, HandsOver, TakesTurns}
use Rattle.hs_run.proofs.Alone.{alone_asking, alone_printing, alone_on, alone_writing}
use Rattle.hs_run.proofs.Stops.{calm_on, no_faults, not_ok, output_run, run_run, stopped_by, stops_for}

-- no file was changed
only_log : (old new : Five (List ℕ)) → new ≡ old → OnlyLog old new
only_log old new same = subst (λ (f : Five (List ℕ)). OnlyLog old f) (sym same) refl

pub told_on_log : {H : Type 0} {s : source.Ghosts H} {g : host.Ghosts H} {a b : H} → UsesLog s g a b → Told s g a → Told s g b
told_on_log ab told = record { tells = told.tells; honest = subst IsHonest (sym ab.all.standing) told.honest }

-- all of the outside, and of the files the log alone
pub log_none : {H : Type 0} {s : source.Ghosts H} {g : host.Ghosts H} (a : H) → UsesLog s g a a
log_none {H} {s} {g} a = record {
  all = record { standing = refl; input_later = omega arith; output_later = omega arith; disk_later = omega arith };
  others = λ told. only_log (g.files a) (g.files a) refl;
  alone = λ told. since_none _ (g.history a);
}

pub log_on : {H : Type 0} {s : source.Ghosts H} {g : host.Ghosts H} {a b c : H} → UsesLog s g a b → UsesLog s g b c → UsesLog s g a c
log_on {H} {s} {g} {a} {b} {c} ab bc = record {
  all = all_on ab.all bc.all;
  others = λ told. only_on (g.files a) (g.files b) (g.files c) Log (ab.others told) (bc.others (told_on_log ab told));
  alone = λ told. alone_on (ab.alone told) (bc.alone (told_on_log ab told));
}

pub output_log : {H : Type 0} {s : source.Ghosts H} {g : host.Ghosts H} {bytes : List ℕ} {a b : H} → UsesOutput s g a b → (s.tells → Since (IsHandedOver (g.history a).now bytes) (g.history a) (g.history b)) → UsesLog s g a b
output_log {H} {s} {g} {bytes} {a} {b} ab moments = record {
  all = output_all ab;
  others = λ told. only_log (g.files a) (g.files b) ab.files;
  alone = λ told. alone_printing (moments told.tells);
}

pub disk_log : {H : Type 0} {s : source.Ghosts H} {g : host.Ghosts H} {Q : List ℕ → Type 0} {a b : H} → Moves s g Log (OneFile (g.history a).now Log Q) a b → UsesLog s g a b
disk_log {H} {s} {g} {Q} {a} {b} ab = record {
  all = disk_all ab.uses;
  others = ab.others;
  alone = λ told. alone_writing (ab.moments told);
}

pub input_log : {H : Type 0} {s : source.Ghosts H} {g : host.Ghosts H} {a b : H} → UsesInput s g a b → s.input_faults a ≤ s.input_faults b → UsesLog s g a b
input_log {H} {s} {g} {a} {b} ab later = record {
  all = record { standing = ab.standing; input_later = later; output_later = omega (arith, ab.output_faults); disk_later = omega (arith, ab.disk_faults) };
  others = λ told. only_log (g.files a) (g.files b) ab.files;
  alone = λ told. alone_asking (ab.moments told.tells);
}

-- nothing, and one part behind another that didn't stop
abbrev done : {T : Type 0} → T → Result T Stop
done x = Ok x

pub turns_none : {T H : Type 0} {s : source.Ghosts H} {g : host.Ghosts H} (a : H) (x : T) → TakesTurns s g a a (done x)
turns_none {T} {H} {s} {g} a x = record { uses = log_none a; calm = no_faults a; stops = tt }

pub turns_on : {T H : Type 0} {s : source.Ghosts H} {g : host.Ghosts H} {a b c : H} (result : Result T Stop) → UsesLog s g a b → NoFaults s g a b → TakesTurns s g b c result → TakesTurns s g a c result
turns_on {T} {H} {s} {g} {a} {b} {c} result ab calm bc = record {
  uses = log_on ab bc.uses;
  calm = calm_on a b c result calm bc.calm;
  stops = stops_for (RunStops s g b c) (RunStops s g a c) result (λ stop. run_run s g stop a b c calm) bc.stops;
}

pub hands_turns : {T H : Type 0} {s : source.Ghosts H} {g : host.Ghosts H} {bytes : List ℕ} {a b c : H} (result : Result T Stop) → UsesLog s g a b → NoFaults s g a b → HandsOver s g b c result
    → (s.tells → Since (IsHandedOver (g.history b).now bytes) (g.history b) (g.history c)) → TakesTurns s g a c result
hands_turns {T} {H} {s} {g} {bytes} {a} {b} {c} result ab calm bc moments = record {
  uses = log_on ab (output_log bc.uses moments);
  calm = calm_on a b c result calm bc.calm;
  stops = stops_for (OutputStops s g b c) (RunStops s g a c) result (λ stop. output_run s g stop a b c calm) bc.stops;
}

-- an error that is handed on
pub turns_failing : {R S H : Type 0} {s : source.Ghosts H} {g : host.Ghosts H} {a b : H} (stop : Stop) (result : Result R Stop) → IsErrAnd result (λ e. e ≡ stop) → TakesTurns {T = S} s g a b (Err stop) → TakesTurns s g a b result
turns_failing {R} {S} {H} {s} {g} {a} {b} stop result is ab = record { uses = ab.uses; calm = not_ok _ result stop is; stops = stopped_by (RunStops s g a b) result stop is ab.stops }
