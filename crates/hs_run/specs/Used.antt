-- What the parts of a run use of the outside, and for which causes each stops it.
use Rattle.std.specs.Prelude.{Result, OnOk, IfErr}
use Rattle.hs_host.specs.declared.source.Source as source
use Rattle.hs_host.specs.declared.host.Host as host
use Rattle.hs_host.specs.Moments.{Since}
use Rattle.hs_host.specs.Used.{Told, UsesOutput, UsesAll}
use Rattle.hs_run.specs.declared.stop.Stop.{Stop}
use Rattle.hs_run.specs.Crash.{IsLater, OnlyLog}
use Rattle.hs_run.specs.Stop.{NoFaults, OutputStops, RunStops}

-- All of the outside was used, and of the files the log alone, at each moment on the way too.
pub record UsesLog {H : Type 0} (s : source.Ghosts H) (g : host.Ghosts H) (old new : H) : Type 0 where
  pub all : UsesAll s g old new
  pub others : Told s g old → OnlyLog (g.files old) (g.files new)
  pub alone : Told s g old → Since (IsLater (g.history old).now) (g.history old) (g.history new)

-- A part that hands output over uses that alone, and stops for a fault of it, or for want of memory. Where it doesn't stop no
-- device failed.
pub record HandsOver {T H : Type 0} (s : source.Ghosts H) (g : host.Ghosts H) (old new : H) (result : Result T Stop) : Type 0 where
  pub uses : UsesOutput s g old new
  pub calm : OnOk result (NoFaults s g old new)
  pub stops : IfErr result (OutputStops s g old new)

-- One that takes turns uses the log too, and the input.
pub record TakesTurns {T H : Type 0} (s : source.Ghosts H) (g : host.Ghosts H) (old new : H) (result : Result T Stop) : Type 0 where
  pub uses : UsesLog s g old new
  pub calm : OnOk result (NoFaults s g old new)
  pub stops : IfErr result (RunStops s g old new)
