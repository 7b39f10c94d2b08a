-- What the devices of a host in memory stand for.
use Rattle.std.specs.Prelude.{◌≡◌, ℕ, List, Result, MatchResult}
use Rattle.hs_host.specs.Files.{Five}
use Rattle.hs_host.specs.Moments.{History, Moment, Next}
use Rattle.hs_memhost.specs.declared.devices.Devices.{Devices}
use Rattle.hs_memhost.specs.Files.{contents_of}
use Rattle.hs_memhost.specs.Replay.{State, first_state, after_calls, files_after, history_of}

-- what a read of each file gives
abbrev pub files_on : Devices → Five (List ℕ)
files_on d = files_after (contents_of d.first) d.calls.items

-- the moments so far
abbrev pub history_on : Devices → History
history_on d = history_of (contents_of d.first) d.calls.items

-- both, as they stand now
abbrev pub state_on : Devices → State
state_on d = after_calls (first_state (contents_of d.first)) d.calls.items

-- a call was kept as one moment with this property, or, after an `Err`, none was
abbrev pub Keeps : {T E : Type 0} → (Moment → Type 0) → Result T E → History → History → Type 0
Keeps P result old new = MatchResult result (λ _. Next P old new) (λ _. new ≡ old)
