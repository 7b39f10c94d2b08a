-- What a host in memory is made of, and what of it reading keeps.
use Rattle.std.specs.Prelude.{◌≡◌, ℕ, ◌+◌, ◌-◌, ◌^◌, min, List, ◌++◌}
use Rattle.hs_host.specs.Files.{Five, Standing}
use Rattle.hs_host.specs.Moments.{History}
use Rattle.hs_memhost.specs.Devices.{files_on, history_on}
use Rattle.hs_memhost.specs.Input.{left_of}
use Rattle.hs_memhost.specs.Reading.{Reads, TakesAtOnce}
use Rattle.hs_memhost.specs.Mounting.{standing_of}
use Rattle.hs_memhost.specs.declared.memory.MemHost.{MemHost}

-- the numbers of the calls that fail
abbrev pub failing_of : MemHost → List ℕ
failing_of h = h.failing

-- how many calls were made, and so the number of the next one
abbrev pub calls_of : MemHost → ℕ
calls_of h = h.calls

-- what each file has
abbrev pub files_in : MemHost → Five (List ℕ)
files_in h = files_on h.devices

-- the moments so far
abbrev pub history_in : MemHost → History
history_in h = history_on h.devices

-- the output so far
abbrev pub output_in : MemHost → List ℕ
output_in h = (history_in h).now.out

-- its name, and how it stands to the files
abbrev pub standing_in : MemHost → Standing
standing_in h = standing_of h.mounting h.is_foreign

-- all but the input, its faults, the moments and the number of calls
pub record Kept : Type 0 where
  pub out : List ℕ
  pub output_faults : ℕ
  pub files : Five (List ℕ)
  pub standing : Standing
  pub disk_faults : ℕ
  pub failing : List ℕ

abbrev pub kept_of : MemHost → Kept
kept_of h = record { out = output_in h; output_faults = h.output_faults; files = files_in h; standing = standing_in h; disk_faults = h.disk_faults; failing = h.failing }

-- only input was read
pub record OnlyInput (a b : MemHost) : Type 0 where
  pub kept : kept_of b ≡ kept_of a
  pub read : Reads (history_in a) (left_of a.input) (history_in b) (left_of b.input)

-- one call took these bytes from the input
pub record IsOneRead (a b : MemHost) (bytes : List ℕ) : Type 0 where
  pub taken : left_of a.input ≡ bytes ++ left_of b.input
  pub counted : calls_of b ≡ min (calls_of a + 1) (2 ^ 64 - 1)
  pub moment : TakesAtOnce bytes (history_in a) (history_in b)
