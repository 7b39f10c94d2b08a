-- What reading keeps of a host that never fails.
use Rattle.std.specs.Prelude.{◌≡◌, ℕ, List, ◌++◌, false}
use Rattle.hs_host.specs.Files.{Five, Standing}
use Rattle.hs_memhost.specs.Devices.{files_on, history_on}
use Rattle.hs_memhost.specs.Input.{left_of}
use Rattle.hs_memhost.specs.Reading.{Reads, TakesAtOnce}
use Rattle.hs_memhost.specs.Mounting.{standing_of}
use Rattle.hs_memhost.specs.declared.never.NeverFails.{NeverFails}

-- all but the input and the moments
pub record Kept : Type 0 where
  pub out : List ℕ
  pub files : Five (List ℕ)
  pub standing : Standing

abbrev pub kept_of : NeverFails → Kept
kept_of h = record { out = (history_on h.devices).now.out; files = files_on h.devices; standing = standing_of h.mounting false }

-- only input was read
pub record OnlyInput (a b : NeverFails) : Type 0 where
  pub kept : kept_of b ≡ kept_of a
  pub read : Reads (history_on a.devices) (left_of a.input) (history_on b.devices) (left_of b.input)

-- one call took these bytes from the input
pub record IsOneRead (a b : NeverFails) (bytes : List ℕ) : Type 0 where
  pub taken : left_of a.input ≡ bytes ++ left_of b.input
  pub moment : TakesAtOnce bytes (history_on a.devices) (history_on b.devices)
