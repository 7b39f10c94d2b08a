-- What is written and gathered while a run is at work.
use Rattle.std.specs.Prelude.{◌≡◌, ℕ, ◌≤◌, false, List, ◌++◌, length}
use Rattle.hs_host.specs.Moments.{Moment}
use Rattle.hs_entries.specs.Parts.{lacks}
use Rattle.hs_machine.specs.Acknowledged.{AcknowledgesLines}

-- what was written since is a prefix of these bytes
pub record WritesPrefix (old new whole : List ℕ) : Type 0 where
  pub rest : List ℕ
  pub is : new ++ rest ≡ old ++ whole
  pub grown : length old ≤ length new

-- What was written behind an output has a whole line, and with what is gathered it is whole lines that tell of no later
-- commit than this one.
pub record IsGathered (before out gathered : List ℕ) (commits : ℕ) : Type 0 where
  pub written : List ℕ
  pub is : out ≡ before ++ written
  pub begun : lacks 10 written ≡ false
  pub lines : AcknowledgesLines (written ++ gathered) commits

-- After a prefix of these bytes was handed over, nothing of what the disk has is other.
pub record IsHandedOver (before : Moment) (bytes : List ℕ) (m : Moment) : Type 0 where
  pub disks : m.disks ≡ before.disks
  pub piece : List ℕ
  pub rest : List ℕ
  pub out : m.out ≡ before.out ++ piece
  pub whole : piece ++ rest ≡ bytes
