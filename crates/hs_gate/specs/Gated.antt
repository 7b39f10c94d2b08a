-- What a gated file is read as, and what its calls make of it.
use Rattle.std.specs.Prelude.{◌≡◌, ◌⊎◌, ℕ, ◌+◌, ◌*◌, ◌≤◌, true, false, if◌then◌else◌, List, [], ◌∷◌, ◌++◌, length, take, Option, Some, None, Result, Ok, Err}
use Rattle.hs_host.specs.declared.file_kind.FileKind.{FileKind}
use Rattle.hs_host.specs.Files.{Five, of, overwrite}
use Rattle.hs_gate.specs.declared.gate_fault.GateFault.{GateFault}
use Rattle.hs_gate.specs.declared.gate_fault.GateFault.TheVariants.{Disk, Broken, NoMemory}
use Rattle.hs_gate.specs.declared.gated.Gated.{Gated}
use Rattle.hs_gate.specs.declared.part.Part.{Part}
use Rattle.hs_gate.specs.Groups.{is_open, is_born, epoch_of, eight_bytes, end_of, ahead, groups_at, groups_of, spelled}

-- an open file of these bytes with these groups
abbrev pub gated_of : FileKind → List ℕ → List (List ℕ) → Gated
gated_of file bytes payloads = record { file = file; epoch = epoch_of bytes; groups = length payloads; end = end_of payloads }

-- what these bytes of a file are read as: none where it isn't open; and where a group is broken, the first that is, counted
-- from 1
abbrev pub reading_of : FileKind → List ℕ → Result (Option Gated) GateFault
reading_of file bytes =
    if is_open bytes then
    if (groups_of bytes).is_broken then Err (Broken (length (groups_of bytes).payloads + 1)) else Ok (Some (gated_of file bytes (groups_of bytes).payloads))
    else Ok None

-- an answer other than a fault of the device and want of memory is this one
abbrev pub Answers : Result (Option Gated) GateFault → Result (Option Gated) GateFault → Type 0
Answers right (Ok gated) = right ≡ Ok gated
Answers right (Err (Broken number)) = right ≡ Err (Broken number)
Answers right (Err Disk) = Unit {0}
Answers right (Err NoMemory) = Unit {0}

-- the file is open, and this is what stands in front of a broken group, or of the gate that ends the groups
pub record IsFront (files : Five (List ℕ)) (gated : Gated) : Type 0 where
  pub opened : is_open (of files gated.file) ≡ true
  pub is : gated ≡ gated_of gated.file (of files gated.file) (groups_of (of files gated.file)).payloads

-- and no group is broken
pub record IsGated (files : Five (List ℕ)) (gated : Gated) : Type 0 where
  pub front : IsFront files gated
  pub whole : (groups_of (of files gated.file)).is_broken ≡ false

-- and nothing stands behind the gate that ends the groups
pub record IsAtRest (files : Five (List ℕ)) (gated : Gated) : Type 0 where
  pub stands : IsGated files gated
  pub last : length (of files gated.file) ≡ gated.end + 1

-- each group has a gate and a length
abbrev pub HasRoom : Gated → Type 0
HasRoom gated = gated.groups * 9 + 10 ≤ gated.end

-- the place of a group's gate, or the one behind the last group
pub record IsPlace (bytes : List ℕ) (at : ℕ) : Type 0 where
  pub before : List (List ℕ)
  pub behind : List (List ℕ)
  pub all : (groups_of bytes).payloads ≡ before ++ behind
  pub is : at ≡ end_of before

-- the first of the groups from a place on, or none where there is none
abbrev pub TakesPart : List ℕ → ℕ → Option Part → Type 0
TakesPart bytes at None = (groups_at at bytes).payloads ≡ []
TakesPart bytes at (Some part) = (groups_at at bytes ≡ ahead part.payload (groups_at part.next bytes)) × IsPlace bytes part.next

-- a file with these groups more
abbrev pub grown : Gated → List (List ℕ) → Gated
grown gated more = record gated { groups = gated.groups + length more; end = gated.end + length (spelled more) }

-- its bytes: the groups stand from the place of the closed gate on, and a closed gate behind them
abbrev pub appended : List ℕ → ℕ → List (List ℕ) → List ℕ
appended bytes end more = overwrite bytes end (spelled more ++ 0 ∷ [])

-- a file without groups, and its bytes
abbrev pub empty : FileKind → ℕ → Gated
empty file epoch = record { file = file; epoch = epoch; groups = 0; end = 10 }

abbrev pub started : List ℕ → ℕ → List ℕ
started bytes epoch = take 1 bytes ++ (1 ∷ eight_bytes epoch ++ 0 ∷ [])

abbrev pub created : List ℕ
created = 1 ∷ 1 ∷ eight_bytes 1 ++ 0 ∷ []

-- what a creation that failed may leave of an unborn file: one that still isn't born, or a whole one
abbrev pub IsUnbornOrCreated : List ℕ → Type 0
IsUnbornOrCreated bytes = (is_born bytes ≡ false) ⊎ (bytes ≡ created)
