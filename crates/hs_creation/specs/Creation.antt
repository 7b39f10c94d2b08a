-- What is made of files that stand for nothing as yet, and what a crash leaves meanwhile.
use Rattle.std.specs.Prelude.{◌≡◌, ◌⊎◌, ℕ, List, [], ◌∷◌, ◌++◌}
use Rattle.hs_host.specs.declared.file_kind.FileKind.{FileKind}
use Rattle.hs_host.specs.declared.file_kind.FileKind.TheVariants.{Script0, Log, Backup}
use Rattle.hs_host.specs.Files.{Five, of, with_}
use Rattle.hs_host.specs.Moments.{Moment, History, settled_files}
use Rattle.hs_gate.specs.Gated.{empty}
use Rattle.hs_gate.specs.Groups.{eight_bytes}
use Rattle.hs_gate.specs.Rewriting.{IsGroups}
use Rattle.hs_slots.specs.declared.files.Files.{Files}
use Rattle.hs_slots.specs.Points.{IsUnborn, AreLeft}
use Rattle.hs_checkpoint.specs.Checkpoint.{created_files}

-- a log or a backup of epoch 1 without groups that isn't born
abbrev pub unborn_header : List ℕ
unborn_header = 0 ∷ 1 ∷ eight_bytes 1 ++ 0 ∷ []

-- a slot that isn't open
abbrev pub closed_slot : List ℕ
closed_slot = 0 ∷ 0 ∷ []

-- the files of a database of these groups, all but the births
abbrev pub laid_files : List (List ℕ) → Five (List ℕ)
laid_files payloads = record (created_files payloads) { log = unborn_header; backup = unborn_header }

-- how they are kept once it is created
abbrev pub first_files : Files
first_files = record { log = empty Log 1; backup = empty Backup 1; slot = Script0; epoch = 1 }

-- all files are on the disk as they are read
abbrev pub AreSettled : History → Five (List ℕ) → Type 0
AreSettled h files = h.now.disks ≡ settled_files files

-- whatever a crash leaves at this moment stands for nothing as yet
abbrev pub LeavesUnborn : Moment → Type 0
LeavesUnborn m = (files : Five (List ℕ)) → AreLeft m files → IsUnborn files

-- What is left of a file while other bytes take the place of all that it has: it is empty only where it was, or is to be.
abbrev pub IsPut : List ℕ → List ℕ → List ℕ → Type 0
IsPut old new left = left ≡ [] → (old ≡ []) ⊎ (new ≡ [])

-- whatever is left of this file then, the five stand for nothing as yet
abbrev pub MayPut : Five (List ℕ) → FileKind → List ℕ → Type 0
MayPut files file bytes = (left : List ℕ) → IsPut (of files file) bytes left → IsUnborn (with_ files file left)

-- log and backup aren't born, and are without groups
pub record HaveHeaders (files : Five (List ℕ)) : Type 0 where
  pub log : files.log ≡ unborn_header
  pub backup : files.backup ≡ unborn_header

-- all but the births is made, and on the disk
pub record IsLaid (payloads : List (List ℕ)) (h : History) (files : Five (List ℕ)) : Type 0 where
  pub files_are : files ≡ laid_files payloads
  pub groups : IsGroups 1 payloads files.script0
  pub settled : AreSettled h files
