-- The five files of a database, and how a host stands to them.
use Rattle.std.specs.Prelude.{◌≡◌, ℕ, ◌+◌, Bool, true, IsTrue, List, ◌++◌, length, take, drop, Option, Some, None, Result, Ok, Err}
use Rattle.hs_host.specs.declared.file_kind.FileKind.{FileKind}
use Rattle.hs_host.specs.declared.file_kind.FileKind.TheVariants.{Script0, Script1, Log, Data, Backup}
use Rattle.hs_host.specs.declared.mount_fault.MountFault.{MountFault}
use Rattle.hs_host.specs.declared.mount_fault.MountFault.TheVariants as mount

-- One thing for each file.
pub record Five (A : Type 0) : Type 0 where
  pub script0 : A
  pub script1 : A
  pub log : A
  pub data_ : A
  pub backup : A

-- The one that belongs to this file.
abbrev pub of : {A : Type 0} → Five A → FileKind → A
of five Script0 = five.script0
of five Script1 = five.script1
of five Log = five.log
of five Data = five.data_
of five Backup = five.backup

-- The five with another one for this file.
abbrev pub with_ : {A : Type 0} → Five A → FileKind → A → Five A
with_ five Script0 x = record five { script0 = x }
with_ five Script1 x = record five { script1 = x }
with_ five Log x = record five { log = x }
with_ five Data x = record five { data_ = x }
with_ five Backup x = record five { backup = x }

-- These bytes with others in their place from a place on, which may go beyond their end.
abbrev pub overwrite : List ℕ → ℕ → List ℕ → List ℕ
overwrite old at bytes = take at old ++ bytes ++ drop (at + length bytes) old

-- Of five files only this one may have changed.
abbrev pub IsOnly : Five (List ℕ) → FileKind → Five (List ℕ) → Type 0
IsOnly old file new = new ≡ with_ old file (of new file)

-- So many bytes from a place on.
abbrev pub piece : ℕ → ℕ → List ℕ → List ℕ
piece at count bytes = take count (drop at bytes)

-- How a host stands to the files: under which name it was mounted, none at first, and whether that answered
-- `Ok`; whether the files are those of another program; and whether it is honest. A host is honest where both hold: a
-- read gives the bytes of the calls that answered `Ok`, applied in order; and a crash leaves of each file only what
-- `Leaves` of `Disk.antt` allows, calls that failed being among those that may have left part of their work.
pub record Standing : Type 0 where
  pub name : Option (List ℕ)
  pub is_open : Bool
  pub is_foreign : Bool
  pub is_honest : Bool

abbrev pub IsUnnamed : Standing → Type 0
IsUnnamed s = s.name ≡ None

abbrev pub IsOpen : Standing → Type 0
IsOpen s = IsTrue s.is_open

abbrev pub IsForeign : Standing → Type 0
IsForeign s = IsTrue s.is_foreign

abbrev pub IsHonest : Standing → Type 0
IsHonest s = IsTrue s.is_honest

-- How a host stands that was mounted under this name. Want of memory leaves it as it was.
abbrev pub mounted : {T : Type 0} → List ℕ → Result T MountFault → Standing → Standing
mounted name (Ok _) s = record s { name = Some name; is_open = true }
mounted name (Err mount.Foreign) s = record s { name = Some name }
mounted name (Err mount.Fault) s = record s { name = Some name }
mounted name (Err mount.NoMemory) s = s
