-- The moments of a host, and what holds at each.
use Rattle.std.specs.Prelude.{◌≡◌, ◌⊎◌, ℕ, List, [], ◌∷◌, ◌++◌, Result, Ok, Err}
use Rattle.hs_host.specs.declared.file_kind.FileKind.{FileKind}
use Rattle.hs_host.specs.declared.host_fault.HostFault.{HostFault}
use Rattle.hs_host.specs.declared.host_fault.HostFault.TheVariants.{Fault, NoMemory}
use Rattle.hs_host.specs.Files.{Five, of, with_}
use Rattle.hs_host.specs.Disk.{Pending, Leaves, settled, written_at, cut_to}

-- The kind of call that led to a moment: none as yet; one on a file; one that was given output; or one that asked for
-- input, when so much of it had been taken.
pub data Call : Type 0 where
  begun : Call
  on_file : Call
  told : Call
  asked : List ℕ → Call

-- A moment: what the disk has of each file, the output and the input that was taken by then, and the call that led to it.
-- What a crash leaves depends on the first two alone. Each call but `mount` makes a moment.
pub record Moment : Type 0 where
  pub disks : Five Pending
  pub out : List ℕ
  pub taken : List ℕ
  pub call : Call

-- the present moment, and those before it, the newest first
pub record History : Type 0 where
  pub now : Moment
  pub past : List Moment

-- what the disk has of a file
abbrev pub disk_of : Moment → FileKind → Pending
disk_of m file = of m.disks file

-- the moment after a call on a file that changed what the disk has of that file alone
abbrev pub with_disk : Moment → FileKind → Pending → Moment
with_disk m file p = record m { disks = with_ m.disks file p; call = on_file }

-- all files are on the disk as a read gives them
abbrev pub settled_files : Five (List ℕ) → Five Pending
settled_files f = record { script0 = settled f.script0; script1 = settled f.script1; log = settled f.log; data_ = settled f.data_; backup = settled f.backup }

abbrev pub Each : (Moment → Type 0) → List Moment → Type 0
Each P [] = Unit {0}
Each P (m ∷ ms) = P m × Each P ms

-- each moment after the present one of the first of these histories, up to that of the second, has this property
pub record Since (P : Moment → Type 0) (old new : History) : Type 0 where
  pub between : List Moment
  pub is : new.now ∷ new.past ≡ between ++ old.now ∷ old.past
  pub each : Each P between

-- one moment has passed, and it has this property
pub record Next (P : Moment → Type 0) (old new : History) : Type 0 where
  pub past : new.past ≡ old.now ∷ old.past
  pub now : P new.now

-- A call makes one moment, which has this property. At want of memory it may make none.
abbrev pub Passes : {T : Type 0} → (Moment → Type 0) → Result T HostFault → History → History → Type 0
Passes P (Ok _) old new = Next P old new
Passes P (Err Fault) old new = Next P old new
Passes P (Err NoMemory) old new = (new ≡ old) ⊎ Next P old new

-- after a call on a file that changed nothing of what the disk has
abbrev pub IsStill : Moment → Moment → Type 0
IsStill before m = m ≡ record before { call = on_file }

-- after a write of so many bytes from a place on, a cut to a length, or a sync of these bytes
abbrev pub IsWritten : Moment → FileKind → ℕ → ℕ → Moment → Type 0
IsWritten before file at count m = m ≡ with_disk before file (written_at at count (disk_of before file))

abbrev pub IsCut : Moment → FileKind → ℕ → Moment → Type 0
IsCut before file len m = m ≡ with_disk before file (cut_to len (disk_of before file))

abbrev pub IsSynced : Moment → FileKind → List ℕ → Moment → Type 0
IsSynced before file bytes m = m ≡ with_disk before file (settled bytes)

-- after a sync of these bytes, which changed nothing of what the disk has where it failed
abbrev pub IsSyncing : {T : Type 0} → Moment → FileKind → List ℕ → Result T HostFault → Moment → Type 0
IsSyncing before file bytes (Ok _) m = IsSynced before file bytes m
IsSyncing before file bytes (Err _) m = IsStill before m

-- after output was handed over: a prefix of these bytes is written behind the output, and all else is as before
pub record IsPrinted (before : Moment) (bytes : List ℕ) (m : Moment) : Type 0 where
  pub piece : List ℕ
  pub rest : List ℕ
  pub is : m ≡ record before { out = before.out ++ piece; call = told }
  pub whole : piece ++ rest ≡ bytes

-- after input was asked for, which gave these bytes
abbrev pub IsAsked : Moment → List ℕ → Moment → Type 0
IsAsked before bytes m = m ≡ record before { taken = before.taken ++ bytes; call = asked before.taken }

-- while nothing but input is asked for: the last call gave some bytes, and those before it gave others
pub record IsReading (before m : Moment) : Type 0 where
  pub given : List ℕ
  pub bytes : List ℕ
  pub is : m ≡ record before { taken = before.taken ++ given ++ bytes; call = asked (before.taken ++ given) }

-- only what the disk has of one file is other, and whatever a crash leaves of it has this property
pub record OneFile (before : Moment) (file : FileKind) (Q : List ℕ → Type 0) (m : Moment) : Type 0 where
  pub disk : Pending
  pub is : m ≡ with_disk before file disk
  pub each : (left : List ℕ) → Leaves disk left → Q left
