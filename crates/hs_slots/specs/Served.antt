-- How files are kept while a database is open.
use Rattle.std.specs.Prelude.{◌≡◌, ℕ, Bool, List}
use Rattle.hs_host.specs.declared.file_kind.FileKind.{FileKind}
use Rattle.hs_host.specs.declared.file_kind.FileKind.TheVariants.{Log, Backup}
use Rattle.hs_host.specs.Disk.{settled}
use Rattle.hs_host.specs.Files.{Five, of}
use Rattle.hs_host.specs.Moments.{History, disk_of}
use Rattle.hs_gate.specs.declared.gated.Gated.{Gated}
use Rattle.hs_gate.specs.Crash.{StandsOnDisk}
use Rattle.hs_slots.specs.declared.files.Files.{Files}
use Rattle.hs_slots.specs.Points.{Point, StandFor, IsOnDisk, slot}

-- This file is open with this epoch, it is held as it is read, and it is on the disk up to the gate that ends its groups.
pub record IsHeldAs (file : FileKind) (epoch : ℕ) (gated : Gated) (h : History) (files : Five (List ℕ)) : Type 0 where
  pub file_is : gated.file ≡ file
  pub epoch_is : gated.epoch ≡ epoch
  pub stands : StandsOnDisk h files gated

-- The files stand for this point as they are read, they are held so, and the point is on the disk. Each slot is there as it is
-- read. Log and backup count.
pub record IsServed (p : Point) (held : Files) (h : History) (files : Five (List ℕ)) : Type 0 where
  pub slot_is : held.slot ≡ slot p.second
  pub epoch : held.epoch ≡ p.epoch
  pub stand : StandFor p files
  pub on_disk : IsOnDisk p h.now
  pub slots : (second : Bool) → disk_of h.now (slot second) ≡ settled (of files (slot second))
  pub log : IsHeldAs Log p.epoch held.log h files
  pub backup : IsHeldAs Backup p.epoch held.backup h files
