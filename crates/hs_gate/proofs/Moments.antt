-- What a crash leaves of one file, call after call.
use Rattle.std.proofs.Common.{◌≡◌, ℕ, ◌≤◌, List, ◌++◌, length, take, Result, Ok, Err, refl, sym, ◌∙◌, ap, arith}
use Rattle.std.proofs.lemmas.List.{length-take-le, take_at}
use Rattle.hs_host.specs.declared.file_kind.FileKind.{FileKind}
use Rattle.hs_host.specs.declared.host_fault.HostFault.{HostFault}
use Rattle.hs_host.specs.Files.{overwrite}
use Rattle.hs_host.specs.Disk.{Pending, settled, written_at, cut_to}
use Rattle.hs_host.specs.Prefixes.{KeepsPrefix}
use Rattle.hs_host.specs.Moments.{on_file, Moment, OneFile, IsWritten, IsCut, IsSynced, IsSyncing, disk_of, with_disk}
use Rattle.hs_host.proofs.Changing.{disk_is, same_disk, disk_twice}
use Rattle.hs_host.proofs.Torn.{front_stays}
use Rattle.hs_gate.specs.Crash.{IsAny, BeginsWith, IsWriting, called, done}
use Rattle.hs_gate.proofs.Pieces.{take_same, take-overwrite, length-overwrite}

-- a disk that keeps a prefix of the file
pub written_keeps : (p : Pending) (at count n : ℕ) (bytes : List ℕ) → KeepsPrefix p n bytes → n ≤ at → KeepsPrefix (written_at at count p) n bytes
written_keeps p at count n bytes keeps le = record { long = keeps.long; low = keeps.low; same = keeps.same; behind = (le, keeps.behind) }

pub cut_keeps : (p : Pending) (len n : ℕ) (bytes : List ℕ) → KeepsPrefix p n bytes → n ≤ len → KeepsPrefix (cut_to len p) n bytes
cut_keeps p len n bytes keeps le = record { long = keeps.long; low = omega (arith, keeps.low, le); same = keeps.same; behind = keeps.behind }

pub settled_keeps : (synced bytes : List ℕ) (n : ℕ) → n ≤ length synced → take n synced ≡ take n bytes → KeepsPrefix (settled synced) n bytes
settled_keeps synced bytes n long same = record { long = long; low = long; same = same; behind = tt }

pub keeps_same : (p : Pending) (n : ℕ) (new old : List ℕ) → KeepsPrefix p n old → take n new ≡ take n old → KeepsPrefix p n new
keeps_same p n new old keeps same = record { long = keeps.long; low = keeps.low; same = keeps.same ∙ sym same; behind = keeps.behind }

-- and so the disk of a moment
pub keeps_written : (before m : Moment) (file : FileKind) (at count n : ℕ) (bytes : List ℕ) → KeepsPrefix (disk_of before file) n bytes → n ≤ at → IsWritten before file at count m → KeepsPrefix (disk_of m file) n bytes
keeps_written before m file at count n bytes keeps le is =
    rw (disk_is before m file (written_at at count (disk_of before file)) is) (written_keeps (disk_of before file) at count n bytes keeps le)

pub keeps_cut : (before m : Moment) (file : FileKind) (len n : ℕ) (bytes : List ℕ) → KeepsPrefix (disk_of before file) n bytes → n ≤ len → IsCut before file len m → KeepsPrefix (disk_of m file) n bytes
keeps_cut before m file len n bytes keeps le is =
    rw (disk_is before m file (cut_to len (disk_of before file)) is) (cut_keeps (disk_of before file) len n bytes keeps le)

pub keeps_synced : (before m : Moment) (file : FileKind) (n : ℕ) (bytes : List ℕ) → n ≤ length bytes → IsSynced before file bytes m → KeepsPrefix (disk_of m file) n bytes
keeps_synced before m file n bytes le is = rw (disk_is before m file (settled bytes) is) (settled_keeps bytes bytes n le refl)

-- whatever a crash leaves begins with that front
pub begins_at : (before m : Moment) (file : FileKind) (p : Pending) (n : ℕ) (bytes : List ℕ) → KeepsPrefix p n bytes → m ≡ with_disk before file p → OneFile before file (BeginsWith n bytes) m
begins_at before m file p n bytes keeps is = record { disk = p; is = is; each = λ left leaves. front_stays p n bytes left keeps leaves }

pub begins_written : (before m : Moment) (file : FileKind) (at count n : ℕ) (bytes : List ℕ) → KeepsPrefix (disk_of before file) n bytes → n ≤ at → IsWritten before file at count m → OneFile before file (BeginsWith n bytes) m
begins_written before m file at count n bytes keeps le is = begins_at before m file (written_at at count (disk_of before file)) n bytes (written_keeps (disk_of before file) at count n bytes keeps le) is

pub begins_cut : (before m : Moment) (file : FileKind) (len n : ℕ) (bytes : List ℕ) → KeepsPrefix (disk_of before file) n bytes → n ≤ len → IsCut before file len m → OneFile before file (BeginsWith n bytes) m
begins_cut before m file len n bytes keeps le is = begins_at before m file (cut_to len (disk_of before file)) n bytes (cut_keeps (disk_of before file) len n bytes keeps le) is

-- a sync, which may fail
pub begins_synced : {T : Type 0} (before m : Moment) (file : FileKind) (n : ℕ) (synced bytes : List ℕ) (result : Result T HostFault) → KeepsPrefix (disk_of before file) n bytes → n ≤ length synced → take n synced ≡ take n bytes
    → IsSyncing before file synced result m → OneFile before file (BeginsWith n bytes) m
begins_synced before m file n synced bytes (Ok x) keeps long same is = begins_at before m file (settled synced) n bytes (settled_keeps synced bytes n long same) is
begins_synced before m file n synced bytes (Err e) keeps long same is = begins_at before m file (disk_of before file) n bytes keeps (same_disk before m file is)

-- a write and its sync, which may fail
pub wrote_then : {T : Type 0} (before mid m : Moment) (file : FileKind) (at : ℕ) (new old bytes : List ℕ) (result : Result T HostFault) → IsWritten before file at (length new) mid → bytes ≡ overwrite old at new
    → IsSyncing mid file bytes result m → IsWriting before file at new old m
wrote_then before mid m file at new old bytes (Ok x) written is synced =
    done (disk_twice before mid m file (written_at at (length new) (disk_of before file)) (settled bytes) written synced ∙ ap (λ (l : List ℕ). with_disk before file (settled l)) is)
wrote_then before mid m file at new old bytes (Err e) written is still = called (still ∙ ap (λ (k : Moment). record k { call = on_file }) written)

-- a write behind a front, and its sync
pub begins_writing : (before m : Moment) (file : FileKind) (at n : ℕ) (new old bytes : List ℕ) → KeepsPrefix (disk_of before file) n bytes → n ≤ at → at ≤ length old → take n old ≡ take n bytes
    → IsWriting before file at new old m → OneFile before file (BeginsWith n bytes) m
begins_writing before m file at n new old bytes keeps le within same (called written) = begins_written before m file at (length new) n bytes keeps le written
begins_writing before m file at n new old bytes keeps le within same (done synced) =
    let now = overwrite old at new in
    let front : take n now ≡ take n bytes = take_same n at now old (take-overwrite old at new within) le ∙ same in
    begins_at before m file (settled now) n bytes (settled_keeps now bytes n (omega (arith, length-overwrite old at new within, le)) front) synced

-- bytes behind a front that stays
pub front_of : (n : ℕ) (old more : List ℕ) → n ≤ length old → take n (take n old ++ more) ≡ take n old
front_of n old more within = take_at (take n old) more n (length-take-le n old within)

-- the disk changes for this file alone
pub any_at : (before m : Moment) (file : FileKind) (p : Pending) → m ≡ with_disk before file p → OneFile before file IsAny m
any_at before m file p is = record { disk = p; is = is; each = λ left leaves. tt }

pub any_writing : (before m : Moment) (file : FileKind) (at : ℕ) (new old : List ℕ) → IsWriting before file at new old m → OneFile before file IsAny m
any_writing before m file at new old (called written) = any_at before m file (written_at at (length new) (disk_of before file)) written
any_writing before m file at new old (done synced) = any_at before m file (settled (overwrite old at new)) synced

pub any_synced : {T : Type 0} (before m : Moment) (file : FileKind) (bytes : List ℕ) (result : Result T HostFault) → IsSyncing before file bytes result m → OneFile before file IsAny m
any_synced before m file bytes (Ok x) is = any_at before m file (settled bytes) is
any_synced before m file bytes (Err e) is = any_at before m file (disk_of before file) (same_disk before m file is)
