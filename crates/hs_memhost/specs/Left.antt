-- That a host in memory gives of each file what a crash may leave of it.
use Rattle.std.proofs.Common.{◌≡◌, ◌⊎◌, ℕ, List, [], ◌∷◌, length, take, refl, sym, subst, ap}
use Rattle.hs_host.specs.declared.file_kind.FileKind.{FileKind}
use Rattle.hs_host.specs.declared.file_kind.FileKind.TheVariants.{Script0, Script1, Log, Data, Backup}
use Rattle.hs_host.specs.Disk.{Pending, Leaves, settled, written_at, cut_to}
use Rattle.hs_host.specs.Files.{Five, of, with_, overwrite}
use Rattle.hs_host.specs.Moments.{disk_of, settled_files}
use Rattle.hs_host.proofs.Files.{with_of, each_with}
use Rattle.hs_host.proofs.Contents.{Has, has_leaves, has_settled, has_cut, has_written, has_failed_cut, has_failed_write}
use Rattle.hs_memhost.specs.declared.call.Call.{Call}
use Rattle.hs_memhost.specs.declared.call.Call.TheVariants.{Write, FailedWrite, Cut, FailedCut, Sync, Look, Output, Input}
use Rattle.hs_memhost.specs.Replay.{State, first_state, after_call, after_calls, history_of, files_after}

-- what the disk has of each file goes with its bytes
abbrev HasAll : State → Type 0
HasAll s = (file : FileKind) → Has (disk_of s.moment file) (of s.files file)

first_has : (files : Five (List ℕ)) → HasAll (first_state files)
first_has files Script0 = has_settled files.script0
first_has files Script1 = has_settled files.script1
first_has files Log = has_settled files.log
first_has files Data = has_settled files.data_
first_has files Backup = has_settled files.backup

after_has : (s : State) (call : Call) → HasAll s → HasAll (after_call s call)
after_has s (Write file at bytes) has =
    each_with Has s.moment.disks s.files file (written_at at (length bytes) (disk_of s.moment file)) (overwrite (of s.files file) at bytes) has
    (has_written (disk_of s.moment file) (of s.files file) at bytes (has file))
after_has s (Cut file len) has =
    each_with Has s.moment.disks s.files file (cut_to len (disk_of s.moment file)) (take len (of s.files file)) has
    (has_cut (disk_of s.moment file) (of s.files file) len (has file))
after_has s (Sync file) has =
    subst (λ (f : Five (List ℕ)). (k : FileKind) → Has (of (with_ s.moment.disks file (settled (of s.files file))) k) (of f k)) (with_of s.files file)
    (each_with Has s.moment.disks s.files file (settled (of s.files file)) (of s.files file) has (has_settled (of s.files file)))
after_has s (FailedWrite file at count) has =
    subst (λ (f : Five (List ℕ)). (k : FileKind) → Has (of (with_ s.moment.disks file (written_at at count (disk_of s.moment file))) k) (of f k)) (with_of s.files file)
    (each_with Has s.moment.disks s.files file (written_at at count (disk_of s.moment file)) (of s.files file) has (has_failed_write (disk_of s.moment file) (of s.files file) at count (has file)))
after_has s (FailedCut file len) has =
    subst (λ (f : Five (List ℕ)). (k : FileKind) → Has (of (with_ s.moment.disks file (cut_to len (disk_of s.moment file))) k) (of f k)) (with_of s.files file)
    (each_with Has s.moment.disks s.files file (cut_to len (disk_of s.moment file)) (of s.files file) has (has_failed_cut (disk_of s.moment file) (of s.files file) len (has file)))
after_has s Look has = has
after_has s (Output bytes) has = has
after_has s (Input bytes) has = has

all_has : (s : State) (calls : List Call) → HasAll s → HasAll (after_calls s calls)
all_has s [] has = has
all_has s (call ∷ calls) has = all_has (after_call s call) calls (after_has s call has)

pub may_be_left : (files : Five (List ℕ)) (calls : List Call) (file : FileKind) → Leaves (disk_of (history_of files calls).now file) (of (files_after files calls) file)
may_be_left files calls file = has_leaves _ _ (all_has (first_state files) calls (first_has files) file)
