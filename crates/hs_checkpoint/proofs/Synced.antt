-- Files that are brought to the disk as they are read.
use Rattle.std.proofs.Common.{◌≡◌, ℕ, List, Result, Ok, Err, inl, inr, sym, ◌∙◌, ap, subst}
use Rattle.hs_host.specs.declared.file_kind.FileKind.{FileKind}
use Rattle.hs_host.specs.declared.file_kind.FileKind.TheVariants.{Script0, Script1, Log, Data, Backup}
use Rattle.hs_host.specs.declared.host_fault.HostFault.{HostFault}
use Rattle.hs_host.specs.Disk.{Pending, Leaves, settled}
use Rattle.hs_host.specs.Files.{Five, with_}
use Rattle.hs_host.specs.Moments.{Moment, History, Since, IsSynced, IsSyncing, disk_of, settled_files}
use Rattle.hs_host.proofs.Changing.{disk_is}
use Rattle.hs_host.proofs.Passing.{since_join, since_weaker, since_now}
use Rattle.hs_slots.specs.Points.{LeavesNoOther}
use Rattle.hs_slots.proofs.Changed.{by_file, elsewhere}
use Rattle.hs_slots.proofs.Parts.{same_disks}

-- a sync, which may fail, leaves no other files
pub synced_fewer : {T : Type 0} (before m : Moment) (file : FileKind) (bytes : List ℕ) (result : Result T HostFault) → Leaves (disk_of before file) bytes → IsSyncing before file bytes result m → LeavesNoOther before m
synced_fewer before m file bytes (Ok x) read synced = λ k left leaves. elim (by_file file k) [
  | inl same ↦
      let there : Leaves (disk_of m file) left = subst (λ (x : FileKind). Leaves (disk_of m x) left) (sym same) leaves in
      let is : left ≡ bytes = subst (λ (d : Pending). Leaves d left) (disk_is before m file (settled bytes) synced) there in
      subst (λ (x : FileKind). Leaves (disk_of before x) left) same (subst (Leaves (disk_of before file)) (sym is) read)
  | inr ne ↦ subst (λ (d : Pending). Leaves d left) (elsewhere before m file k (settled bytes) ne synced) leaves
]
synced_fewer before m file bytes (Err e) read still = same_disks before m (ap (λ (x : Moment). x.disks) still)

pub fewer_on : (a b : History) (m : Moment) → Since (LeavesNoOther a.now) a b → LeavesNoOther b.now m → LeavesNoOther a.now m
fewer_on a b m ab bm = elim (since_now ab) [
  | inl same ↦ subst (λ (x : Moment). LeavesNoOther x m) same bm
  | inr now ↦ λ file left leaves. now file left (bm file left leaves)
]

-- one call behind others
pub fewer_join : (a b c : History) → Since (LeavesNoOther a.now) a b → Since (LeavesNoOther b.now) b c → Since (LeavesNoOther a.now) a c
fewer_join a b c ab bc = since_join ab (since_weaker bc (λ m bm. fewer_on a b m ab bm))

-- all five
pub all_synced : (a b c d e f : Moment) (files : Five (List ℕ)) → IsSynced a Script0 files.script0 b → IsSynced b Script1 files.script1 c → IsSynced c Log files.log d → IsSynced d Data files.data_ e → IsSynced e Backup files.backup f → f.disks ≡ settled_files files
all_synced a b c d e f files ab bc cd de ef =
    let s0 = settled files.script0 in
    let s1 = settled files.script1 in
    let log = settled files.log in
    let pages = settled files.data_ in
    let backup = settled files.backup in
    ap (λ (m : Moment). m.disks) ef
    ∙ ap (λ (m : Moment). with_ m.disks Backup backup) de
    ∙ ap (λ (m : Moment). with_ (with_ m.disks Data pages) Backup backup) cd
    ∙ ap (λ (m : Moment). with_ (with_ (with_ m.disks Log log) Data pages) Backup backup) bc
    ∙ ap (λ (m : Moment). with_ (with_ (with_ (with_ m.disks Script1 s1) Log log) Data pages) Backup backup) ab
