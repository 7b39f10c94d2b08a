-- Files that are all on the disk, and one of them that is changed.
use Rattle.std.proofs.Common.{◌≡◌, ℕ, List, Result, Ok, Err, OnOk, inl, inr, refl, sym, ◌∙◌, ap, subst}
use Rattle.hs_host.specs.declared.file_kind.FileKind.{FileKind}
use Rattle.hs_host.specs.declared.file_kind.FileKind.TheVariants.{Script0, Script1, Log, Data, Backup}
use Rattle.hs_host.specs.Disk.{Pending, Leaves, settled}
use Rattle.hs_host.specs.Files.{Five, of, with_, IsOnly}
use Rattle.hs_host.specs.Moments.{Moment, History, Since, OneFile, disk_of, settled_files}
use Rattle.hs_host.proofs.Files.{of_with}
use Rattle.hs_slots.specs.Points.{AreLeft}
use Rattle.hs_slots.proofs.Changed.{by_file, of_other, left_there, left_elsewhere, now_elsewhere, file_elsewhere}
use Rattle.hs_creation.specs.Creation.{AreSettled}

-- five things are the same where each is
pub five_by : {A : Type 0} (a b : Five A) → ((k : FileKind) → of a k ≡ of b k) → a ≡ b
five_by {A} a b each =
    ap (λ (x : A). record a { script0 = x }) (each Script0)
    ∙ ap (λ (x : A). record a { script0 = b.script0; script1 = x }) (each Script1)
    ∙ ap (λ (x : A). record a { script0 = b.script0; script1 = b.script1; log = x }) (each Log)
    ∙ ap (λ (x : A). record b { data_ = x; backup = a.backup }) (each Data)
    ∙ ap (λ (x : A). record b { backup = x }) (each Backup)

settled_at : (f : Five (List ℕ)) (k : FileKind) → of (settled_files f) k ≡ settled (of f k)
settled_at f Script0 = refl
settled_at f Script1 = refl
settled_at f Log = refl
settled_at f Data = refl
settled_at f Backup = refl

-- what the disk has of each, and what a crash leaves
pub disk_at : (h : History) (f : Five (List ℕ)) (k : FileKind) → AreSettled h f → disk_of h.now k ≡ settled (of f k)
disk_at h f k is = ap (λ (x : Five Pending). of x k) is ∙ settled_at f k

pub left_as : (m : Moment) (f : Five (List ℕ)) (k : FileKind) (left : List ℕ) → m.disks ≡ settled_files f → Leaves (disk_of m k) left → left ≡ of f k
left_as m f k left is leaves = subst (λ (d : Pending). Leaves d left) (ap (λ (x : Five Pending). of x k) is ∙ settled_at f k) leaves

pub all_left : (m : Moment) (f files : Five (List ℕ)) → m.disks ≡ settled_files f → AreLeft m files → files ≡ f
all_left m f files is leaves = five_by files f (λ k. left_as m f k (of files k) is (leaves k))

-- what a crash leaves while one of them is changed
left_with : {Q : List ℕ → Type 0} (before m : Moment) (f files : Five (List ℕ)) (file : FileKind) → before.disks ≡ settled_files f → OneFile before file Q m → AreLeft m files → files ≡ with_ f file (of files file)
left_with before m f files file is one leaves = five_by files (with_ f file (of files file)) (λ k. elim (by_file file k) [
  | inl same ↦ subst (λ (x : FileKind). of files x ≡ of (with_ f file (of files file)) x) same (sym (of_with f file (of files file)))
  | inr ne ↦ left_as before f k (of files k) is (left_elsewhere before m file k (of files k) ne one (leaves k)) ∙ sym (of_other f file k (of files file) ne)
])

pub changed : {Q : List ℕ → Type 0} (P : Five (List ℕ) → Type 0) (before m : Moment) (f : Five (List ℕ)) (file : FileKind) → before.disks ≡ settled_files f → OneFile before file Q m → ((left : List ℕ) → Q left → P (with_ f file left))
    → (files : Five (List ℕ)) → AreLeft m files → P files
changed P before m f file is one means files leaves = subst P (sym (left_with before m f files file is one leaves)) (means (of files file) (left_there before m file (of files file) one (leaves file)))

-- and once it is on the disk again
pub settled_on : {Q : List ℕ → Type 0} (a b : History) (f g : Five (List ℕ)) (file : FileKind) → AreSettled a f → Since (OneFile a.now file Q) a b → IsOnly f file g → disk_of b.now file ≡ settled (of g file) → AreSettled b g
settled_on a b f g file is ab only disk = five_by b.now.disks (settled_files g) (λ k. elim (by_file file k) [
  | inl same ↦ subst (λ (x : FileKind). disk_of b.now x ≡ of (settled_files g) x) same (disk ∙ sym (settled_at g file))
  | inr ne ↦ now_elsewhere file k ne ab ∙ disk_at a f k is ∙ ap settled (sym (file_elsewhere f g file k ne only)) ∙ sym (settled_at g k)
])

pub on_both : {T E : Type 0} (A B : Type 0) (result : Result T E) → OnOk result A → OnOk result B → OnOk result (A × B)
on_both A B (Ok x) a b = (a, b)
on_both A B (Err e) a b = tt
