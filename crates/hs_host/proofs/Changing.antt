-- The moments of one file, call after call.
use Rattle.std.proofs.Common.{◌≡◌, ℕ, List, inl, inr, sym, ◌∙◌, ap}
use Rattle.hs_host.specs.declared.file_kind.FileKind.{FileKind}
use Rattle.hs_host.specs.Files.{Five, of, with_}
use Rattle.hs_host.specs.Disk.{Pending, Leaves}
use Rattle.hs_host.specs.Moments.{on_file, Moment, History, Since, OneFile, IsStill, disk_of, with_disk}
use Rattle.hs_host.proofs.Files.{of_with, with_with, with_of}
use Rattle.hs_host.proofs.Passing.{since_join, since_weaker, since_now}

pub disk_is : (before m : Moment) (file : FileKind) (p : Pending) → m ≡ with_disk before file p → disk_of m file ≡ p
disk_is before m file p is = ap (λ (x : Moment). disk_of x file) is ∙ of_with before.disks file p

-- a call that changes nothing of what the disk has
pub same_disk : (before m : Moment) (file : FileKind) → IsStill before m → m ≡ with_disk before file (disk_of before file)
same_disk before m file is = is ∙ ap (λ (f : Five Pending). record before { disks = f; call = on_file }) (sym (with_of before.disks file))

-- a second change of a file takes the place of the first
pub disk_twice : (before mid m : Moment) (file : FileKind) (p q : Pending) → mid ≡ with_disk before file p → m ≡ with_disk mid file q → m ≡ with_disk before file q
disk_twice before mid m file p q first second =
    second ∙ ap (λ (x : Moment). with_disk x file q) first ∙ ap (λ (f : Five Pending). record before { disks = f; call = on_file }) (with_with before.disks file p q)

pub one_weaker : {Q R : List ℕ → Type 0} (before m : Moment) (file : FileKind) → OneFile before file Q m → ((left : List ℕ) → Q left → R left) → OneFile before file R m
one_weaker before m file one f = record { disk = one.disk; is = one.is; each = λ left leaves. f left (one.each left leaves) }

-- one call after the other on the same file
pub one_on : (Q : List ℕ → Type 0) (a b c : History) (file : FileKind) → Since (OneFile a.now file Q) a b → Since (OneFile b.now file Q) b c → Since (OneFile a.now file Q) a c
one_on Q a b c file ab bc = since_join ab (since_weaker bc (λ m one. record {
  disk = one.disk;
  is = elim (since_now ab) [
    | inl same ↦ one.is ∙ ap (λ (k : Moment). with_disk k file one.disk) same
    | inr mid ↦ disk_twice a.now b.now m file mid.disk one.disk mid.is one.is
  ];
  each = one.each;
}))

pub still_left : (a b : History) (file : FileKind) (Q : List ℕ → Type 0) → Since (IsStill a.now) a b → ((left : List ℕ) → Leaves (disk_of a.now file) left → Q left) → Since (OneFile a.now file Q) a b
still_left a b file Q ab f = since_weaker ab (λ m is. record { disk = disk_of a.now file; is = same_disk a.now m file is; each = f })
