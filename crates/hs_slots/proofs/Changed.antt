-- Files by their kinds, of which one changes.
use Rattle.std.proofs.Common.{◌≡◌, ◌⊎◌, Bool, true, false, not, List, ℕ, inl, inr, refl, sym, ◌∙◌, ap, subst}
use Rattle.hs_host.specs.declared.file_kind.FileKind.{FileKind}
use Rattle.hs_host.specs.declared.file_kind.FileKind.TheVariants.{Script0, Script1, Log, Data, Backup}
use Rattle.hs_host.specs.Disk.{Pending, Leaves}
use Rattle.hs_host.specs.Files.{Five, of, with_, IsOnly}
use Rattle.hs_host.specs.Moments.{Moment, History, Since, OneFile, disk_of, with_disk}
use Rattle.hs_host.proofs.Changing.{disk_is}
use Rattle.hs_host.proofs.Passing.{since_now}
use Rattle.hs_slots.specs.Points.{slot}

pub by_file : (file k : FileKind) → (file ≡ k) ⊎ (file ≡ k → ⊥)
by_file Script0 Script0 = inl refl
by_file Script0 k = inr (λ is. cc)
by_file Script1 Script1 = inl refl
by_file Script1 k = inr (λ is. cc)
by_file Log Log = inl refl
by_file Log k = inr (λ is. cc)
by_file Data Data = inl refl
by_file Data k = inr (λ is. cc)
by_file Backup Backup = inl refl
by_file Backup k = inr (λ is. cc)

-- of five things one is changed, and the others aren't
pub of_other : {A : Type 0} (five : Five A) (file k : FileKind) (x : A) → (file ≡ k → ⊥) → of (with_ five file x) k ≡ of five k
of_other five Script0 Script0 x ne = absurd (ne refl)
of_other five Script0 k x ne = refl
of_other five Script1 Script1 x ne = absurd (ne refl)
of_other five Script1 k x ne = refl
of_other five Log Log x ne = absurd (ne refl)
of_other five Log k x ne = refl
of_other five Data Data x ne = absurd (ne refl)
of_other five Data k x ne = refl
of_other five Backup Backup x ne = absurd (ne refl)
of_other five Backup k x ne = refl

pub slots_differ : (b : Bool) → slot (not b) ≡ slot b → ⊥
slots_differ true is = cc
slots_differ false is = cc

pub slot_log : (b : Bool) → slot b ≡ Log → ⊥
slot_log true is = cc
slot_log false is = cc

pub slot_backup : (b : Bool) → slot b ≡ Backup → ⊥
slot_backup true is = cc
slot_backup false is = cc

-- what the disk has of a file that isn't changed
pub elsewhere : (before m : Moment) (file k : FileKind) (d : Pending) → (file ≡ k → ⊥) → m ≡ with_disk before file d → disk_of m k ≡ disk_of before k
elsewhere before m file k d ne is = ap (λ (x : Moment). disk_of x k) is ∙ of_other before.disks file k d ne

-- what a crash leaves of it, and of the one that is
pub left_elsewhere : {Q : List ℕ → Type 0} (before m : Moment) (file k : FileKind) (left : List ℕ) → (file ≡ k → ⊥) → OneFile before file Q m → Leaves (disk_of m k) left → Leaves (disk_of before k) left
left_elsewhere before m file k left ne one leaves = subst (λ (p : Pending). Leaves p left) (elsewhere before m file k one.disk ne one.is) leaves

pub left_there : {Q : List ℕ → Type 0} (before m : Moment) (file : FileKind) (left : List ℕ) → OneFile before file Q m → Leaves (disk_of m file) left → Q left
left_there before m file left one leaves = one.each left (subst (λ (p : Pending). Leaves p left) (disk_is before m file one.disk one.is) leaves)

-- after the calls
pub now_elsewhere : {Q : List ℕ → Type 0} {a b : History} (file k : FileKind) → (file ≡ k → ⊥) → Since (OneFile a.now file Q) a b → disk_of b.now k ≡ disk_of a.now k
now_elsewhere {Q} {a} {b} file k ne ab = elim (since_now ab) [ inl is ↦ ap (λ (m : Moment). disk_of m k) is | inr one ↦ elsewhere a.now b.now file k one.disk ne one.is ]

pub file_elsewhere : (old new : Five (List ℕ)) (file k : FileKind) → (file ≡ k → ⊥) → IsOnly old file new → of new k ≡ of old k
file_elsewhere old new file k ne is = ap (λ (f : Five (List ℕ)). of f k) is ∙ of_other old file k (of new file) ne

-- two facts of what a crash leaves of the one file
pub both_left : {Q R : List ℕ → Type 0} (before m : Moment) (file : FileKind) → OneFile before file Q m → OneFile before file R m → OneFile before file (λ left. Q left × R left) m
both_left before m file one two = record {
  disk = one.disk;
  is = one.is;
  each = λ left leaves. (one.each left leaves, left_there before m file left two (subst (λ (p : Pending). Leaves p left) (sym (disk_is before m file one.disk one.is)) leaves));
}
