-- A checkpoint: a slot that isn't the current one is written anew.
use Rattle.std.proofs.Common.{◌≡◌, ℕ, ◌+◌, Bool, true, false, not, List, [], Some, inl, inr, refl, sym, ◌∙◌, ap, subst}
use Rattle.hs_host.specs.declared.file_kind.FileKind.{FileKind}
use Rattle.hs_host.specs.declared.file_kind.FileKind.TheVariants.{Script0, Script1, Log, Data, Backup}
use Rattle.hs_host.specs.Disk.{Pending, Leaves, settled}
use Rattle.hs_host.specs.Files.{of}
use Rattle.hs_host.specs.Moments.{Moment, History, Since, OneFile, disk_of}
use Rattle.hs_host.proofs.Passing.{since_weaker}
use Rattle.hs_gate.specs.Rewriting.{IsGroups}
use Rattle.hs_slots.specs.Points.{Point, slot, IsOlder, HasPages, IsSlot, IsPart, IsSafe, IsOnDisk, IsTurning, turned}
use Rattle.hs_slots.specs.Anew.{IsAnew}
use Rattle.hs_slots.proofs.Changed.{by_file, left_there, left_elsewhere, now_elsewhere}
use Rattle.hs_slots.proofs.Parts.{to_current, from_current, to_other, groups_older, counted_older, closed_older}

-- what the next point asks of a file that isn't the slot that was written
pub turned_part : (p : Point) (payloads : List (List ℕ)) (b : Bool) (k : FileKind) (bytes : List ℕ) → p.second ≡ b → p.images ≡ [] → (slot (not b) ≡ k → ⊥) → IsPart p k bytes → IsPart (turned payloads p) k bytes
turned_part p payloads true Script0 bytes is none other part = absurd (other refl)
turned_part p payloads false Script0 bytes is none other part =
    subst (λ (s : Bool). IsSlot (turned payloads p) (not (not s)) bytes) (sym is) (groups_older p.epoch p.base bytes (from_current p bytes false is part))
turned_part p payloads true Script1 bytes is none other part =
    subst (λ (s : Bool). IsSlot (turned payloads p) (not s) bytes) (sym is) (groups_older p.epoch p.base bytes (from_current p bytes true is part))
turned_part p payloads false Script1 bytes is none other part = absurd (other refl)
turned_part p payloads b Log bytes is none other part = record { born = part.born; counts = inr (counted_older p.epoch p.logged bytes part.counts, refl) }
turned_part p payloads b Backup bytes is none other part = record { born = part.born; counts = inr (counted_older p.epoch p.images bytes part.counts, refl) }
turned_part p payloads b Data bytes is none other part = subst (λ (images : List (List ℕ)). HasPages images p.pages bytes) none part

-- each moment while it is written
pub turning_safe : (p : Point) (payloads : List (List ℕ)) (before m : Moment) (old : List ℕ) → IsOnDisk p before → p.images ≡ [] → IsOlder p.epoch old → OneFile before (slot (not p.second)) (IsAnew old (p.epoch + 1) payloads) m → IsSafe (IsTurning payloads p) m
turning_safe p payloads before m old on none older one files leaves =
    let file = slot (not p.second) in
    let anew : IsAnew old (p.epoch + 1) payloads (of files file) = left_there before m file (of files file) one (leaves file) in
    let others : (k : FileKind) → (file ≡ k → ⊥) → IsPart p k (of files k) = λ k ne. on k (of files k) (left_elsewhere before m file k (of files k) ne one (leaves k)) in
    elim anew.behind [
      | inl closed ↦ record {
        what = Some p;
        stand = λ k. elim (by_file file k) [
          | inl same ↦ subst (λ (x : FileKind). IsPart p x (of files x)) same (to_other p (of files file) p.second refl (closed_older p.epoch old (of files file) older anew.headed closed))
          | inr ne ↦ others k ne
        ];
        is = inl refl;
      }
      | inr groups ↦ record {
        what = Some (turned payloads p);
        stand = λ k. elim (by_file file k) [
          | inl same ↦ subst (λ (x : FileKind). IsPart (turned payloads p) x (of files x)) same (to_current (turned payloads p) (of files file) (not p.second) refl groups)
          | inr ne ↦ turned_part p payloads p.second k (of files k) refl none ne (others k ne)
        ];
        is = inr refl;
      }
    ]

pub turning : (p : Point) (payloads : List (List ℕ)) (a b : History) (old : List ℕ) → IsOnDisk p a.now → p.images ≡ [] → IsOlder p.epoch old → Since (OneFile a.now (slot (not p.second)) (IsAnew old (p.epoch + 1) payloads)) a b → Since (IsSafe (IsTurning payloads p)) a b
turning p payloads a b old on none older ab = since_weaker ab (λ m one. turning_safe p payloads a.now m old on none older one)

-- and after that
pub turned_on_disk : {Q : List ℕ → Type 0} (p : Point) (payloads : List (List ℕ)) (a b : History) (new : List ℕ) → IsOnDisk p a.now → p.images ≡ [] → Since (OneFile a.now (slot (not p.second)) Q) a b → disk_of b.now (slot (not p.second)) ≡ settled new → IsGroups (p.epoch + 1) payloads new
    → IsOnDisk (turned payloads p) b.now
turned_on_disk p payloads a b new on none ab disk groups k left leaves =
    let file = slot (not p.second) in
    elim (by_file file k) [
      | inl same ↦
          let is : left ≡ new = subst (λ (d : Pending). Leaves d left) (ap (λ (x : FileKind). disk_of b.now x) (sym same) ∙ disk) leaves in
          subst (λ (x : FileKind). IsPart (turned payloads p) x left) same (to_current (turned payloads p) left (not p.second) refl (subst (IsGroups (p.epoch + 1) payloads) (sym is) groups))
      | inr ne ↦ turned_part p payloads p.second k left refl none ne (on k left (subst (λ (d : Pending). Leaves d left) (now_elsewhere file k ne ab) leaves))
    ]
