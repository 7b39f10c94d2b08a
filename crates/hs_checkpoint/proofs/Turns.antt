-- The calls of a checkpoint, one behind the other.
use Rattle.std.proofs.Common.{◌≡◌, ◌⊎◌, ℕ, Bool, true, false, not, List, [], inl, inr, refl, sym, subst}
use Rattle.hs_host.specs.declared.file_kind.FileKind.{FileKind}
use Rattle.hs_host.specs.declared.file_kind.FileKind.TheVariants.{Script0, Script1, Log, Data, Backup}
use Rattle.hs_host.specs.Disk.{Pending, settled}
use Rattle.hs_host.specs.Files.{Five, of}
use Rattle.hs_host.specs.Moments.{History, Since, OneFile, disk_of}
use Rattle.hs_host.proofs.Changing.{one_weaker}
use Rattle.hs_host.proofs.Passing.{since_weaker}
use Rattle.hs_gate.specs.declared.gated.Gated.{Gated}
use Rattle.hs_gate.specs.Crash.{IsAsBefore}
use Rattle.hs_gate.specs.Rewriting.{IsReady}
use Rattle.hs_gate.proofs.Anew.{stands_ready}
use Rattle.hs_gate.proofs.Moments.{settled_keeps}
use Rattle.hs_slots.specs.Points.{Point, slot, IsHeaded, IsBornWith, IsPart, IsSafe, IsOnDisk, IsTurning, turned}
use Rattle.hs_slots.specs.Anew.{IsAnew}
use Rattle.hs_slots.specs.Served.{IsHeldAs}
use Rattle.hs_slots.proofs.Committing.{as_part, held_groups}
use Rattle.hs_slots.proofs.Parts.{started_part, on_disk_on, on_disk_safe}
use Rattle.hs_checkpoint.specs.Checkpoint.{DoesNotCount}

-- a file that is on the disk as it is read can be written anew
pub settled_ready : (p : Pending) (bytes : List ℕ) → p ≡ settled bytes → IsHeaded bytes → IsReady p bytes
settled_ready p bytes is headed = subst (λ (d : Pending). IsReady d bytes) (sym is) (record {
  gate = record { within = headed.two; keeps = settled_keeps bytes bytes 2 headed.two refl };
  header = λ gate. record { within = headed.whole gate; keeps = settled_keeps bytes bytes 11 (headed.whole gate) refl };
})

pub held_ready : (file : FileKind) (epoch : ℕ) (gated : Gated) (h : History) (files : Five (List ℕ)) → IsHeldAs file epoch gated h files → IsReady (disk_of h.now file) (of files file)
held_ready file epoch gated h files held = subst (λ (k : FileKind). IsReady (disk_of h.now k) (of files k)) held.file_is (stands_ready h files gated held.stands)

pub same_ready : (p q : Pending) (old new : List ℕ) → q ≡ p → new ≡ old → IsReady p old → IsReady q new
same_ready p q old new disk bytes ready = subst (λ (l : List ℕ). IsReady q l) (sym bytes) (subst (λ (d : Pending). IsReady d old) (sym disk) ready)

-- what is left of a log or backup that didn't count and is started
started_file : (p : Point) (file : FileKind) (old left : List ℕ) → DoesNotCount p file old → IsPart p file old → IsAnew old p.epoch [] left → IsPart p file left
started_file p file old left none part anew = elim none.none [
  | inl log ↦ subst (λ (k : FileKind). IsPart p k left) (sym log.0)
      (subst (λ (l : List (List ℕ)). IsBornWith p.epoch l left) (sym log.1) (started_part p.epoch old left (subst (λ (l : List (List ℕ)). IsBornWith p.epoch l old) log.1 (subst (λ (k : FileKind). IsPart p k old) log.0 part)) none.older anew))
  | inr backup ↦ subst (λ (k : FileKind). IsPart p k left) (sym backup.0)
      (subst (λ (l : List (List ℕ)). IsBornWith p.epoch l left) (sym backup.1) (started_part p.epoch old left (subst (λ (l : List (List ℕ)). IsBornWith p.epoch l old) backup.1 (subst (λ (k : FileKind). IsPart p k old) backup.0 part)) none.older anew))
]

pub starting : (p : Point) (a b : History) (file : FileKind) (old : List ℕ) (epoch : ℕ) → p.epoch ≡ epoch → DoesNotCount p file old → IsOnDisk p a.now → IsPart p file old → Since (OneFile a.now file (IsAnew old epoch [])) a b → Since (IsOnDisk p) a b
starting p a b file old epoch is none on part ab = since_weaker ab (λ m one.
    on_disk_on p a.now m file on (one_weaker a.now m file one (λ left anew. started_file p file old left none part (subst (λ (e : ℕ). IsAnew old e [] left) (sym is) anew))))

pub turned_safe : (p : Point) (payloads : List (List ℕ)) (a b : History) → Since (IsOnDisk (turned payloads p)) a b → Since (IsSafe (IsTurning payloads p)) a b
turned_safe p payloads a b ab = since_weaker ab (λ m on. on_disk_safe (IsTurning payloads p) (turned payloads p) m (inr refl) on)

pub this_or_other : (a b : Bool) → (a ≡ b) ⊎ (a ≡ not b)
this_or_other true true = inl refl
this_or_other true false = inr refl
this_or_other false true = inr refl
this_or_other false false = inl refl

pub slot_data : (b : Bool) → slot b ≡ Data → ⊥
slot_data true is = cc
slot_data false is = cc

-- a log or a backup that counts, and is read as it was
cut_part : (p : Point) (file : FileKind) (gated : Gated) (h : History) (files : Five (List ℕ)) (left : List ℕ) → (file ≡ Log) ⊎ (file ≡ Backup) → IsHeldAs file p.epoch gated h files → IsPart p file (of files file) → IsAsBefore (of files file) left → IsPart p file left
cut_part p Log gated h files left kind held part same = as_part p.epoch p.logged files.log left part (held_groups Log p.epoch gated h files p.logged held part.counts) same
cut_part p Backup gated h files left kind held part same = as_part p.epoch p.images files.backup left part (held_groups Backup p.epoch gated h files p.images held part.counts) same
cut_part p Script0 gated h files left kind held part same = elim kind [ inl is ↦ cc | inr is ↦ cc ]
cut_part p Script1 gated h files left kind held part same = elim kind [ inl is ↦ cc | inr is ↦ cc ]
cut_part p Data gated h files left kind held part same = elim kind [ inl is ↦ cc | inr is ↦ cc ]

pub cutting : (p : Point) (a b : History) (file : FileKind) (gated : Gated) (files : Five (List ℕ)) → (file ≡ Log) ⊎ (file ≡ Backup) → IsHeldAs file p.epoch gated a files → IsOnDisk p a.now → IsPart p file (of files file)
    → Since (OneFile a.now gated.file (IsAsBefore (of files gated.file))) a b → Since (IsOnDisk p) a b
cutting p a b file gated files kind held on part ab = since_weaker ab (λ m one.
    on_disk_on p a.now m file on (subst (λ (k : FileKind). OneFile a.now k (IsPart p file) m) held.file_is
    (one_weaker a.now m gated.file one (λ left same. cut_part p file gated a files left kind held part (subst (λ (k : FileKind). IsAsBefore (of files k) left) held.file_is same)))))
