-- What a crash leaves while a header gate is written.
use Rattle.std.proofs.Common.{◌≡◌, ◌≢◌, ◌⊎◌, ℕ, ◌+◌, ◌<◌, ◌≤◌, ◌==◌, ◌&&◌, nat_le, Bool, true, false, List, [], ◌∷◌, ◌++◌, length, take, drop, get_or, slice_index, inl, inr, refl, sym, ◌∙◌, ap, subst, arith}
use Rattle.std.proofs.lemmas.List.{get_or-take, get_or-drop, take_all}
use Rattle.std.proofs.lemmas.Bool.{eqb-true, eqb-false, ne_eqb, le-leb}
use Rattle.std.proofs.lemmas.Grind.{same_number_lists}
use Rattle.hs_host.specs.declared.file_kind.FileKind.{FileKind}
use Rattle.hs_host.specs.Files.{piece, overwrite}
use Rattle.hs_host.specs.Disk.{Pending, MayLeave, Leaves, settled, written_at}
use Rattle.hs_host.specs.Moments.{Moment, OneFile, disk_of}
use Rattle.hs_host.proofs.Torn.{front_stays, uncovered}
use Rattle.hs_gate.specs.Groups.{is_open, is_born, epoch_of}
use Rattle.hs_gate.specs.Crash.{IsWriting, called, done}
use Rattle.hs_gate.specs.Rewriting.{IsKept, IsReady, IsClosing}
use Rattle.hs_gate.proofs.Fronts.{born_by, born_same, get_same}
use Rattle.hs_gate.proofs.Moments.{settled_keeps}
use Rattle.hs_gate.proofs.Numbers.{number_same}
use Rattle.hs_gate.proofs.Pieces.{length-piece, piece_same}

both_no : (a : Bool) → (a && false) ≡ false
both_no true = refl
both_no false = refl

-- a file is open by its gate alone, where it is long enough
pub open_by : (bytes : List ℕ) → 11 ≤ length bytes → slice_index bytes 1 ≡ 1 → is_open bytes ≡ true
open_by bytes long gate = let longer : nat_le 11 (length bytes) ≡ true = le-leb 11 (length bytes) long in rw (longer, gate) refl

pub closed_by : (bytes : List ℕ) → slice_index bytes 1 ≢ 1 → is_open bytes ≡ false
closed_by bytes gate = let no : (slice_index bytes 1 == 1) ≡ false = ne_eqb (slice_index bytes 1) 1 gate in rw no (both_no (nat_le 11 (length bytes)))

-- a place that the write of a gate doesn't cover is as before
kept_place : (p : Pending) (old left : List ℕ) (n i : ℕ) → IsKept p n old → i < n → (i ≡ 1 → ⊥) → MayLeave (written_at 1 1 p) left → get_or left i 0 ≡ get_or old i 0
kept_place p old left n i kept below other may =
    may.same i (omega (arith, below, kept.keeps.low)) (λ covered. elim covered [ inl here ↦ other (omega (arith, here.0, here.1)) | inr more ↦ uncovered p.ranges n i kept.keeps.behind below more ])
    ∙ get_same n i p.synced old kept.keeps.same below

-- so are the bytes behind it, and the birth byte
pub torn_gate : (p : Pending) (old left : List ℕ) (n c : ℕ) → IsKept p n old → 2 + c ≤ n → MayLeave (written_at 1 1 p) left → piece 2 c left ≡ piece 2 c old
torn_gate p old left n c kept le may =
    let few : length (piece 2 c left) ≡ c = length-piece 2 c left (omega (arith, may.long, kept.keeps.low, le)) in
    same_number_lists (piece 2 c left) (piece 2 c old)
    (few ∙ sym (length-piece 2 c old (omega (arith, kept.within, le))))
    (λ k h.
    let below : k < c = omega (arith, h, few) in
    rw (get_or-take, get_or-drop, get_or-take, get_or-drop) (kept_place p old left n (2 + k) kept (omega (arith, below, le)) (λ is. omega (arith, is)) may))

pub torn_birth : (p : Pending) (old left : List ℕ) (n : ℕ) → IsKept p n old → 2 ≤ n → MayLeave (written_at 1 1 p) left → is_born left ≡ is_born old
torn_birth p old left n kept le may =
    born_by left old (kept_place p old left n 0 kept (omega (arith, le)) (λ is. omega (arith, is)) may) (omega (arith, may.long, kept.keeps.low, le)) (omega (arith, kept.within, le))

by_gate : (x : ℕ) (b : Bool) → (x == 1) ≡ b → (x ≡ 1) ⊎ (x ≢ 1)
by_gate x true is = inl (eqb-true x 1 is)
by_gate x false is = inr (eqb-false x 1 is)

-- a gate that is as it was
pub same_gate : (old left : List ℕ) → take 2 left ≡ take 2 old → slice_index old 1 ≢ 1 → slice_index left 1 ≢ 1
same_gate old left same closed opened = closed (sym (get_same 2 1 left old same (omega arith)) ∙ opened)

pub same_epoch : (old left : List ℕ) → piece 2 8 left ≡ piece 2 8 old → epoch_of left ≡ epoch_of old
same_epoch old left same = number_same (drop 2 left) (drop 2 old) same

-- what may be left of a file that can be written anew
pub ready_left : (p : Pending) (old left : List ℕ) → IsReady p old → Leaves p left → IsClosing old left
ready_left p old left ready leaves =
    let front = front_stays p 2 old left ready.gate.keeps leaves in
    record {
      birth = born_same 2 left old front.0 (omega arith) (omega (arith, front.1)) (omega (arith, ready.gate.within));
      header = elim (by_gate (slice_index old 1) (slice_index old 1 == 1) refl) [
        | inl opened ↦ inr (
          open_by old (ready.header opened).within opened,
          same_epoch old left (piece_same 2 8 11 left old (front_stays p 11 old left (ready.header opened).keeps leaves).0 (omega arith)),
        )
        | inr closed ↦ inl (closed_by left (same_gate old left front.0 closed))
      ];
    }

pub closed_bytes : (old : List ℕ) → 2 ≤ length old → slice_index (overwrite old 1 (0 ∷ [])) 1 ≢ 1
closed_bytes [] long = absurd (omega (arith, long))
closed_bytes (b ∷ []) long = absurd (omega (arith, long))
closed_bytes (b ∷ c ∷ old) long = λ is. cc

pub closed_birth : (old : List ℕ) → 2 ≤ length old → take 1 (overwrite old 1 (0 ∷ [])) ≡ take 1 old
closed_birth [] long = absurd (omega (arith, long))
closed_birth (b ∷ old) long = refl

closed_long : (old : List ℕ) → 2 ≤ length old → 1 ≤ length (overwrite old 1 (0 ∷ []))
closed_long [] long = absurd (omega (arith, long))
closed_long (b ∷ old) long = omega arith

-- while a gate is closed
pub closing_moment : (before m : Moment) (file : FileKind) (old : List ℕ) → slice_index old 1 ≡ 1 → IsKept (disk_of before file) 11 old → IsWriting before file 1 (0 ∷ []) old m → OneFile before file (IsClosing old) m
closing_moment before m file old gate kept (called written) = record {
  disk = written_at 1 1 (disk_of before file);
  is = written;
  each = λ left leaves. record {
    birth = torn_birth (disk_of before file) old left 11 kept (omega arith) leaves;
    header = inr (open_by old kept.within gate, same_epoch old left (torn_gate (disk_of before file) old left 11 8 kept (omega arith) leaves));
  };
}
closing_moment before m file old gate kept (done synced) = record {
  disk = settled (overwrite old 1 (0 ∷ []));
  is = synced;
  each = λ left leaves.
      let two : 2 ≤ length old = omega (arith, kept.within) in
      record {
        birth = ap is_born leaves ∙ born_same 1 (overwrite old 1 (0 ∷ [])) old (closed_birth old two) (omega arith) (closed_long old two) (omega (arith, two));
        header = inl (ap is_open leaves ∙ closed_by (overwrite old 1 (0 ∷ [])) (closed_bytes old two));
      };
}

opened_bytes : (front body : List ℕ) → 2 ≤ length front → (overwrite (take 2 front ++ body) 1 (1 ∷ []) ≡ take 1 front ++ 1 ∷ body) × (piece 2 (length body) (take 2 front ++ body) ≡ body) × (2 + length body ≡ length (take 2 front ++ body))
opened_bytes [] body long = absurd (omega (arith, long))
opened_bytes (b ∷ []) body long = absurd (omega (arith, long))
opened_bytes (b ∷ c ∷ front) body long = (refl, take_all (length body) body (omega arith), omega arith)

pub opened_is : (front body : List ℕ) → 2 ≤ length front → overwrite (take 2 front ++ body) 1 (1 ∷ []) ≡ take 1 front ++ 1 ∷ body
opened_is front body long = (opened_bytes front body long).0

pub new_piece : (front body : List ℕ) → 2 ≤ length front → piece 2 (length body) (take 1 front ++ 1 ∷ body) ≡ body
new_piece [] body long = absurd (omega (arith, long))
new_piece (b ∷ front) body long = take_all (length body) body (omega arith)

new_birth : (front body : List ℕ) → 2 ≤ length front → is_born (take 1 front ++ 1 ∷ body) ≡ is_born front
new_birth [] body long = absurd (omega (arith, long))
new_birth (b ∷ front) body long = born_by (b ∷ 1 ∷ body) (b ∷ front) refl (omega arith) (omega arith)

staged_birth : (front body : List ℕ) → 2 ≤ length front → is_born (take 2 front ++ body) ≡ is_born front
staged_birth [] body long = absurd (omega (arith, long))
staged_birth (b ∷ front) body long = born_by (take 2 (b ∷ front) ++ body) (b ∷ front) refl (omega arith) (omega arith)

-- all that is new stands behind the header gate
pub record IsAllNew (front body left : List ℕ) : Type 0 where
  pub birth : is_born left ≡ is_born front
  pub there : piece 2 (length body) left ≡ body

-- while a gate is opened
pub opening_moment : (before m : Moment) (file : FileKind) (front body staged : List ℕ) → 2 ≤ length front → staged ≡ take 2 front ++ body → disk_of before file ≡ settled staged → IsWriting before file 1 (1 ∷ []) staged m
    → OneFile before file (IsAllNew front body) m
opening_moment before m file front body staged long is disk (called written) = record {
  disk = written_at 1 1 (disk_of before file);
  is = written;
  each = λ left leaves.
      let size : 2 + length body ≡ length staged = (opened_bytes front body long).2 ∙ sym (ap length is) in
      let kept : IsKept (settled staged) (length staged) staged = record { within = omega arith; keeps = settled_keeps staged staged (length staged) (omega arith) refl } in
      let may : MayLeave (written_at 1 1 (settled staged)) left = subst (λ (p : Pending). MayLeave (written_at 1 1 p) left) disk leaves in
      record {
        birth = torn_birth (settled staged) staged left (length staged) kept (omega (arith, size)) may ∙ ap is_born is ∙ staged_birth front body long;
        there =
            torn_gate (settled staged) staged left (length staged) (length body) kept (omega (arith, size)) may
            ∙ ap (λ (l : List ℕ). piece 2 (length body) l) is ∙ (opened_bytes front body long).1;
      };
}
opening_moment before m file front body staged long is disk (done synced) = record {
  disk = settled (overwrite staged 1 (1 ∷ []));
  is = synced;
  each = λ left leaves.
      let all : left ≡ take 1 front ++ 1 ∷ body = leaves ∙ ap (λ (l : List ℕ). overwrite l 1 (1 ∷ [])) is ∙ opened_is front body long in
      record {
        birth = ap is_born all ∙ new_birth front body long;
        there = ap (λ (l : List ℕ). piece 2 (length body) l) all ∙ new_piece front body long;
      };
}
