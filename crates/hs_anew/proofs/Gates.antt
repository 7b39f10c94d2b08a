-- What a crash leaves while a header gate is closed, and while it is opened.
use Rattle.std.proofs.Common.{◌≡◌, ◌≢◌, ◌⊎◌, ℕ, ◌+◌, ◌<◌, ◌≤◌, ◌^◌, Bool, true, false, List, [], ◌∷◌, ◌++◌, length, take, slice_index, Result, Ok, Err, OnOk, inl, inr, refl, sym, ◌∙◌, ap, subst, arith, append-nil, length-append}
use Rattle.std.proofs.lemmas.List.{append_cancel_left, length-take-le, take-take}
use Rattle.hs_host.specs.declared.file_kind.FileKind.{FileKind}
use Rattle.hs_host.specs.Disk.{Pending, Leaves, MayLeave, settled, written_at}
use Rattle.hs_host.specs.Files.{piece, overwrite}
use Rattle.hs_host.specs.Moments.{Moment, OneFile, disk_of}
use Rattle.hs_host.proofs.Changing.{one_weaker}
use Rattle.hs_host.proofs.Torn.{front_stays}
use Rattle.hs_gate.specs.Crash.{BeginsWith, IsWriting, called, done}
use Rattle.hs_gate.specs.Groups.{is_open, is_born, eight_bytes, spelled}
use Rattle.hs_gate.specs.Rewriting.{IsKept, IsReady, IsClosedOrOld, IsGroups, body_of}
use Rattle.hs_gate.proofs.Anew.{rewritten}
use Rattle.hs_gate.proofs.Fronts.{born_same, get_same, open_long}
use Rattle.hs_gate.proofs.Gates.{same_gate, closed_by, open_by, ready_left, closing_moment, opening_moment, opened_is, new_piece}
use Rattle.hs_gate.proofs.Numbers.{length-eight}
use Rattle.hs_gate.proofs.Pieces.{length-overwrite_within}
use Rattle.hs_slots.specs.Points.{IsHeaded}
use Rattle.hs_slots.specs.Anew.{IsShut, IsAnew, renewed}
use Rattle.hs_slots.proofs.Changed.{both_left}
use Rattle.hs_anew.specs.Staging.{IsStaged, IsOpened}

long_headed : (bytes : List ℕ) → 11 ≤ length bytes → IsHeaded bytes
long_headed bytes long = record { two = omega (arith, long); whole = λ gate. long }

closed_headed : (bytes : List ℕ) → 2 ≤ length bytes → slice_index bytes 1 ≢ 1 → IsHeaded bytes
closed_headed bytes two closed = record { two = two; whole = λ gate. absurd (closed gate) }

-- what may be left of a file that can be written anew
pub ready_shut : (p : Pending) (old left : List ℕ) → IsReady p old → Leaves p left → IsShut old left
ready_shut p old left ready leaves =
    let front = front_stays p 2 old left ready.gate.keeps leaves in
    let closing = ready_left p old left ready leaves in
    record {
      birth = closing.birth;
      headed = record {
        two = omega (arith, front.1);
        whole = λ gate. let opened : slice_index old 1 ≡ 1 = sym (get_same 2 1 left old front.0 (omega arith)) ∙ gate in let long = (front_stays p 11 old left (ready.header opened).keeps leaves).1 in omega (arith, long);
      };
      behind = closing.header;
    }

closing_long : (before m : Moment) (file : FileKind) (old : List ℕ) → IsKept (disk_of before file) 11 old → IsWriting before file 1 (0 ∷ []) old m → OneFile before file (λ left. 11 ≤ length left) m
closing_long before m file old kept (called written) = record { disk = written_at 1 1 (disk_of before file); is = written; each = λ left leaves. omega (arith, leaves.long, kept.keeps.low) }
closing_long before m file old kept (done synced) = record {
  disk = settled (overwrite old 1 (0 ∷ []));
  is = synced;
  each = λ left leaves. omega (arith, ap length leaves, length-overwrite_within old 1 (0 ∷ []) (omega (arith, kept.within)), kept.within);
}

-- while a gate is closed
pub shutting_moment : (before m : Moment) (file : FileKind) (old : List ℕ) → slice_index old 1 ≡ 1 → IsKept (disk_of before file) 11 old → IsWriting before file 1 (0 ∷ []) old m → OneFile before file (IsShut old) m
shutting_moment before m file old gate kept writing =
    one_weaker before m file (both_left before m file (closing_moment before m file old gate kept writing) (closing_long before m file old kept writing))
    (λ left both. record { birth = both.0.birth; headed = long_headed left both.1; behind = both.0.header })

-- what begins with a closed gate is shut, and was born where it was
pub shut_begins : (old mid left : List ℕ) → 1 ≤ length old → 2 ≤ length mid → take 1 mid ≡ take 1 old → slice_index mid 1 ≢ 1 → BeginsWith 2 mid left → IsShut old left
shut_begins old mid left some two birth closed begins =
    let gate : slice_index left 1 ≢ 1 = same_gate mid left begins.0 closed in
    record {
      birth = born_same 2 left mid begins.0 (omega arith) (omega (arith, begins.1)) (omega (arith, two)) ∙ born_same 1 mid old birth (omega arith) (omega (arith, two)) some;
      headed = closed_headed left (omega (arith, begins.1)) gate;
      behind = inl (closed_by left gate);
    }

-- the gate of a file that is all there behind it is opened
opening_long : (before m : Moment) (file : FileKind) (staged : List ℕ) → 2 ≤ length staged → disk_of before file ≡ settled staged → IsWriting before file 1 (1 ∷ []) staged m → OneFile before file (λ left. length staged ≤ length left) m
opening_long before m file staged two disk (called written) = record {
  disk = written_at 1 1 (disk_of before file);
  is = written;
  each = λ left leaves. let may : MayLeave (written_at 1 1 (settled staged)) left = subst (λ (p : Pending). MayLeave (written_at 1 1 p) left) disk leaves in may.long;
}
opening_long before m file staged two disk (done synced) = record {
  disk = settled (overwrite staged 1 (1 ∷ []));
  is = synced;
  each = λ left leaves. omega (arith, ap length leaves, length-overwrite_within staged 1 (1 ∷ []) (omega (arith, two)));
}

pub opened_moment : (before m : Moment) (file : FileKind) (front body staged : List ℕ) → 2 ≤ length front → 9 ≤ length body → staged ≡ take 2 front ++ body → disk_of before file ≡ settled staged → IsWriting before file 1 (1 ∷ []) staged m
    → OneFile before file (IsOpened front body) m
opened_moment before m file front body staged two nine is disk writing =
    let size : length staged ≡ 2 + length body = ap length is ∙ length-append (take 2 front) body ∙ ap (λ (n : ℕ). n + length body) (length-take-le 2 front two) in
    one_weaker before m file
    (both_left before m file (opening_moment before m file front body staged two is disk writing) (opening_long before m file staged (omega (arith, size)) disk writing))
    (λ left both. record { birth = both.0.birth; headed = long_headed left (omega (arith, both.1, size, nine)); behind = inr both.0.there })

-- until then it is closed
pub sealed_opened : (old body left : List ℕ) → 2 ≤ length old → slice_index old 1 ≢ 1 → BeginsWith 2 old left → IsOpened old body left
sealed_opened old body left two closed begins =
    let gate : slice_index left 1 ≢ 1 = same_gate old left begins.0 closed in
    record {
      birth = born_same 2 left old begins.0 (omega arith) (omega (arith, begins.1)) (omega (arith, two));
      headed = closed_headed left (omega (arith, begins.1)) gate;
      behind = inl (closed_by left gate);
    }

-- so the whole is written anew
pub shut_anew : (old left : List ℕ) (epoch : ℕ) (payloads : List (List ℕ)) → IsShut old left → IsAnew old epoch payloads left
shut_anew old left epoch payloads shut = record { birth = shut.birth; headed = shut.headed; behind = inl shut.behind }

by_body : (old left body : List ℕ) → (is_open left ≡ false) ⊎ (piece 2 (length body) left ≡ body) → IsClosedOrOld old left ⊎ (piece 2 (length body) left ≡ body)
by_body old left body (inl closed) = inl (inl closed)
by_body old left body (inr there) = inr there

pub opened_anew : (old mid left : List ℕ) (epoch : ℕ) (payloads : List (List ℕ)) → epoch < 2 ^ 64 → length (spelled payloads) < 2 ^ 64 → is_born mid ≡ is_born old → IsOpened mid (body_of epoch payloads) left → IsAnew old epoch payloads left
opened_anew old mid left epoch payloads small few birth opened = record {
  birth = opened.birth ∙ birth;
  headed = opened.headed;
  behind = rewritten old left epoch payloads small few (record { birth = opened.birth ∙ birth; behind = by_body old left (body_of epoch payloads) opened.behind });
}

-- what then stands there
not_open : (bytes : List ℕ) (b : Bool) → is_open bytes ≡ b → length bytes < 11 → is_open bytes ≡ false
not_open bytes false is short = is
not_open bytes true is short = let long = open_long bytes is in absurd (omega (arith, long, short))

renewed_gate : (old body : List ℕ) → 2 ≤ length old → slice_index (take 1 old ++ 1 ∷ body) 1 ≡ 1
renewed_gate [] body two = absurd (omega (arith, two))
renewed_gate (b ∷ old) body two = refl

is_read : (new first : List ℕ) (epoch : ℕ) (payloads : List (List ℕ)) → is_open new ≡ true → is_open first ≡ false → IsClosedOrOld first new ⊎ IsGroups epoch payloads new → IsGroups epoch payloads new
is_read new first epoch payloads opened none (inl (inl closed)) = absurd (let never : true ≡ false = sym opened ∙ closed in cc)
is_read new first epoch payloads opened none (inl (inr was)) = absurd (let never : true ≡ false = sym was.0 ∙ none in cc)
is_read new first epoch payloads opened none (inr groups) = groups

pub renewed_groups : (old new : List ℕ) (epoch : ℕ) (payloads : List (List ℕ)) → 2 ≤ length old → epoch < 2 ^ 64 → length (spelled payloads) < 2 ^ 64 → new ≡ renewed old epoch payloads → IsGroups epoch payloads new
renewed_groups old new epoch payloads two small few is =
    let body = body_of epoch payloads in
    let size : length new ≡ 2 + length body = ap length is ∙ omega (arith, length-append (take 1 old) (1 ∷ body), length-take-le 1 old (omega (arith, two))) in
    let long : 11 ≤ length new = omega (arith, size, length-append (eight_bytes epoch ++ spelled payloads) (0 ∷ []), length-append (eight_bytes epoch) (spelled payloads), length-eight epoch) in
    let gate : slice_index new 1 ≡ 1 = ap (λ (l : List ℕ). slice_index l 1) is ∙ renewed_gate old body two in
    let there : piece 2 (length body) new ≡ body = ap (λ (l : List ℕ). piece 2 (length body) l) is ∙ new_piece old body two in
    let first = take 1 new in
    let one : length first ≡ 1 = length-take-le 1 new (omega (arith, long)) in
    let birth : is_born new ≡ is_born first = sym (born_same 1 first new (take-take 1 1 new (omega arith)) (omega arith) (omega (arith, one)) (omega (arith, long))) in
    is_read new first epoch payloads (open_by new long gate) (not_open first (is_open first) refl (omega (arith, one)))
    (rewritten first new epoch payloads small few (record { birth = birth; behind = inr there }))

-- the same for whatever text was written
same_text : (p : Pending) (bytes : List ℕ) (end : ℕ) (text other : List ℕ) → IsStaged p bytes end text → IsStaged p bytes end other → text ≡ other
same_text p bytes end text other one two = append_cancel_left (take 2 bytes) text other (sym one.text_is ∙ two.text_is)

pub opened_moments : (before m : Moment) (file : FileKind) (front staged : List ℕ) (p : Pending) (end : ℕ) (text : List ℕ) → IsStaged p front end text → 10 ≤ end → ((text : List ℕ) → IsStaged p front end text → staged ≡ take 2 front ++ (text ++ 0 ∷ [])) → disk_of before file ≡ settled staged
    → IsWriting before file 1 (1 ∷ []) staged m → OneFile before file (λ left. (text : List ℕ) → IsStaged p front end text → IsOpened front (text ++ 0 ∷ []) left) m
opened_moments before m file front staged p end text is long bytes disk writing =
    one_weaker before m file
    (opened_moment before m file front (text ++ 0 ∷ []) staged is.kept.within (omega (arith, is.size, long, length-append text (0 ∷ []))) (bytes text is) disk writing)
    (λ left opened other there. subst (λ (l : List ℕ). IsOpened front (l ++ 0 ∷ []) left) (same_text p front end text other is there) opened)

pub on_ok : {T E P Q : Type 0} (result : Result T E) → OnOk result P → (P → Q) → OnOk result Q
on_ok (Ok x) p f = f p
on_ok (Err e) p f = tt

-- the file with its open gate
pub finished : (staged new front text : List ℕ) → 2 ≤ length front → staged ≡ take 2 front ++ (text ++ 0 ∷ []) → new ≡ overwrite staged 1 (1 ∷ []) → new ≡ take 1 front ++ 1 ∷ (text ++ 0 ∷ [])
finished staged new front text two is new_is = new_is ∙ ap (λ (l : List ℕ). overwrite l 1 (1 ∷ [])) is ∙ opened_is front (text ++ 0 ∷ []) two

-- no groups behind the epoch
pub opened_text : (front text left : List ℕ) → IsOpened front (text ++ 0 ∷ []) left → IsOpened front (text ++ [] ++ 0 ∷ []) left
opened_text front text left opened = subst (λ (l : List ℕ). IsOpened front (l ++ 0 ∷ []) left) (sym (append-nil text)) opened
