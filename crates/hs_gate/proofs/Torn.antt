-- What a crash leaves of a gated file.
use Rattle.std.proofs.Common.{◌≡◌, ◌⊎◌, ℕ, ◌+◌, ◌<◌, ◌≤◌, ◌^◌, ◌==◌, Bool, true, false, Result, Ok, Err, List, [], ◌∷◌, ◌++◌, length, take, drop, get_or, inl, inr, refl, sym, ◌∙◌, ap, subst, arith, append_assoc, take-append-drop}
use Rattle.std.proofs.lemmas.List.{take_at, drop-drop, drop_more, get_or-take, get_or-drop}
use Rattle.std.proofs.lemmas.Bool.{eqb-true}
use Rattle.std.proofs.lemmas.Grind.{same_number_lists}
use Rattle.hs_host.specs.declared.file_kind.FileKind.{FileKind}
use Rattle.hs_host.specs.Files.{Five, of, piece, overwrite}
use Rattle.hs_host.specs.declared.host_fault.HostFault.{HostFault}
use Rattle.hs_host.specs.Disk.{Pending, MayLeave, settled, written_at, cut_to}
use Rattle.hs_host.specs.Prefixes.{KeepsPrefix}
use Rattle.hs_host.specs.Moments.{Moment, History, OneFile, IsCut, IsSyncing, disk_of}
use Rattle.hs_host.proofs.Changing.{same_disk}
use Rattle.hs_host.proofs.Torn.{front_stays}
use Rattle.hs_gate.specs.declared.gated.Gated.{Gated}
use Rattle.hs_gate.specs.declared.found.Found.TheVariants.{Closed}
use Rattle.hs_gate.specs.Groups.{spelled, end_of, groups_of, and_groups}
use Rattle.hs_gate.specs.Gated.{IsGated, appended}
use Rattle.hs_gate.specs.Scan.{found_in}
use Rattle.hs_gate.specs.Crash.{StandsOnDisk, IsAsBefore, IsBeforeOrAfter, BeginsWith, HasBehind, IsPut, IsWriting, called, done}
use Rattle.hs_gate.proofs.Pieces.{take_same, length-piece, take-overwrite, drop-overwrite, length-overwrite, overwrite_before}
use Rattle.hs_gate.proofs.Fronts.{end_within, groups_stay, groups_grow, front_groups, header_stays}
use Rattle.hs_gate.proofs.Moments.{settled_keeps, written_keeps, cut_keeps}

-- what begins with the file up to the gate that ends its groups is read as it
pub as_before : (files : Five (List ℕ)) (gated : Gated) (left : List ℕ) → IsGated files gated → BeginsWith (gated.end + 1) (of files gated.file) left → IsAsBefore (of files gated.file) left
as_before files gated left stands begins =
    let bytes = of files gated.file in
    let end : gated.end ≡ end_of (groups_of bytes).payloads = ap (λ (g : Gated). g.end) stands.front.is in
    let same : take (end_of (groups_of bytes).payloads + 1) left ≡ take (end_of (groups_of bytes).payloads + 1) bytes = rw end at begins.0 in
    record {
      header = header_stays left bytes stands.front.opened (take_same 10 (gated.end + 1) left bytes begins.0 (omega (arith, end))) (omega (arith, begins.1, end));
      groups = front_groups left bytes stands.front.opened stands.whole same (omega (arith, begins.1, end));
    }

pub gate_within : (files : Five (List ℕ)) (gated : Gated) → IsGated files gated → gated.end + 1 ≤ length (of files gated.file)
gate_within files gated stands = let lt = end_within files gated stands.front in omega (arith, lt)

-- what stands behind a write stays
pub stays_behind : (synced left : List ℕ) (at count from size : ℕ) → MayLeave (written_at at count (settled synced)) left → at + count ≤ from → from + size ≤ length synced → piece from size left ≡ piece from size synced
stays_behind synced left at count from size may behind within =
    let few : length (piece from size left) ≡ size = length-piece from size left (omega (arith, may.long, within)) in
    same_number_lists (piece from size left) (piece from size synced)
    (few ∙ sym (length-piece from size synced within))
    (λ k h.
    let below : k < size = omega (arith, h, few) in
    rw (get_or-take, get_or-drop, get_or-take, get_or-drop) (may.same (from + k) (omega (arith, below, within)) (λ covered. elim covered [ inl here ↦ omega (arith, here.1, behind) | inr none ↦ none ])))

-- what was written one place behind a gate
pub put_behind : (old : List ℕ) (at : ℕ) (bytes : List ℕ) → at < length old → piece (at + 1) (length bytes) (overwrite old (at + 1) bytes) ≡ bytes
put_behind old at bytes within =
    ap (λ (l : List ℕ). take (length bytes) l) (drop-overwrite old (at + 1) bytes (omega (arith, within)))
    ∙ take_at bytes (drop (at + 1 + length bytes) old) (length bytes) refl

-- a crash while a gate is written, once bytes stand behind it
put_torn : (old staged left bytes : List ℕ) (at : ℕ) → at < length old → staged ≡ overwrite old (at + 1) bytes → MayLeave (written_at at 1 (settled staged)) left → HasBehind old at bytes left
put_torn old staged left bytes at within staged_is may =
    let long : at + 1 + length bytes ≤ length staged = omega (arith, ap length staged_is, length-overwrite old (at + 1) bytes (omega (arith, within))) in
    let front : take at staged ≡ take at old =
    take_same at (at + 1) staged old (ap (λ (l : List ℕ). take (at + 1) l) staged_is ∙ take-overwrite old (at + 1) bytes (omega (arith, within))) (omega arith) in
    let keeps = written_keeps (settled staged) at 1 at old (settled_keeps staged old at (omega (arith, long)) front) (omega arith) in
    record {
      long = omega (arith, may.long, long);
      front = (front_stays (written_at at 1 (settled staged)) at old left keeps may).0;
      there = stays_behind staged left at 1 (at + 1) (length bytes) may (omega arith) long ∙ ap (λ (l : List ℕ). piece (at + 1) (length bytes) l) staged_is ∙ put_behind old at bytes within;
    }

put_done : (old left bytes : List ℕ) (at : ℕ) → at < length old → left ≡ overwrite old at (1 ∷ bytes) → HasBehind old at bytes left
put_done old left bytes at within is =
    let le : at ≤ length old = omega (arith, within) in
    record {
      long = omega (arith, ap length is, length-overwrite old at (1 ∷ bytes) le);
      front = ap (λ (l : List ℕ). take at l) is ∙ take-overwrite old at (1 ∷ bytes) le;
      there =
          ap (λ (l : List ℕ). piece (at + 1) (length bytes) l) is
          ∙ ap (λ (l : List ℕ). take (length bytes) l) (sym (drop-drop 1 at (overwrite old at (1 ∷ bytes))) ∙ ap (λ (l : List ℕ). drop 1 l) (drop-overwrite old at (1 ∷ bytes) le))
          ∙ take_at bytes (drop (at + length (1 ∷ bytes)) old) (length bytes) refl;
    }

-- the moments while a gate is opened
pub put_moment : (before m : Moment) (file : FileKind) (old staged bytes : List ℕ) (at : ℕ) → at < length old → staged ≡ overwrite old (at + 1) bytes → disk_of before file ≡ settled staged
    → IsWriting before file at (1 ∷ []) staged m → OneFile before file (IsPut old at bytes) m
put_moment before m file old staged bytes at within staged_is quiet (called written) = record {
  disk = written_at at 1 (disk_of before file);
  is = written;
  each = λ left leaves. inr (put_torn old staged left bytes at within staged_is (subst (λ (p : Pending). MayLeave (written_at at 1 p) left) quiet leaves));
}
put_moment before m file old staged bytes at within staged_is quiet (done synced) = record {
  disk = settled (overwrite staged at (1 ∷ []));
  is = synced;
  each = λ left leaves. inr (put_done old left bytes at within (leaves ∙ ap (λ (l : List ℕ). overwrite l at (1 ∷ [])) staged_is ∙ overwrite_before old at 1 bytes within));
}

-- by the byte at the gate's place, the groups are as before or these more
gate_case : (left old rest : List ℕ) (more : List (List ℕ)) (tail : List ℕ) (gate : ℕ) (is_one : Bool) → (gate == 1) ≡ is_one → (groups_of old).is_broken ≡ false → length (spelled more) < 2 ^ 64 → spelled more ≡ 1 ∷ tail
    → take (end_of (groups_of old).payloads) left ≡ take (end_of (groups_of old).payloads) old → end_of (groups_of old).payloads < length left
    → drop (end_of (groups_of old).payloads) left ≡ gate ∷ ((tail ++ 0 ∷ []) ++ rest)
    → (groups_of left ≡ groups_of old) ⊎ (groups_of left ≡ and_groups more (groups_of old))
gate_case left old rest more tail gate true one closed small is same long there =
    inr (groups_grow left old rest more closed small same long
    (there ∙ ap (λ (g : ℕ). g ∷ ((tail ++ 0 ∷ []) ++ rest)) (eqb-true gate 1 one) ∙ ap (λ (l : List ℕ). 1 ∷ l) (append_assoc tail (0 ∷ []) rest) ∙ ap (λ (l : List ℕ). l ++ 0 ∷ rest) (sym is)))
gate_case left old rest more tail gate false other closed small is same long there =
    let no : found_in (gate ∷ ((tail ++ 0 ∷ []) ++ rest)) ≡ Closed = rw other refl in
    inl (groups_stay left old closed same long (ap found_in there ∙ no))

-- what is put behind the gate that ends the groups
pub put_groups : (files : Five (List ℕ)) (gated : Gated) (more : List (List ℕ)) (tail left : List ℕ) → IsGated files gated → length (spelled more) < 2 ^ 64 → spelled more ≡ 1 ∷ tail
    → IsPut (of files gated.file) gated.end (tail ++ 0 ∷ []) left → IsBeforeOrAfter (of files gated.file) more left
put_groups files gated more tail left stands small is (inl begins) = let stays = as_before files gated left stands begins in record { header = stays.header; groups = inl stays.groups }
put_groups files gated more tail left stands small is (inr has) =
    let old = of files gated.file in
    let end = gated.end in
    let size = length (tail ++ 0 ∷ []) in
    let end_is : end ≡ end_of (groups_of old).payloads = ap (λ (g : Gated). g.end) stands.front.is in
    let longer : end < length left = omega (arith, has.long) in
    let rest = drop size (drop (end + 1) left) in
    let there : drop end left ≡ get_or left end 0 ∷ ((tail ++ 0 ∷ []) ++ rest) =
    drop_more left end 0 longer ∙ ap (λ (l : List ℕ). get_or left end 0 ∷ l) (sym (take-append-drop size (drop (end + 1) left)) ∙ ap (λ (l : List ℕ). l ++ rest) has.there) in
    record {
      header = header_stays left old stands.front.opened (take_same 10 end left old has.front (omega (arith, end_is))) (omega (arith, has.long, end_is));
      groups = gate_case left old rest more tail (get_or left end 0) (get_or left end 0 == 1) refl stands.whole small is (rw end_is at has.front) (rw end_is at longer) (ap (λ (n : ℕ). drop n left) (sym end_is) ∙ there);
    }

-- and what is then read
pub append_put : (old : List ℕ) (end : ℕ) (more : List (List ℕ)) (tail new : List ℕ) → spelled more ≡ 1 ∷ tail → new ≡ overwrite old end (1 ∷ (tail ++ 0 ∷ [])) → new ≡ appended old end more
append_put old end more tail new is put = put ∙ ap (λ (l : List ℕ). overwrite old end (l ++ 0 ∷ [])) (sym is)

pub spelled_first : (more : List (List ℕ)) → 0 < length more → spelled more ≡ 1 ∷ drop 1 (spelled more)
spelled_first [] some = absurd (omega (arith, some))
spelled_first (p ∷ ps) some = refl

-- a file that was just synced stands on the disk
pub settled_stands : (h : History) (files : Five (List ℕ)) (gated : Gated) → IsGated files gated → disk_of h.now gated.file ≡ settled (of files gated.file) → StandsOnDisk h files gated
settled_stands h files gated stands quiet = record {
  stands = stands;
  calm = subst (λ (p : Pending). KeepsPrefix p (gated.end + 1) (of files gated.file)) (sym quiet) (settled_keeps (of files gated.file) (of files gated.file) (gated.end + 1) (gate_within files gated stands) refl);
}

-- the sync of a file that was read, which may fail
pub settle_synced : {T : Type 0} (before m : Moment) (files : Five (List ℕ)) (gated : Gated) (result : Result T HostFault) → IsGated files gated → IsSyncing before gated.file (of files gated.file) result m
    → OneFile before gated.file (λ left. KeepsPrefix (disk_of before gated.file) (gated.end + 1) (of files gated.file) → IsAsBefore (of files gated.file) left) m
settle_synced before m files gated (Ok x) stands is = record {
  disk = settled (of files gated.file);
  is = is;
  each = λ left leaves calm. as_before files gated left stands
      (front_stays (settled (of files gated.file)) (gated.end + 1) (of files gated.file) left (settled_keeps (of files gated.file) (of files gated.file) (gated.end + 1) (gate_within files gated stands) refl) leaves);
}
settle_synced before m files gated (Err e) stands is = record {
  disk = disk_of before gated.file;
  is = same_disk before m gated.file is;
  each = λ left leaves calm. as_before files gated left stands (front_stays (disk_of before gated.file) (gated.end + 1) (of files gated.file) left calm leaves);
}

-- and then its cut behind the gate that ends its groups
pub settle_cut : {P : Type 0} (before m : Moment) (files : Five (List ℕ)) (gated : Gated) (len : ℕ) → IsGated files gated → gated.end + 1 ≤ len → KeepsPrefix (disk_of before gated.file) (gated.end + 1) (of files gated.file) → IsCut before gated.file len m
    → OneFile before gated.file (λ left. P → IsAsBefore (of files gated.file) left) m
settle_cut before m files gated len stands le keeps is = record {
  disk = cut_to len (disk_of before gated.file);
  is = is;
  each = λ left leaves any. as_before files gated left stands
      (front_stays (cut_to len (disk_of before gated.file)) (gated.end + 1) (of files gated.file) left (cut_keeps (disk_of before gated.file) len (gated.end + 1) (of files gated.file) keeps le) leaves);
}
