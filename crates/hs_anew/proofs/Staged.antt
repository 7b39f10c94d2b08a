-- Text that is written behind a closed header gate, call after call.
use Rattle.std.proofs.Common.{◌≡◌, ℕ, ◌+◌, ◌-◌, ◌≤◌, List, [], ◌∷◌, ◌++◌, length, take, drop, refl, sym, ◌∙◌, ap, subst, arith, append_assoc, length-append}
use Rattle.std.proofs.lemmas.List.{append-nil, take_at, drop_at, take-take, take_all, length-take-le}
use Rattle.std.proofs.Math.Seq.{take-append-add}
use Rattle.hs_host.specs.declared.file_kind.FileKind.{FileKind}
use Rattle.hs_host.specs.Disk.{Pending}
use Rattle.hs_host.specs.Files.{of, piece, overwrite}
use Rattle.hs_host.specs.declared.source.Source as source
use Rattle.hs_host.specs.declared.host.Host as host
use Rattle.hs_host.specs.Used.{Told, ChangesFile}
use Rattle.hs_host.proofs.Used.{changes_on, changes_weaker, told_back}
use Rattle.hs_host.specs.Moments.{Moment, OneFile, IsWritten, disk_of}
use Rattle.hs_gate.specs.Crash.{BeginsWith}
use Rattle.hs_gate.specs.Groups.{group, spelled, eight_bytes}
use Rattle.hs_gate.specs.Rewriting.{IsKept}
use Rattle.hs_gate.proofs.Gates.{same_gate}
use Rattle.hs_gate.proofs.Moments.{begins_written, keeps_written, keeps_same}
use Rattle.hs_gate.proofs.Numbers.{length-eight}
use Rattle.hs_gate.proofs.Spelling.{spelled-append}
use Rattle.hs_gate.proofs.Pieces.{take_same, length-overwrite, length-overwrite_within, take-overwrite, take_behind-overwrite, piece_of_front}
use Rattle.hs_anew.specs.Staging.{IsStaged, head_before}

-- behind the gate nothing of what a crash leaves changes it
pub staged_moment : (before m : Moment) (file : FileKind) (bytes text : List ℕ) (at count end : ℕ) → IsStaged (disk_of before file) bytes end text → 2 ≤ at → IsWritten before file at count m → OneFile before file (BeginsWith 2 bytes) m
staged_moment before m file bytes text at count end staged le is = begins_written before m file at count 2 bytes staged.kept.keeps le is

pub staged_from : (p : Pending) (bytes : List ℕ) (end : ℕ) (text : List ℕ) → IsStaged p bytes end text → 2 ≤ end
staged_from p bytes end text staged = omega (arith, staged.size)

-- a write from a place behind the gate on keeps the gate
kept_on : (before m : Moment) (file : FileKind) (old new bytes : List ℕ) (at : ℕ) → IsKept (disk_of before file) 2 old → 2 ≤ at → at ≤ length old → IsWritten before file at (length bytes) m → new ≡ overwrite old at bytes
    → IsKept (disk_of m file) 2 new × (take 2 new ≡ take 2 old)
kept_on before m file old new bytes at kept le within is new_is =
    let front : take 2 new ≡ take 2 old = ap (λ (l : List ℕ). take 2 l) new_is ∙ take_same 2 at (overwrite old at bytes) old (take-overwrite old at bytes within) le in
    let long = length-overwrite old at bytes within in
    (record { within = omega (arith, ap length new_is, long, le); keeps = keeps_same (disk_of m file) 2 new old (keeps_written before m file at (length bytes) 2 old kept.keeps le is) front }, front)

pub staged_on : (before m : Moment) (file : FileKind) (old new text bytes : List ℕ) (at : ℕ) → IsStaged (disk_of before file) old at text → IsWritten before file at (length bytes) m → new ≡ overwrite old at bytes → IsStaged (disk_of m file) new (at + length bytes) (text ++ bytes)
staged_on before m file old new text bytes at staged is new_is =
    let le = staged_from (disk_of before file) old at text staged in
    let k = kept_on before m file old new bytes at staged.kept le staged.within is new_is in
    let long = length-overwrite old at bytes staged.within in
    record {
      kept = k.0;
      closed = same_gate old new k.1 staged.closed;
      within = omega (arith, ap length new_is, long);
      size = omega (arith, staged.size, length-append text bytes);
      text_is =
          ap (λ (l : List ℕ). take (at + length bytes) l) new_is ∙ take_behind-overwrite old at bytes staged.within
          ∙ ap (λ (l : List ℕ). l ++ bytes) (staged.text_is ∙ ap (λ (l : List ℕ). l ++ text) (sym k.1))
          ∙ append_assoc (take 2 new) text bytes;
    }

pub staged_front : (before m : Moment) (file : FileKind) (old new text bytes : List ℕ) (at : ℕ) → IsStaged (disk_of before file) old at text → IsWritten before file at (length bytes) m → new ≡ overwrite old at bytes → take 2 new ≡ take 2 old
staged_front before m file old new text bytes at staged is new_is =
    (kept_on before m file old new bytes at staged.kept (staged_from (disk_of before file) old at text staged) staged.within is new_is).1

-- the room in front of a payload is filled

fills : (front nine payload old : List ℕ) (head : List ℕ) (at end : ℕ) → length front ≡ at → length nine ≡ length head → end ≡ at + length head + length payload → take end old ≡ (front ++ nine) ++ payload → at ≤ length old
    → take end (overwrite old at head) ≡ (front ++ head) ++ payload
fills front nine payload old head at end size same end_is is within =
    let n = length head in
    let first : take at old ≡ front =
    sym (take-take at end old (omega (arith, end_is))) ∙ ap (λ (l : List ℕ). take at l) (is ∙ append_assoc front nine payload) ∙ take_at front (nine ++ payload) at size in
    let behind : take (length payload) (drop (at + n) old) ≡ payload =
    piece_of_front (at + n) (length payload) end old (omega (arith, end_is)) ∙ ap (λ (l : List ℕ). piece (at + n) (length payload) l) is
    ∙ ap (λ (l : List ℕ). take (length payload) l) (drop_at (front ++ nine) payload (at + n) (omega (arith, length-append front nine, size, same)))
    ∙ take_all (length payload) payload (omega arith) in
    let whole : length (take at old ++ head) ≡ at + n = omega (arith, length-append (take at old) head, length-take-le at old within) in
    ap (λ (k : ℕ). take k (overwrite old at head)) (end_is ∙ ap (λ (k : ℕ). k + length payload) (sym whole))
    ∙ take-append-add (take at old ++ head) (drop (at + n) old) (length payload)
    ∙ ap (λ (l : List ℕ). (take at old ++ head) ++ l) behind ∙ ap (λ (l : List ℕ). (l ++ head) ++ payload) first

pub head_written : (before m : Moment) (file : FileKind) (old new text nine payload : List ℕ) (at end : ℕ) → at ≡ 2 + length text → length nine ≡ 9 → IsStaged (disk_of before file) old end ((text ++ nine) ++ payload)
    → IsWritten before file at (length (head_before (length payload))) m → new ≡ overwrite old at (head_before (length payload)) → IsStaged (disk_of m file) new end (text ++ group payload)
head_written before m file old new text nine payload at end at_is room staged is new_is =
    let head = head_before (length payload) in
    let nine_is : length head ≡ 9 = omega (arith, length-eight (length payload)) in
    let size : end ≡ at + length head + length payload = omega (arith, staged.size, at_is, length-append (text ++ nine) payload, length-append text nine, room, nine_is) in
    let within : at ≤ length old = omega (arith, staged.within, size) in
    let k = kept_on before m file old new head at staged.kept (omega (arith, at_is)) within is new_is in
    let long = length-overwrite old at head within in
    let two : length (take 2 old) ≡ 2 = length-take-le 2 old (omega (arith, staged.kept.within)) in
    let whole : take end old ≡ ((take 2 old ++ text) ++ nine) ++ payload =
    staged.text_is ∙ sym (append_assoc (take 2 old) (text ++ nine) payload) ∙ ap (λ (l : List ℕ). l ++ payload) (sym (append_assoc (take 2 old) text nine)) in
    record {
      kept = k.0;
      closed = same_gate old new k.1 staged.closed;
      within = omega (arith, ap length new_is, staged.within, length-overwrite_within old at head (omega (arith, staged.within, size)));
      size = omega (arith, size, at_is, length-append text (group payload), length-append head payload);
      text_is =
          ap (λ (l : List ℕ). take end l) new_is
          ∙ fills (take 2 old ++ text) nine payload old head at end (omega (arith, length-append (take 2 old) text, two, at_is)) (room ∙ sym nine_is) size whole within
          ∙ ap (λ (l : List ℕ). ((l ++ text) ++ head) ++ payload) (sym k.1)
          ∙ append_assoc (take 2 new ++ text) head payload ∙ append_assoc (take 2 new) text (head ++ payload);
    }

-- one call that leaves the gate alone behind others that did
pub begins_on : {H : Type 0} {s : source.Ghosts H} {g : host.Ghosts H} {file : FileKind} {a b c : H} → (Told s g a → take 2 (of (g.files b) file) ≡ take 2 (of (g.files a) file)) → ChangesFile s g file (BeginsWith 2 (of (g.files a) file)) a b
    → ChangesFile s g file (BeginsWith 2 (of (g.files b) file)) b c → ChangesFile s g file (BeginsWith 2 (of (g.files a) file)) a c
begins_on front ab bc = changes_on ab (changes_weaker bc (λ later left begins. (begins.0 ∙ front (told_back ab.uses later), begins.1)))

-- no text more, and then some
pub staged_nil : (p : Pending) (bytes : List ℕ) (end : ℕ) (text rest : List ℕ) → IsStaged p bytes end text → (part : List ℕ) × IsStaged p bytes end (text ++ part) × (part ++ rest ≡ rest)
staged_nil p bytes end text rest staged = ([], subst (λ (l : List ℕ). IsStaged p bytes end l) (sym (append-nil text)) staged, refl)

pub staged_more : (p : Pending) (bytes : List ℕ) (end : ℕ) (text part piece rest more whole : List ℕ) → IsStaged p bytes end ((text ++ part) ++ piece) → part ++ rest ≡ whole → rest ≡ piece ++ more
    → (all : List ℕ) × IsStaged p bytes end (text ++ all) × (all ++ more ≡ whole)
staged_more p bytes end text part piece rest more whole staged so_far is =
    (part ++ piece, subst (λ (l : List ℕ). IsStaged p bytes end l) (append_assoc text part piece) staged, append_assoc part piece more ∙ ap (λ (l : List ℕ). part ++ l) (sym is) ∙ so_far)

pub staged_whole : (p : Pending) (bytes : List ℕ) (end : ℕ) (text part rest whole : List ℕ) → IsStaged p bytes end (text ++ part) → part ++ rest ≡ whole → rest ≡ [] → IsStaged p bytes end (text ++ whole)
staged_whole p bytes end text part rest whole staged so_far none =
    subst (λ (l : List ℕ). IsStaged p bytes end (text ++ l)) (sym (append-nil part) ∙ ap (λ (l : List ℕ). part ++ l) (sym none) ∙ so_far) staged

-- the text is ended with a closed gate, and nothing stands behind it
pub sealed_is : (p : Pending) (bytes : List ℕ) (end : ℕ) (text new : List ℕ) → IsStaged p bytes end text → new ≡ take end bytes → new ≡ take 2 bytes ++ text
sealed_is p bytes end text new staged is = is ∙ staged.text_is

pub two_kept : (p : Pending) (bytes : List ℕ) (end : ℕ) (text : List ℕ) → IsStaged p bytes end text → IsKept p 2 bytes
two_kept p bytes end text staged = staged.kept

-- the epoch is the first of the text
pub begun_is : (p : Pending) (bytes : List ℕ) (end : ℕ) (text : List ℕ) (epoch : ℕ) → IsStaged p bytes end text → text ≡ eight_bytes epoch → IsStaged p bytes 10 (eight_bytes epoch)
begun_is p bytes end text epoch staged is =
    let at : end ≡ 10 = omega (arith, staged.size, ap length is, length-eight epoch) in
    subst (λ (n : ℕ). IsStaged p bytes n (eight_bytes epoch)) at (subst (λ (l : List ℕ). IsStaged p bytes end l) is staged)

-- the same for groups
pub groups_nil : (p : Pending) (bytes : List ℕ) (end : ℕ) (text : List ℕ) (left : List (List ℕ)) → IsStaged p bytes end text → (given : List (List ℕ)) × IsStaged p bytes end (text ++ spelled given) × (given ++ left ≡ left)
groups_nil p bytes end text left staged = ([], subst (λ (l : List ℕ). IsStaged p bytes end l) (sym (append-nil text)) staged, refl)

one_more : (given : List (List ℕ)) (payload : List ℕ) → spelled given ++ group payload ≡ spelled (given ++ payload ∷ [])
one_more given payload = ap (λ (l : List ℕ). spelled given ++ l) (sym (append-nil (group payload))) ∙ sym (spelled-append given (payload ∷ []))

pub groups_more : (p : Pending) (bytes : List ℕ) (end : ℕ) (text payload : List ℕ) (given left more whole : List (List ℕ)) → IsStaged p bytes end ((text ++ spelled given) ++ group payload) → given ++ left ≡ whole → left ≡ payload ∷ more
    → (all : List (List ℕ)) × IsStaged p bytes end (text ++ spelled all) × (all ++ more ≡ whole)
groups_more p bytes end text payload given left more whole staged so_far is = (
  given ++ payload ∷ [],
  subst (λ (l : List ℕ). IsStaged p bytes end l) (append_assoc text (spelled given) (group payload) ∙ ap (λ (l : List ℕ). text ++ l) (one_more given payload)) staged,
  append_assoc given (payload ∷ []) more ∙ ap (λ (l : List (List ℕ)). given ++ l) (sym is) ∙ so_far,
)

pub groups_whole : (p : Pending) (bytes : List ℕ) (end : ℕ) (text : List ℕ) (given left whole : List (List ℕ)) → IsStaged p bytes end (text ++ spelled given) → given ++ left ≡ whole → left ≡ [] → IsStaged p bytes end (text ++ spelled whole)
groups_whole p bytes end text given left whole staged so_far none =
    subst (λ (l : List (List ℕ)). IsStaged p bytes end (text ++ spelled l)) (sym (append-nil given) ∙ ap (λ (l : List (List ℕ)). given ++ l) (sym none) ∙ so_far) staged

pub headed_front : (before m : Moment) (file : FileKind) (old new text head : List ℕ) (at end : ℕ) → IsStaged (disk_of before file) old end text → 2 ≤ at → at ≤ length old → IsWritten before file at (length head) m → new ≡ overwrite old at head → take 2 new ≡ take 2 old
headed_front before m file old new text head at end staged le within is new_is = (kept_on before m file old new head at staged.kept le within is new_is).1

pub headed_is : (before m : Moment) (file : FileKind) (old new text nine payload head : List ℕ) (at end first : ℕ) → at ≡ 2 + length text → length nine ≡ 9 → IsStaged (disk_of before file) old end ((text ++ nine) ++ payload) → first ≡ at + 9 → head ≡ head_before (end - first)
    → IsWritten before file at (length head) m → new ≡ overwrite old at head → IsStaged (disk_of m file) new end (text ++ group payload)
headed_is before m file old new text nine payload head at end first at_is room staged first_is head_is is new_is =
    let size : end - first ≡ length payload = omega (arith, staged.size, at_is, first_is, room, length-append (text ++ nine) payload, length-append text nine) in
    let same : head ≡ head_before (length payload) = head_is ∙ ap head_before size in
    head_written before m file old new text nine payload at end at_is room staged (subst (λ (l : List ℕ). IsWritten before file at (length l) m) same is) (new_is ∙ ap (λ (l : List ℕ). overwrite old at l) same)
