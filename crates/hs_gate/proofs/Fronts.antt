-- A gated file whose bytes before a place stay as they were.
use Rattle.std.proofs.Common.{◌≡◌, ℕ, ◌+◌, ◌*◌, ◌<◌, ◌≤◌, ◌^◌, ◌==◌, ◌&&◌, nat_le, nat_lt, Bool, true, false, List, [], ◌∷◌, ◌++◌, length, take, drop, get_or, slice_index, refl, sym, ◌∙◌, ap, arith, append_assoc, length-append, length-take, length-drop}
use Rattle.std.proofs.lemmas.List.{append-nil, get_or-take, drop_at, take-take}
use Rattle.std.proofs.lemmas.Bool.{leb-true, le-leb, lt-ltb}
use Rattle.hs_host.specs.declared.file_kind.FileKind.{FileKind}
use Rattle.hs_host.specs.Files.{Five, of, overwrite}
use Rattle.hs_gate.specs.declared.gated.Gated.{Gated}
use Rattle.hs_gate.specs.declared.found.Found.TheVariants.{Closed}
use Rattle.hs_gate.specs.Groups.{Groups, whole, is_open, is_born, epoch_of, eight_bytes, spelled, end_of, groups_at, groups_of, and_groups, is_whole, size_of, number_of}
use Rattle.hs_gate.specs.Crash.{HasSameHeader, HasMore}
use Rattle.hs_gate.specs.Scan.{found_in}
use Rattle.hs_gate.specs.Gated.{IsFront, IsGated, IsAtRest, gated_of, grown, appended, empty, started, created}
use Rattle.hs_gate.proofs.Numbers.{number_same, length-spelled_append, few_groups, length-eight, number_of_eight}
use Rattle.hs_gate.proofs.Pieces.{piece_same, take_same, take-overwrite, drop-overwrite, length-overwrite}
use Rattle.hs_gate.proofs.Steps.{groups-drop, closed_first, closed_there, chose_closed}
use Rattle.hs_gate.proofs.Carried.{walk, carry, prepend}
use Rattle.hs_gate.proofs.Spelling.{spelled_read}

both_true : (a b : Bool) → (a && b) ≡ true → (a ≡ true) × (b ≡ true)
both_true true b e = (refl, e)
both_true false b e = cc

pub open_long : (bytes : List ℕ) → is_open bytes ≡ true → 10 < length bytes
open_long bytes opened = let p = both_true (nat_le 11 (length bytes)) (slice_index bytes 1 == 1) opened in let le : 11 ≤ length bytes = leb-true 11 (length bytes) p.0 in omega (arith, le)

pub open_same : (new old : List ℕ) → is_open old ≡ true → take 10 new ≡ take 10 old → 10 < length new → is_open new ≡ true
open_same new old opened same long =
    let p = both_true (nat_le 11 (length old)) (slice_index old 1 == 1) opened in
    let second : slice_index new 1 ≡ slice_index old 1 = sym (get_or-take 10 new 1 0 (omega arith)) ∙ ap (λ (l : List ℕ). get_or l 1 0) same ∙ get_or-take 10 old 1 0 (omega arith) in
    let longer : nat_le 11 (length new) ≡ true = le-leb 11 (length new) (omega (arith, long)) in
    rw (longer, second) p.1

pub epoch_same : (new old : List ℕ) → take 10 new ≡ take 10 old → epoch_of new ≡ epoch_of old
epoch_same new old same = number_same (drop 2 new) (drop 2 old) (piece_same 2 8 10 new old same (omega arith))

-- files that begin with the same byte are both born or both not
pub born_by : (new old : List ℕ) → get_or new 0 0 ≡ get_or old 0 0 → 1 ≤ length new → 1 ≤ length old → is_born new ≡ is_born old
born_by new old same long enough =
    let some : nat_lt 0 (length new) ≡ true = lt-ltb 0 (length new) (omega (arith, long)) in
    let other : nat_lt 0 (length old) ≡ true = lt-ltb 0 (length old) (omega (arith, enough)) in
    rw (some, other, same) refl

no_too : (a : Bool) → (a && false) ≡ false
no_too true = refl
no_too false = refl

unborn_zero : (bytes : List ℕ) → is_born (0 ∷ bytes) ≡ false
unborn_zero bytes = no_too (nat_lt 0 (length (0 ∷ bytes)))

pub unborn_over : (bytes : List ℕ) → is_born (overwrite bytes 0 (0 ∷ 1 ∷ 0 ∷ 0 ∷ 0 ∷ 0 ∷ 0 ∷ 0 ∷ 0 ∷ 1 ∷ 0 ∷ [])) ≡ false
unborn_over bytes = unborn_zero (1 ∷ 0 ∷ 0 ∷ 0 ∷ 0 ∷ 0 ∷ 0 ∷ 0 ∷ 1 ∷ 0 ∷ drop 11 bytes)

pub get_same : (n i : ℕ) (a b : List ℕ) → take n a ≡ take n b → i < n → get_or a i 0 ≡ get_or b i 0
get_same n i a b same below = sym (get_or-take n a i 0 below) ∙ ap (λ (l : List ℕ). get_or l i 0) same ∙ get_or-take n b i 0 below

pub born_same : (n : ℕ) (new old : List ℕ) → take n new ≡ take n old → 0 < n → 1 ≤ length new → 1 ≤ length old → is_born new ≡ is_born old
born_same n new old same some long enough = born_by new old (get_same n 0 new old same some) long enough

-- where its groups end, a file has one more byte
pub front_within : (bytes : List ℕ) → is_open bytes ≡ true → end_of (groups_of bytes).payloads < length bytes
front_within bytes opened =
    let payloads = (groups_of bytes).payloads in
    (walk payloads [] 10 (end_of payloads) bytes (sym (append-nil payloads)) (open_long bytes opened) refl).within

pub end_within : (files : Five (List ℕ)) (gated : Gated) → IsFront files gated → gated.end < length (of files gated.file)
end_within files gated front =
    let end : gated.end ≡ end_of (groups_of (of files gated.file)).payloads = ap (λ (g : Gated). g.end) front.is in
    let within = front_within (of files gated.file) front.opened in
    omega (arith, end, within)

pub end_of_least : (payloads : List (List ℕ)) → length payloads * 9 + 10 ≤ end_of payloads
end_of_least payloads = omega (arith, few_groups payloads)

abbrev pub made : FileKind → ℕ → ℕ → ℕ → Gated
made file epoch groups end = record { file = file; epoch = epoch; groups = groups; end = end }

abbrev with_broken : List (List ℕ) → Bool → Groups
with_broken payloads is_broken = record { payloads = payloads; is_broken = is_broken }

-- bytes that begin with the same gate, which isn't open
closed_same : (new old : List ℕ) → take 1 new ≡ take 1 old → found_in old ≡ Closed → found_in new ≡ Closed
closed_same new [] same e = cc
closed_same [] (b ∷ bs) same e = cc
closed_same (gate ∷ behind) (b ∷ bs) same e = let gates : gate ≡ b = cc in rw (gates, chose_closed (b == 1) (is_whole bs) (size_of bs) e) refl

pub same_gated : (f h : FileKind) (e e' n n' p p' : ℕ) → f ≡ h → e ≡ e' → n ≡ n' → p ≡ p' → made f e n p ≡ made h e' n' p'
same_gated f h e e' n n' p p' fh ee nn pp = cc

-- where the bytes before the end of the groups are as before, and a gate that isn't open stands there, the groups are as before
pub groups_stay : (new bytes : List ℕ) → (groups_of bytes).is_broken ≡ false → take (end_of (groups_of bytes).payloads) new ≡ take (end_of (groups_of bytes).payloads) bytes
    → end_of (groups_of bytes).payloads < length new → found_in (drop (end_of (groups_of bytes).payloads) new) ≡ Closed → groups_of new ≡ groups_of bytes
groups_stay new bytes closed same long there =
    let payloads = (groups_of bytes).payloads in
    let end = end_of payloads in
    carry payloads 10 end new bytes refl refl same long
    ∙ ap (λ (g : Groups). prepend payloads g) (groups-drop end new ∙ closed_first (drop end new) there)
    ∙ ap (λ (b : Bool). with_broken (payloads ++ []) b) (sym closed)
    ∙ ap (λ (l : List (List ℕ)). with_broken l (groups_of bytes).is_broken) (append-nil payloads)

-- and where groups and a closed gate stand there, they are these more
pub groups_grow : (new bytes rest : List ℕ) (more : List (List ℕ)) → (groups_of bytes).is_broken ≡ false → length (spelled more) < 2 ^ 64 → take (end_of (groups_of bytes).payloads) new ≡ take (end_of (groups_of bytes).payloads) bytes
    → end_of (groups_of bytes).payloads < length new → drop (end_of (groups_of bytes).payloads) new ≡ spelled more ++ 0 ∷ rest → groups_of new ≡ and_groups more (groups_of bytes)
groups_grow new bytes rest more closed small same long tail =
    let payloads = (groups_of bytes).payloads in
    let end = end_of payloads in
    let last : groups_at end new ≡ whole more = groups-drop end new ∙ ap (λ (l : List ℕ). groups_at 0 l) tail ∙ spelled_read more rest small in
    carry payloads 10 end new bytes refl refl same long
    ∙ ap (λ (g : Groups). prepend payloads g) last
    ∙ ap (λ (b : Bool). with_broken (payloads ++ more) b) (sym closed)

-- these groups more in the bytes
pub append_groups : (bytes : List ℕ) (more : List (List ℕ)) → is_open bytes ≡ true → (groups_of bytes).is_broken ≡ false → length (spelled more) < 2 ^ 64
    → groups_of (appended bytes (end_of (groups_of bytes).payloads) more) ≡ and_groups more (groups_of bytes)
append_groups bytes more opened closed small =
    let end = end_of (groups_of bytes).payloads in
    let within : end < length bytes = front_within bytes opened in
    let body = spelled more ++ 0 ∷ [] in
    let new = appended bytes end more in
    let rest = drop (end + length body) bytes in
    groups_grow new bytes rest more closed small (take-overwrite bytes end body (omega (arith, within)))
    (omega (arith, length-overwrite bytes end body (omega (arith, within)), length-append (spelled more) (0 ∷ [])))
    (drop-overwrite bytes end body (omega (arith, within)) ∙ append_assoc (spelled more) (0 ∷ []) rest)

-- an open file that keeps its first bytes has the same header
pub header_stays : (new old : List ℕ) → is_open old ≡ true → take 10 new ≡ take 10 old → 10 < length new → HasSameHeader old new
header_stays new old opened same long = record {
  birth = born_same 10 new old same (omega arith) (omega (arith, long)) (omega (arith, open_long old opened));
  gate = open_same new old opened same long ∙ sym opened;
  epoch = epoch_same new old same;
}

-- and so in the file
pub append_gated : (old new : Five (List ℕ)) (gated : Gated) (more : List (List ℕ)) → IsGated old gated → length (spelled more) < 2 ^ 64
    → of new gated.file ≡ appended (of old gated.file) gated.end more
    → HasMore (of old gated.file) more (of new gated.file) × IsGated new (grown gated more)
append_gated old new gated more stands small is =
    let bytes = of old gated.file in
    let payloads = (groups_of bytes).payloads in
    let end = end_of payloads in
    let body = spelled more ++ 0 ∷ [] in
    let end_is : gated.end ≡ end = ap (λ (g : Gated). g.end) stands.front.is in
    let epoch_is : gated.epoch ≡ epoch_of bytes = ap (λ (g : Gated). g.epoch) stands.front.is in
    let count_is : gated.groups ≡ length payloads = ap (λ (g : Gated). g.groups) stands.front.is in
    let new_is : of new gated.file ≡ appended bytes end more = is ∙ ap (λ (n : ℕ). appended bytes n more) end_is in
    let within : end < length bytes = front_within bytes stands.front.opened in
    let groups : groups_of (of new gated.file) ≡ and_groups more (groups_of bytes) = ap groups_of new_is ∙ append_groups bytes more stands.front.opened stands.whole small in
    let now : (groups_of (of new gated.file)).payloads ≡ payloads ++ more = ap (λ (g : Groups). g.payloads) groups in
    let front : take 10 (of new gated.file) ≡ take 10 bytes =
    take_same 10 end (of new gated.file) bytes (ap (λ (l : List ℕ). take end l) new_is ∙ take-overwrite bytes end body (omega (arith, within))) (omega arith) in
    let long : 10 < length (of new gated.file) = omega (arith, ap length new_is, length-overwrite bytes end body (omega (arith, within)), length-append (spelled more) (0 ∷ [])) in
    let last : end_of (payloads ++ more) ≡ gated.end + length (spelled more) = omega (arith, length-spelled_append payloads more, end_is) in
    let count : length (payloads ++ more) ≡ gated.groups + length more = length-append payloads more ∙ ap (λ (n : ℕ). n + length more) (sym count_is) in (
      record { header = header_stays (of new gated.file) bytes stands.front.opened front long; groups = groups },
      record {
        front = record {
          opened = open_same (of new gated.file) bytes stands.front.opened front long;
          is = same_gated gated.file gated.file _ _ _ _ _ _ refl (epoch_is ∙ sym (epoch_same (of new gated.file) bytes front)) (sym count ∙ ap (λ (l : List (List ℕ)). length l) (sym now)) (sym last ∙ ap end_of (sym now));
        };
        whole = ap (λ (g : Groups). g.is_broken) groups ∙ stands.whole;
      },
    )

-- a file that ended with its closed gate ends with the new one
pub append_at_rest : (old new : Five (List ℕ)) (gated : Gated) (more : List (List ℕ)) → IsAtRest old gated → length (spelled more) < 2 ^ 64
    → of new gated.file ≡ appended (of old gated.file) gated.end more → IsAtRest new (grown gated more)
append_at_rest old new gated more rest small is = record {
  stands = (append_gated old new gated more rest.stands small is).1;
  last =
      let bytes = of old gated.file in
      let body = spelled more ++ 0 ∷ [] in
      let size : length body ≡ 1 + length (spelled more) = omega (arith, length-append (spelled more) (0 ∷ [])) in
      let front : length (take gated.end bytes) ≡ gated.end = omega (arith, length-take gated.end bytes, rest.last) in
      let none : length (drop (gated.end + length body) bytes) ≡ 0 = omega (arith, length-drop (gated.end + length body) bytes, rest.last, size) in
      omega (arith, ap length is, length-append (take gated.end bytes ++ body) (drop (gated.end + length body) bytes), length-append (take gated.end bytes) body, size, front, none);
}

-- what stands behind the gate may be other
pub front_groups : (new bytes : List ℕ) → is_open bytes ≡ true → (groups_of bytes).is_broken ≡ false → take (end_of (groups_of bytes).payloads + 1) new ≡ take (end_of (groups_of bytes).payloads + 1) bytes
    → end_of (groups_of bytes).payloads < length new → groups_of new ≡ groups_of bytes
front_groups new bytes opened closed same long =
    let payloads = (groups_of bytes).payloads in
    let end = end_of payloads in
    let on = walk payloads [] 10 end bytes (sym (append-nil payloads)) (open_long bytes opened) refl in
    let there : found_in (drop end bytes) ≡ Closed = closed_there end bytes on.rest (on.same ∙ closed) in
    let gate : take 1 (drop end new) ≡ take 1 (drop end bytes) = piece_same end 1 (end + 1) new bytes same (omega arith) in
    groups_stay new bytes closed (take_same end (end + 1) new bytes same (omega arith)) long (closed_same (drop end new) (drop end bytes) gate there)

-- or nothing
pub cut_groups : (bytes : List ℕ) → is_open bytes ≡ true → (groups_of bytes).is_broken ≡ false → groups_of (take (end_of (groups_of bytes).payloads + 1) bytes) ≡ groups_of bytes
cut_groups bytes opened closed =
    let end = end_of (groups_of bytes).payloads in
    let within : end < length bytes = front_within bytes opened in
    front_groups (take (end + 1) bytes) bytes opened closed (take-take (end + 1) (end + 1) bytes (omega arith)) (omega (arith, length-take (end + 1) bytes, within))

pub cut_gated : (old new : Five (List ℕ)) (gated : Gated) → IsGated old gated → of new gated.file ≡ take (gated.end + 1) (of old gated.file)
    → (groups_of (of new gated.file) ≡ groups_of (of old gated.file)) × IsAtRest new gated
cut_gated old new gated stands is =
    let bytes = of old gated.file in
    let payloads = (groups_of bytes).payloads in
    let end = end_of payloads in
    let end_is : gated.end ≡ end = ap (λ (g : Gated). g.end) stands.front.is in
    let new_is : of new gated.file ≡ take (end + 1) bytes = is ∙ ap (λ (n : ℕ). take (n + 1) bytes) end_is in
    let within : end < length bytes = front_within bytes stands.front.opened in
    let groups : groups_of (of new gated.file) ≡ groups_of bytes = ap groups_of new_is ∙ cut_groups bytes stands.front.opened stands.whole in
    let size : length (of new gated.file) ≡ end + 1 = omega (arith, ap length new_is, length-take (end + 1) bytes, within) in
    let front : take 10 (of new gated.file) ≡ take 10 bytes = ap (λ (l : List ℕ). take 10 l) new_is ∙ take-take 10 (end + 1) bytes (omega arith) in
    let long : 10 < length (of new gated.file) = omega (arith, size) in
    let same : gated_of gated.file (of new gated.file) (groups_of (of new gated.file)).payloads ≡ gated_of gated.file bytes payloads =
    ap (λ (g : Groups). gated_of gated.file (of new gated.file) g.payloads) groups ∙ ap (λ (n : ℕ). made gated.file n (length payloads) end) (epoch_same (of new gated.file) bytes front) in (
      groups,
      record {
        stands = record {
          front = record { opened = open_same (of new gated.file) bytes stands.front.opened front long; is = stands.front.is ∙ sym same };
          whole = ap (λ (g : Groups). g.is_broken) groups ∙ stands.whole;
        };
        last = omega (arith, size, end_is);
      },
    )

-- a file that has just begun
fresh_bytes : (birth epoch : ℕ) → epoch < 2 ^ 64 → (is_open (birth ∷ 1 ∷ eight_bytes epoch ++ 0 ∷ []) ≡ true) × (epoch_of (birth ∷ 1 ∷ eight_bytes epoch ++ 0 ∷ []) ≡ epoch)
    × (groups_of (birth ∷ 1 ∷ eight_bytes epoch ++ 0 ∷ []) ≡ whole []) × (length (birth ∷ 1 ∷ eight_bytes epoch ++ 0 ∷ []) ≡ 11)
fresh_bytes birth epoch small =
    let bytes = birth ∷ 1 ∷ eight_bytes epoch ++ 0 ∷ [] in
    let size : length bytes ≡ 11 = omega (arith, length-append (eight_bytes epoch) (0 ∷ []), length-eight epoch) in
    let tail : drop 10 bytes ≡ 0 ∷ [] = drop_at (eight_bytes epoch) (0 ∷ []) 8 (length-eight epoch) in (
      rw size refl,
      number_of_eight epoch (0 ∷ []) small,
      groups-drop 10 bytes ∙ ap (λ (l : List ℕ). groups_at 0 l) tail ∙ closed_first (0 ∷ []) refl,
      size,
    )

pub fresh : (files : Five (List ℕ)) (file : FileKind) (birth epoch : ℕ) → epoch < 2 ^ 64 → of files file ≡ birth ∷ 1 ∷ eight_bytes epoch ++ 0 ∷ [] → IsAtRest files (empty file epoch)
fresh files file birth epoch small is =
    let f = fresh_bytes birth epoch small in
    let groups : groups_of (of files file) ≡ whole [] = ap groups_of is ∙ f.2 in
    let payloads : (groups_of (of files file)).payloads ≡ [] = ap (λ (g : Groups). g.payloads) groups in
    record {
      stands = record {
        front = record {
          opened = ap is_open is ∙ f.0;
          is = same_gated file file _ _ _ _ _ _ refl (sym (ap epoch_of is ∙ f.1)) (sym (ap (λ (l : List (List ℕ)). length l) payloads)) (sym (ap end_of payloads));
        };
        whole = ap (λ (g : Groups). g.is_broken) groups;
      };
      last = ap length is ∙ f.3;
    }

birth_byte : (bytes : List ℕ) → 2 ≤ length bytes → take 1 bytes ≡ get_or bytes 0 0 ∷ []
birth_byte [] long = absurd (omega (arith, long))
birth_byte (b ∷ bytes) long = refl

-- the file that a start leaves
pub started_fresh : (old new : Five (List ℕ)) (file : FileKind) (epoch : ℕ) → epoch < 2 ^ 64 → 2 ≤ length (of old file) → of new file ≡ started (of old file) epoch → IsAtRest new (empty file epoch)
started_fresh old new file epoch small long is =
    fresh new file (get_or (of old file) 0 0) epoch small
    (is ∙ ap (λ (l : List ℕ). l ++ (1 ∷ eight_bytes epoch ++ 0 ∷ [])) (birth_byte (of old file) long))

-- the file that a creation leaves
pub created_is : (old : List ℕ) → overwrite (take 11 (overwrite old 0 (0 ∷ 1 ∷ 0 ∷ 0 ∷ 0 ∷ 0 ∷ 0 ∷ 0 ∷ 0 ∷ 1 ∷ 0 ∷ []))) 0 (1 ∷ []) ≡ created
unfolding eight_bytes
created_is old = refl

pub created_fresh : (new : Five (List ℕ)) (file : FileKind) → of new file ≡ created → IsAtRest new (empty file 1)
created_fresh new file is = fresh new file 1 1 (omega arith) is

take_ten : (header bytes : List ℕ) → header ≡ take (length header) bytes → 10 ≤ length header → take 10 header ≡ take 10 bytes
take_ten header bytes front long = ap (λ (l : List ℕ). take 10 l) front ∙ take-take 10 (length header) bytes long

-- what a header says
pub header_read : (bytes header : List ℕ) (epoch : ℕ) → 10 < length bytes → header ≡ take (length header) bytes → 10 ≤ length header → get_or header 1 0 ≡ 1
    → epoch ≡ number_of (drop 2 header) → (is_open bytes ≡ true) × (epoch ≡ epoch_of bytes)
header_read bytes header epoch long front enough second epoch_is =
    let ten = take_ten header bytes front enough in
    let gate : slice_index bytes 1 ≡ 1 = sym (get_or-take 10 bytes 1 0 (omega arith)) ∙ ap (λ (l : List ℕ). get_or l 1 0) (sym ten) ∙ get_or-take 10 header 1 0 (omega arith) ∙ second in
    let longer : nat_le 11 (length bytes) ≡ true = le-leb 11 (length bytes) (omega (arith, long)) in
    let same_epoch : number_of (drop 2 header) ≡ epoch_of bytes = number_same (drop 2 header) (drop 2 bytes) (piece_same 2 8 10 header bytes ten (omega arith)) in
    (rw (longer, gate) refl, epoch_is ∙ same_epoch)
