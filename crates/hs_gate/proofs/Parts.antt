-- The group at a place.
use Rattle.std.proofs.Common.{◌≡◌, ℕ, ◌+◌, ◌-◌, ◌<◌, ◌≤◌, ◌^◌, List, [], ◌∷◌, ◌++◌, length, take, drop, replicate, refl, sym, ◌∙◌, ap, arith, append_assoc, length-append, length-take, length-drop}
use Rattle.std.proofs.lemmas.List.{take-take, take_at, length-take-le, length-replicate}
use Rattle.hs_host.specs.Files.{Five, of, piece}
use Rattle.hs_gate.specs.declared.found.Found.{Found}
use Rattle.hs_gate.specs.declared.found.Found.TheVariants.{Group}
use Rattle.hs_gate.specs.declared.gated.Gated.{Gated}
use Rattle.hs_gate.specs.Groups.{ahead, group, spelled, end_of, groups_at, groups_of}
use Rattle.hs_gate.specs.Scan.{found_in}
use Rattle.hs_gate.specs.Gated.{IsFront, IsPlace}
use Rattle.hs_gate.specs.Spelled.{HasNoGroup}
use Rattle.hs_gate.proofs.Numbers.{length-spelled, length-spelled_append, length-group}
use Rattle.hs_gate.proofs.Pieces.{drop-piece, length-piece}
use Rattle.hs_gate.proofs.Steps.{first_group, found_same}
use Rattle.hs_gate.proofs.Spelling.{found_group}
use Rattle.hs_gate.proofs.Carried.{Reaches, walk}
use Rattle.hs_gate.proofs.Fronts.{open_long, end_within}

-- what stands at a place in front of the end of the groups
pub record PartAt (bytes : List ℕ) (at end : ℕ) : Type 0 where
  pub payload : List ℕ
  pub found : found_in (take (end - at + 1) (drop at bytes)) ≡ Group (length payload)
  pub is : payload ≡ piece (at + 9) (length payload) bytes
  pub groups : groups_at at bytes ≡ ahead payload (groups_at (at + (9 + length payload)) bytes)
  pub place : IsPlace bytes (at + (9 + length payload))

reached : (files : Five (List ℕ)) (gated : Gated) (at : ℕ) → IsFront files gated → (place : IsPlace (of files gated.file) at) → Reaches 10 (of files gated.file) place.before place.behind at
reached files gated at front place = walk place.before place.behind 10 at (of files gated.file) place.all (open_long (of files gated.file) front.opened) place.is

end_is : (files : Five (List ℕ)) (gated : Gated) (at : ℕ) → IsFront files gated → (place : IsPlace (of files gated.file) at) → gated.end ≡ at + length (spelled place.behind)
end_is files gated at front place =
    let end : gated.end ≡ end_of (place.before ++ place.behind) = ap (λ (g : Gated). g.end) front.is ∙ ap end_of place.all in
    omega (arith, end, place.is, length-spelled_append place.before place.behind)

part_case : (files : Five (List ℕ)) (gated : Gated) (at : ℕ) (front : IsFront files gated) (before behind : List (List ℕ)) → (groups_of (of files gated.file)).payloads ≡ before ++ behind → at ≡ end_of before
    → (groups_at at (of files gated.file)).payloads ≡ behind → gated.end ≡ at + length (spelled behind) → at < gated.end → PartAt (of files gated.file) at gated.end
part_case files gated at front before [] all is rest end lt = absurd (omega (arith, end, lt))
part_case files gated at front before (p ∷ ps) all is rest end lt =
    let bytes = of files gated.file in
    let f = first_group at bytes p ps rest in
    let within : gated.end < length bytes = end_within files gated front in
    let fits : at + (9 + length p) ≤ gated.end = omega (arith, end, length-spelled p ps) in
    let some = take (gated.end - at + 1) (drop at bytes) in
    let long : length some ≡ gated.end - at + 1 = length-take-le (gated.end - at + 1) (drop at bytes) (omega (arith, length-drop at bytes, within, lt)) in
    record {
      payload = p;
      found = found_same some (drop at bytes) (length p) f.found (take-take 9 (gated.end - at + 1) (drop at bytes) (omega (arith, fits))) (omega (arith, long, fits));
      is = f.is;
      groups = f.groups;
      place = record {
        before = before ++ p ∷ [];
        behind = ps;
        all = all ∙ sym (append_assoc before (p ∷ []) ps);
        is = omega (arith, is, length-spelled_append before (p ∷ []), length-spelled p []);
      };
    }

pub part_at : (files : Five (List ℕ)) (gated : Gated) (at : ℕ) → IsFront files gated → IsPlace (of files gated.file) at → at < gated.end → PartAt (of files gated.file) at gated.end
part_at files gated at front place lt =
    part_case files gated at front place.before place.behind place.all place.is (reached files gated at front place).rest (end_is files gated at front place) lt

none_left : (behind : List (List ℕ)) (at : ℕ) → at ≡ at + length (spelled behind) → behind ≡ []
none_left [] at e = refl
none_left (p ∷ ps) at e = absurd (omega (arith, e, length-spelled p ps))

-- no group stands at the end
pub none_at_end : (files : Five (List ℕ)) (gated : Gated) (at : ℕ) → IsFront files gated → IsPlace (of files gated.file) at → at ≡ gated.end → (groups_at at (of files gated.file)).payloads ≡ []
none_at_end files gated at front place e =
    (reached files gated at front place).rest ∙ none_left place.behind at (e ∙ end_is files gated at front place)

-- what was looked at
pub found_part : (bytes head : List ℕ) (at end count : ℕ) (f : Found) → (part : PartAt bytes at end) → at ≤ end → end < length bytes → head ≡ piece at count bytes → count ≤ end - at + 1
    → ((all : List ℕ) → length all ≡ end - at + 1 → head ≡ take (length head) all → f ≡ found_in all) → f ≡ Group (length part.payload)
found_part bytes head at end count f part le within head_is few looked =
    let all = take (end - at + 1) (drop at bytes) in
    let long : length all ≡ end - at + 1 = length-take-le (end - at + 1) (drop at bytes) (omega (arith, length-drop at bytes, within, le)) in
    let size : length head ≡ count = ap length head_is ∙ length-take-le count (drop at bytes) (omega (arith, length-drop at bytes, within, le, few)) in
    looked all long (head_is ∙ sym (take-take count (end - at + 1) (drop at bytes) few) ∙ ap (λ (n : ℕ). take n all) (sym size)) ∙ part.found

-- Where what was looked at is no whole group, no bytes that begin so have one. They may be fewer than were looked for, so
-- zeros are put behind them.
pub looked_in_vain : (bytes head : List ℕ) (at behind count : ℕ) (f : Found) → behind < 2 ^ 64 → length head ≡ count → head ≡ piece at count bytes → count ≤ behind + 1
    → ((all : List ℕ) → length all ≡ behind + 1 → head ≡ take (length head) all → f ≡ found_in all) → ((size : ℕ) → f ≡ Group size → ⊥) → HasNoGroup (piece at (behind + 1) bytes)
looked_in_vain bytes head at behind count f small size is few looked none payload next rest spelled_is =
    let seen = piece at (behind + 1) bytes in
    let short : length seen ≤ behind + 1 = omega (arith, length-take (behind + 1) (drop at bytes)) in
    let there : count ≤ length seen = omega (arith, size, ap length is, length-take count (drop at bytes), length-take (behind + 1) (drop at bytes), few) in
    let nothing : ℕ = 0 in
    let zeros : List ℕ = replicate (behind + 1 - length seen) nothing in
    let all = seen ++ zeros in
    let long : length all ≡ behind + 1 = omega (arith, length-append seen zeros, length-replicate (behind + 1 - length seen) nothing, short) in
    let front : head ≡ take count all =
    is
    ∙ sym (take-take count (behind + 1) (drop at bytes) few)
    ∙ ap (λ (l : List ℕ). take count l) (sym (take_at seen zeros (length seen) refl))
    ∙ take-take count (length seen) all there in
    let spelled_all : all ≡ group payload ++ next ∷ (rest ++ zeros) = ap (λ (l : List ℕ). l ++ zeros) spelled_is ∙ append_assoc (group payload) (next ∷ rest) zeros in
    let fits : length payload < 2 ^ 64 = omega (arith, ap length spelled_is, length-append (group payload) (next ∷ rest), length-group payload, short, small) in
    let found : found_in all ≡ Group (length payload) = ap found_in spelled_all ∙ found_group payload (next ∷ (rest ++ zeros)) fits (omega arith) in
    none (length payload) (looked all long (front ∙ ap (λ (n : ℕ). take n all) (sym size)) ∙ found)

-- the part that is answered
pub takes_part : (bytes payload : List ℕ) (at end size next : ℕ) → (part : PartAt bytes at end) → size ≡ length part.payload → payload ≡ piece (at + 9) size bytes → next ≡ at + 9 + size
    → (groups_at at bytes ≡ ahead payload (groups_at next bytes)) × IsPlace bytes next
takes_part bytes payload at end size next part size_is payload_is next_is =
    let there : next ≡ at + (9 + length part.payload) = omega (arith, next_is, size_is) in
    let same : payload ≡ part.payload = payload_is ∙ ap (λ (n : ℕ). piece (at + 9) n bytes) size_is ∙ sym part.is in
    rw (there, same) (part.groups, part.place)

-- the first bytes of the payload were read with its length
pub payload_front : (head bytes : List ℕ) (at count : ℕ) → head ≡ piece at count bytes → 9 ≤ count → at + count ≤ length bytes → drop 9 head ≡ piece (at + 9) (length (drop 9 head)) bytes
payload_front head bytes at count is long within =
    let behind : drop 9 head ≡ piece (at + 9) (count - 9) bytes = ap (λ (l : List ℕ). drop 9 l) is ∙ drop-piece 9 count at bytes long in
    let size : length (drop 9 head) ≡ count - 9 = ap length behind ∙ length-piece (at + 9) (count - 9) bytes (omega (arith, within, long)) in
    behind ∙ ap (λ (n : ℕ). piece (at + 9) n bytes) (sym size)

-- the first place is one
pub first_place : (bytes : List ℕ) → IsPlace bytes 10
first_place bytes = record { before = []; behind = (groups_of bytes).payloads; all = refl; is = refl }
