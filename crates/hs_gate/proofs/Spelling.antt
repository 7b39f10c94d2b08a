-- Groups in the words of the bytes alone.
use Rattle.std.proofs.Common.{◌≡◌, ◌≢◌, ℕ, ◌+◌, ◌<◌, ◌^◌, ◌==◌, nat_lt, true, false, List, [], ◌∷◌, ◌++◌, length, take, drop, get_or, refl, sym, ◌∙◌, ap, arith, append_assoc, length-append, length-drop, take-append-drop}
use Rattle.std.proofs.lemmas.List.{take_at, drop_at, drop-drop, append-nil, get_or-drop, length-take-le}
use Rattle.std.proofs.lemmas.Bool.{lt-ltb, ne_eqb, eqb-false, eqb-true}
use Rattle.hs_gate.specs.declared.found.Found.{Found}
use Rattle.hs_gate.specs.declared.found.Found.TheVariants.{Closed, Group, Broken}
use Rattle.hs_gate.specs.Groups.{Groups, whole, broken, ahead, group, eight_bytes, number_of, groups_at, groups_of, spelled, is_whole, size_of}
use Rattle.hs_gate.specs.Scan.{found_in}
use Rattle.hs_gate.specs.Spelled.{Holds, Breaks, IsBroken}
use Rattle.hs_gate.proofs.Numbers.{length-eight, length-group, length-spelled, number_of_eight, eight_of_number}
use Rattle.hs_gate.proofs.Steps.{first_group, group_behind, group_first, groups-drop, closed_first, broken_first, at_group, chose_closed, chose_broken, closed_there}
use Rattle.hs_gate.proofs.Carried.{walk, prepend}

abbrev AreBytes : List ℕ → Type 0
AreBytes bytes = (i : ℕ) → get_or bytes i 0 < 256

small_behind : (at : ℕ) (bytes : List ℕ) → AreBytes bytes → AreBytes (drop at bytes)
small_behind at bytes small i = rw (get_or-drop at bytes i 0) (small (at + i))

-- a whole group is spelled as one
found_spelled : (tail : List ℕ) (size : ℕ) → AreBytes tail → found_in tail ≡ Group size
    → (tail ≡ group (take size (drop 9 tail)) ++ drop (9 + size) tail) × (length (take size (drop 9 tail)) ≡ size)
found_spelled tail size small e =
    let b = group_behind tail size e in
    let long : 9 + size < length tail = b.2 in
    let behind = drop 1 tail in
    let nine : drop 8 behind ≡ drop 9 tail = drop-drop 8 1 tail in
    let size_is : length (take size (drop 9 tail)) ≡ size = length-take-le size (drop 9 tail) (omega (arith, length-drop 9 tail)) in
    let eight : eight_bytes size ≡ take 8 behind = eight_of_number behind size (omega (arith, length-drop 1 tail)) (small_behind 1 tail small) b.1 in
    let back : drop size (drop 9 tail) ≡ drop (9 + size) tail = drop-drop size 9 tail in (
      b.0
          ∙ ap (λ (l : List ℕ). 1 ∷ l) (sym (take-append-drop 8 behind))
          ∙ ap (λ (l : List ℕ). 1 ∷ (l ++ drop 8 behind)) (sym eight)
          ∙ ap (λ (l : List ℕ). 1 ∷ (eight_bytes size ++ l)) (nine ∙ sym (take-append-drop size (drop 9 tail)))
          ∙ ap (λ (l : List ℕ). 1 ∷ (eight_bytes size ++ (take size (drop 9 tail) ++ l))) back
          ∙ ap (λ (l : List ℕ). 1 ∷ l) (sym (append_assoc (eight_bytes size) (take size (drop 9 tail)) (drop (9 + size) tail)))
          ∙ ap (λ (n : ℕ). 1 ∷ (eight_bytes n ++ take size (drop 9 tail) ++ drop (9 + size) tail)) (sym size_is),
      size_is,
    )

-- the groups from a place on are spelled there
spell : (payloads : List (List ℕ)) (at end : ℕ) (bytes : List ℕ) → AreBytes bytes → (groups_at at bytes).payloads ≡ payloads → end ≡ at + length (spelled payloads) → drop at bytes ≡ spelled payloads ++ drop end bytes
spell [] at end bytes small is there = ap (λ (n : ℕ). drop n bytes) (omega (arith, there))
spell (p ∷ ps) at end bytes small is there =
    let f = first_group at bytes p ps is in
    let next : end ≡ at + (9 + length p) + length (spelled ps) = omega (arith, there, length-spelled p ps) in
    let one = found_spelled (drop at bytes) (length p) (small_behind at bytes small) f.found in
    let payload : take (length p) (drop 9 (drop at bytes)) ≡ p = ap (λ (l : List ℕ). take (length p) l) (drop-drop 9 at bytes) ∙ sym f.is in
    one.0
    ∙ ap (λ (l : List ℕ). group l ++ drop (9 + length p) (drop at bytes)) payload
    ∙ ap (λ (l : List ℕ). group p ++ l) (drop-drop (9 + length p) at bytes ∙ spell ps (at + (9 + length p)) end bytes small f.rest next)
    ∙ sym (append_assoc (group p) (spelled ps) (drop end bytes))

-- a spelled group with one more byte behind it is read as one
pub found_group : (payload more : List ℕ) → length payload < 2 ^ 64 → 0 < length more → found_in (group payload ++ more) ≡ Group (length payload)
found_group payload more small some =
    let behind = eight_bytes (length payload) ++ payload ++ more in
    let size : number_of behind ≡ length payload = ap number_of (append_assoc (eight_bytes (length payload)) payload more) ∙ number_of_eight (length payload) (payload ++ more) small in
    let long : 8 + length payload < length behind = omega (arith, length-append (eight_bytes (length payload) ++ payload) more, length-append (eight_bytes (length payload)) payload, length-eight (length payload)) in
    let all : nat_lt (8 + length payload) (length behind) ≡ true = lt-ltb (8 + length payload) (length behind) long in
    rw (size, all) refl

pub group_read : (payload more : List ℕ) → length payload < 2 ^ 64 → 0 < length more → groups_at 0 (group payload ++ more) ≡ ahead payload (groups_at 0 more)
group_read payload more small some =
    let front : group payload ++ more ≡ (1 ∷ eight_bytes (length payload)) ++ (payload ++ more) = append_assoc (1 ∷ eight_bytes (length payload)) payload more in
    let nine : length (1 ∷ eight_bytes (length payload)) ≡ 9 = omega (arith, length-eight (length payload)) in
    let behind : drop 9 (group payload ++ more) ≡ payload ++ more = ap (λ (l : List ℕ). drop 9 l) front ∙ drop_at (1 ∷ eight_bytes (length payload)) (payload ++ more) 9 nine in
    group_first (group payload ++ more) (length payload) (found_group payload more small some)
    ∙ ap (λ (l : List ℕ). ahead (take (length payload) l) (groups_at 0 (drop (9 + length payload) (group payload ++ more)))) behind
    ∙ ap (λ (l : List ℕ). ahead l (groups_at 0 (drop (9 + length payload) (group payload ++ more)))) (take_at payload more (length payload) refl)
    ∙ ap (λ (l : List ℕ). ahead payload (groups_at 0 l)) (drop_at (group payload) more (9 + length payload) (length-group payload))

-- spelled groups are read as they are
pub groups_read : (payloads : List (List ℕ)) (more : List ℕ) → length (spelled payloads) < 2 ^ 64 → 0 < length more → groups_at 0 (spelled payloads ++ more) ≡ prepend payloads (groups_at 0 more)
groups_read [] more small some = refl
groups_read (p ∷ ps) more small some =
    let size = length-spelled p ps in
    ap (λ (l : List ℕ). groups_at 0 l) (append_assoc (group p) (spelled ps) more)
    ∙ group_read p (spelled ps ++ more) (omega (arith, size, small)) (omega (arith, length-append (spelled ps) more, some))
    ∙ ap (λ (g : Groups). ahead p g) (groups_read ps more (omega (arith, size, small)) some)

-- and nothing else, where a closed gate stands behind them
pub spelled_read : (payloads : List (List ℕ)) (rest : List ℕ) → length (spelled payloads) < 2 ^ 64 → groups_at 0 (spelled payloads ++ 0 ∷ rest) ≡ whole payloads
spelled_read payloads rest small =
    groups_read payloads (0 ∷ rest) small (omega arith) ∙ ap (λ (g : Groups). prepend payloads g) (closed_first (0 ∷ rest) refl) ∙ ap (λ (l : List (List ℕ)). whole l) (append-nil payloads)

pub spelled-append : (before behind : List (List ℕ)) → spelled (before ++ behind) ≡ spelled before ++ spelled behind
spelled-append [] behind = refl
spelled-append (p ∷ ps) behind = ap (λ (l : List ℕ). group p ++ l) (spelled-append ps behind) ∙ sym (append_assoc (group p) (spelled ps) (spelled behind))

closed_gate : (gate : ℕ) (rest : List ℕ) → gate ≢ 1 → found_in (gate ∷ rest) ≡ Closed
closed_gate gate rest closed = let no : (gate == 1) ≡ false = ne_eqb gate 1 closed in rw no refl

long_enough : (tail bytes : List ℕ) (payloads : List (List ℕ)) → tail ≡ drop 10 bytes → groups_at 0 tail ≡ whole payloads → 10 < length bytes
long_enough [] bytes payloads e is = let none : groups_at 0 [] ≡ broken [] = broken_first [] refl in let never : true ≡ false = ap (λ (g : Groups). g.is_broken) (sym none ∙ is) in cc
long_enough (b ∷ bs) bytes payloads e is = omega (arith, ap length e, length-drop 10 bytes)

held : (tail bytes : List ℕ) (payloads : List (List ℕ)) → found_in tail ≡ Closed → drop 10 bytes ≡ spelled payloads ++ tail → Holds bytes payloads
held [] bytes payloads e is = cc
held (gate ∷ rest) bytes payloads e is = record {
  gate = gate;
  rest = rest;
  closed = eqb-false gate 1 (chose_closed (gate == 1) (is_whole rest) (size_of rest) e);
  is = is;
}

pub reads : (bytes : List ℕ) (payloads : List (List ℕ)) → AreBytes bytes → groups_of bytes ≡ whole payloads → Holds bytes payloads
reads bytes payloads small is =
    let end = 10 + length (spelled payloads) in
    let start : groups_at 0 (drop 10 bytes) ≡ whole payloads = sym (groups-drop 10 bytes) ∙ is in
    let all : (groups_at 10 bytes).payloads ≡ payloads = ap (λ (g : Groups). g.payloads) is in
    let on = walk payloads [] 10 end bytes (all ∙ sym (append-nil payloads)) (long_enough (drop 10 bytes) bytes payloads refl start) refl in
    let closed : (groups_at end bytes).is_broken ≡ false = on.same ∙ ap (λ (g : Groups). g.is_broken) is in
    held (drop end bytes) bytes payloads (closed_there end bytes on.rest closed) (spell payloads 10 end bytes small all refl)

pub spells : (bytes : List ℕ) (payloads : List (List ℕ)) → length bytes < 2 ^ 64 → Holds bytes payloads → groups_of bytes ≡ whole payloads
spells bytes payloads small holds =
    let behind = holds.gate ∷ holds.rest in
    let long : length (spelled payloads) < 2 ^ 64 = omega (arith, ap length holds.is, length-append (spelled payloads) behind, length-drop 10 bytes, small) in
    groups-drop 10 bytes
    ∙ ap (λ (l : List ℕ). groups_at 0 l) holds.is
    ∙ groups_read payloads behind long (omega arith)
    ∙ ap (λ (g : Groups). prepend payloads g) (closed_first behind (closed_gate holds.gate holds.rest holds.closed))
    ∙ ap (λ (l : List (List ℕ)). whole l) (append-nil payloads)

broke : (tail bytes : List ℕ) (payloads : List (List ℕ)) → length tail < 2 ^ 64 → 0 < length tail → found_in tail ≡ Broken → drop 10 bytes ≡ spelled payloads ++ tail → Breaks bytes payloads
broke [] bytes payloads small some e is = absurd (omega (arith, some))
broke (gate ∷ behind) bytes payloads small some e is =
    let p = chose_broken (gate == 1) (is_whole behind) (size_of behind) e in
    let open_gate : gate ≡ 1 = eqb-true gate 1 p.0 in
    let again : found_in (1 ∷ behind) ≡ Broken = rw open_gate at e in
    record {
      behind = behind;
      broken = λ payload next rest spelled_is.
          let fits : length payload < 2 ^ 64 = omega (arith, ap length spelled_is, length-append (group payload) (next ∷ rest), length-group payload, small) in
          let found : found_in (1 ∷ behind) ≡ Group (length payload) = ap found_in spelled_is ∙ found_group payload (next ∷ rest) fits (omega arith) in
          cc;
      is = is ∙ ap (λ (b : ℕ). spelled payloads ++ b ∷ behind) open_gate;
    }

broken_case : (end : ℕ) (bytes : List ℕ) (f : Found) → found_in (drop end bytes) ≡ f → (groups_at end bytes).payloads ≡ [] → (groups_at end bytes).is_broken ≡ true → found_in (drop end bytes) ≡ Broken
broken_case end bytes Broken e is b = e
broken_case end bytes Closed e is b = let none : groups_at end bytes ≡ whole [] = groups-drop end bytes ∙ closed_first (drop end bytes) e in cc
broken_case end bytes (Group size) e is b = let groups = at_group end size bytes e in cc

pub breaks : (bytes : List ℕ) (payloads : List (List ℕ)) → AreBytes bytes → length bytes < 2 ^ 64 → 10 < length bytes → groups_of bytes ≡ broken payloads → Breaks bytes payloads
breaks bytes payloads small fits within is =
    let end = 10 + length (spelled payloads) in
    let all : (groups_at 10 bytes).payloads ≡ payloads = ap (λ (g : Groups). g.payloads) is in
    let on = walk payloads [] 10 end bytes (all ∙ sym (append-nil payloads)) within refl in
    let broken_is : (groups_at end bytes).is_broken ≡ true = on.same ∙ ap (λ (g : Groups). g.is_broken) is in
    let found = broken_case end bytes (found_in (drop end bytes)) refl on.rest broken_is in
    broke (drop end bytes) bytes payloads (omega (arith, length-drop end bytes, fits)) (omega (arith, length-drop end bytes, on.within)) found (spell payloads 10 end bytes small all refl)

split_first : (tail : List ℕ) → 0 < length tail → tail ≡ get_or tail 0 0 ∷ drop 1 tail
split_first [] some = absurd (omega (arith, some))
split_first (b ∷ bs) some = refl

not_whole : (behind : List ℕ) (f : Found) → AreBytes (1 ∷ behind) → IsBroken behind → found_in (1 ∷ behind) ≡ f → found_in (1 ∷ behind) ≡ Broken
not_whole behind Broken small none e = e
not_whole behind Closed small none e = let open_gate : (1 == 1) ≡ false = chose_closed (1 == 1) (is_whole behind) (size_of behind) e in cc
not_whole behind (Group size) small none e =
    let tail = 1 ∷ behind in
    let one = found_spelled tail size small e in
    let b = group_behind tail size e in
    let more = drop (9 + size) tail in
    let some : 0 < length more = omega (arith, length-drop (9 + size) tail, b.2) in
    absurd (none (take size (drop 9 tail)) (get_or more 0 0) (drop 1 more) (one.0 ∙ ap (λ (l : List ℕ). group (take size (drop 9 tail)) ++ l) (split_first more some)))

pub broken_read : (bytes : List ℕ) (payloads : List (List ℕ)) → AreBytes bytes → length bytes < 2 ^ 64 → Breaks bytes payloads → groups_of bytes ≡ broken payloads
broken_read bytes payloads small fits b =
    let tail = 1 ∷ b.behind in
    let end = 10 + length (spelled payloads) in
    let there : drop end bytes ≡ tail = sym (drop-drop (length (spelled payloads)) 10 bytes) ∙ ap (λ (l : List ℕ). drop (length (spelled payloads)) l) b.is ∙ drop_at (spelled payloads) tail (length (spelled payloads)) refl in
    let tail_small : AreBytes tail = rw there at (small_behind end bytes small) in
    let long : length (spelled payloads) < 2 ^ 64 = omega (arith, ap length b.is, length-append (spelled payloads) tail, length-drop 10 bytes, fits) in
    groups-drop 10 bytes
    ∙ ap (λ (l : List ℕ). groups_at 0 l) b.is
    ∙ groups_read payloads tail long (omega arith)
    ∙ ap (λ (g : Groups). prepend payloads g) (broken_first tail (not_whole b.behind (found_in tail) tail_small b.broken refl))
    ∙ ap (λ (l : List (List ℕ)). broken l) (append-nil payloads)
