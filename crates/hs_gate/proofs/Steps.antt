-- One group at a place, and those behind it.
use Rattle.std.proofs.Common.{◌≡◌, ℕ, zero, suc, ◌+◌, ◌<◌, ◌==◌, Bool, true, false, if◌then◌else◌, List, [], ◌∷◌, length, take, drop, refl, sym, ◌∙◌, ap, arith, length-drop}
use Rattle.std.proofs.lemmas.List.{drop-drop}
use Rattle.std.proofs.lemmas.Bool.{ltb-true, lt-ltb, eqb-true}
use Rattle.hs_host.specs.Files.{piece}
use Rattle.hs_gate.specs.declared.found.Found.{Found}
use Rattle.hs_gate.specs.declared.found.Found.TheVariants.{Closed, Group, Broken}
use Rattle.hs_gate.specs.Groups.{Groups, whole, broken, ahead, groups_at, is_whole, size_of, number_of}
use Rattle.hs_gate.specs.Scan.{found_in}
use Rattle.hs_gate.proofs.Pieces.{length-piece}
use Rattle.hs_gate.proofs.Numbers.{number_same}

-- the groups from a place on are those of the bytes from there on
pub groups-drop : (at : ℕ) (bytes : List ℕ) → groups_at at bytes ≡ groups_at 0 (drop at bytes)
unfolding groups_at
groups-drop zero bytes = refl
groups-drop (suc at) [] = refl
groups-drop (suc at) (b ∷ bytes) = groups-drop at bytes

abbrev pub chosen : Bool → Bool → ℕ → Found
chosen is_open is_all size = if is_open then if is_all then Group size else Broken else Closed

pub chose_group : (is_open is_all : Bool) (size n : ℕ) → chosen is_open is_all size ≡ Group n → (is_open ≡ true) × (is_all ≡ true) × (size ≡ n)
chose_group true true size n e = (refl, refl, cc)
chose_group true false size n e = cc
chose_group false is_all size n e = cc

pub chose_broken : (is_open is_all : Bool) (size : ℕ) → chosen is_open is_all size ≡ Broken → (is_open ≡ true) × (is_all ≡ false)
chose_broken true true size e = cc
chose_broken true false size e = (refl, refl)
chose_broken false is_all size e = cc

pub chose_closed : (is_open is_all : Bool) (size : ℕ) → chosen is_open is_all size ≡ Closed → is_open ≡ false
chose_closed true true size e = cc
chose_closed true false size e = cc
chose_closed false is_all size e = refl

-- the group with which bytes begin
pub group_first : (tail : List ℕ) (size : ℕ) → found_in tail ≡ Group size → groups_at 0 tail ≡ ahead (take size (drop 9 tail)) (groups_at 0 (drop (9 + size) tail))
unfolding groups_at
group_first [] size e = cc
group_first (gate ∷ behind) size e =
    let p = chose_group (gate == 1) (is_whole behind) (size_of behind) size e in
    let next : 9 + size ≡ suc (8 + size) = omega arith in
    rw (p.0, p.1, p.2, next) (ap (λ (g : Groups). ahead (take size (drop 8 behind)) g) (groups-drop (8 + size) behind))

-- and what stands behind a gate of which it is known
pub group_behind : (tail : List ℕ) (size : ℕ) → found_in tail ≡ Group size → (tail ≡ 1 ∷ drop 1 tail) × (number_of (drop 1 tail) ≡ size) × (9 + size < length tail)
group_behind [] size e = cc
group_behind (gate ∷ behind) size e =
    let p = chose_group (gate == 1) (is_whole behind) (size_of behind) size e in
    let within : 8 + size_of behind < length behind = ltb-true (8 + size_of behind) (length behind) p.1 in
    (ap (λ (b : ℕ). b ∷ behind) (eqb-true gate 1 p.0), p.2, omega (arith, within, p.2))

pub broken_first : (tail : List ℕ) → found_in tail ≡ Broken → groups_at 0 tail ≡ broken []
unfolding groups_at
broken_first [] e = refl
broken_first (gate ∷ behind) e = let p = chose_broken (gate == 1) (is_whole behind) (size_of behind) e in rw (p.0, p.1) refl

pub closed_first : (tail : List ℕ) → found_in tail ≡ Closed → groups_at 0 tail ≡ whole []
unfolding groups_at
closed_first [] e = cc
closed_first (gate ∷ behind) e = rw (chose_closed (gate == 1) (is_whole behind) (size_of behind) e) refl

-- bytes that begin alike begin with the same group, where they have it whole
pub found_same : (new old : List ℕ) (size : ℕ) → found_in old ≡ Group size → take 9 new ≡ take 9 old → 9 + size < length new → found_in new ≡ Group size
found_same [] old size e same long = absurd (omega (arith, long))
found_same (gate ∷ behind) [] size e same long = cc
found_same (gate ∷ behind) (b ∷ bs) size e same long =
    let p = chose_group (b == 1) (is_whole bs) (size_of bs) size e in
    let gates : gate ≡ b = cc in
    let lengths : take 8 behind ≡ take 8 bs = cc in
    let sizes : size_of behind ≡ size = number_same behind bs lengths ∙ p.2 in
    let long_is : 8 + size < length behind = omega (arith, long) in
    let all : is_whole behind ≡ true = rw sizes (lt-ltb (8 + size) (length behind) long_is) in
    rw (gates, p.0, all, sizes) refl

-- of the groups from a place on, the first
pub record FirstGroup (at : ℕ) (bytes payload : List ℕ) (payloads : List (List ℕ)) : Type 0 where
  pub found : found_in (drop at bytes) ≡ Group (length payload)
  pub is : payload ≡ piece (at + 9) (length payload) bytes
  pub fits : at + (9 + length payload) < length bytes
  pub groups : groups_at at bytes ≡ ahead payload (groups_at (at + (9 + length payload)) bytes)
  pub rest : (groups_at (at + (9 + length payload)) bytes).payloads ≡ payloads

pub at_group : (at size : ℕ) (bytes : List ℕ) → found_in (drop at bytes) ≡ Group size → groups_at at bytes ≡ ahead (piece (at + 9) size bytes) (groups_at (at + (9 + size)) bytes)
at_group at size bytes e =
    groups-drop at bytes
    ∙ group_first (drop at bytes) size e
    ∙ ap (λ (l : List ℕ). ahead (take size l) (groups_at 0 (drop (9 + size) (drop at bytes)))) (drop-drop 9 at bytes)
    ∙ ap (λ (l : List ℕ). ahead (piece (at + 9) size bytes) (groups_at 0 l)) (drop-drop (9 + size) at bytes)
    ∙ ap (λ (g : Groups). ahead (piece (at + 9) size bytes) g) (sym (groups-drop (at + (9 + size)) bytes))

pub at_fits : (at size : ℕ) (bytes : List ℕ) → found_in (drop at bytes) ≡ Group size → at + (9 + size) < length bytes
at_fits at size bytes e = let within : 9 + size < length (drop at bytes) = (group_behind (drop at bytes) size e).2 in omega (arith, length-drop at bytes)

first_case : (at : ℕ) (bytes payload : List ℕ) (payloads : List (List ℕ)) (f : Found) → found_in (drop at bytes) ≡ f → (groups_at at bytes).payloads ≡ payload ∷ payloads → FirstGroup at bytes payload payloads
first_case at bytes payload payloads Closed e is = let none : groups_at at bytes ≡ whole [] = groups-drop at bytes ∙ closed_first (drop at bytes) e in cc
first_case at bytes payload payloads Broken e is = let none : groups_at at bytes ≡ broken [] = groups-drop at bytes ∙ broken_first (drop at bytes) e in cc
first_case at bytes payload payloads (Group size) e is =
    let both : piece (at + 9) size bytes ∷ (groups_at (at + (9 + size)) bytes).payloads ≡ payload ∷ payloads = ap (λ (g : Groups). g.payloads) (sym (at_group at size bytes e)) ∙ is in
    let head : piece (at + 9) size bytes ≡ payload = cc in
    let rest : (groups_at (at + (9 + size)) bytes).payloads ≡ payloads = cc in
    let fits = at_fits at size bytes e in
    let long : size ≡ length payload = sym (length-piece (at + 9) size bytes (omega (arith, fits))) ∙ ap length head in
    let found : found_in (drop at bytes) ≡ Group (length payload) = e ∙ ap (λ (n : ℕ). Group n) long in
    let same : piece (at + 9) (length payload) bytes ≡ payload = ap (λ (n : ℕ). piece (at + 9) n bytes) (sym long) ∙ head in
    record {
      found = found;
      is = sym same;
      fits = at_fits at (length payload) bytes found;
      groups = at_group at (length payload) bytes found ∙ ap (λ (l : List ℕ). ahead l (groups_at (at + (9 + length payload)) bytes)) same;
      rest = ap (λ (n : ℕ). (groups_at (at + (9 + n)) bytes).payloads) (sym long) ∙ rest;
    }

pub first_group : (at : ℕ) (bytes payload : List ℕ) (payloads : List (List ℕ)) → (groups_at at bytes).payloads ≡ payload ∷ payloads → FirstGroup at bytes payload payloads
first_group at bytes payload payloads is = first_case at bytes payload payloads (found_in (drop at bytes)) refl is

none_case : (at : ℕ) (bytes : List ℕ) (f : Found) → found_in (drop at bytes) ≡ f → (groups_at at bytes).payloads ≡ [] → (groups_at at bytes).is_broken ≡ false → found_in (drop at bytes) ≡ Closed
none_case at bytes Closed e is closed = e
none_case at bytes Broken e is closed = let none : groups_at at bytes ≡ broken [] = groups-drop at bytes ∙ broken_first (drop at bytes) e in cc
none_case at bytes (Group size) e is closed = let groups = at_group at size bytes e in cc

-- where there is no further group and none is broken, a gate that isn't open stands
pub closed_there : (at : ℕ) (bytes : List ℕ) → (groups_at at bytes).payloads ≡ [] → (groups_at at bytes).is_broken ≡ false → found_in (drop at bytes) ≡ Closed
closed_there at bytes is closed = none_case at bytes (found_in (drop at bytes)) refl is closed
