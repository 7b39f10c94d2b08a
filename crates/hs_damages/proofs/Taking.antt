-- Groups that are judged one after another.
use Rattle.std.proofs.Common.{◌≡◌, ℕ, ◌+◌, Bool, true, false, if◌then◌else◌, List, [], ◌∷◌, length, Result, Ok, Err, IfOk, refl, sym, ◌∙◌, ap, arith, append_assoc, append-nil, length-append}
use Rattle.hs_gate.specs.declared.group_reader.GroupReader.{GroupReader}
use Rattle.hs_gate.specs.Groups.{Groups, ahead, whole, groups_at, groups_of}
use Rattle.hs_gate.specs.Reading.{IsReadTo, payload_in}
use Rattle.hs_damages.specs.declared.damage.Damage.{Damage}
use Rattle.hs_damages.specs.declared.damage.Stop.{Stop}
use Rattle.hs_damages.specs.declared.damage.Stop.TheVariants.{Damaged, Disk, NoMemory}
use Rattle.hs_damages.specs.declared.part.Part.{Part}
use Rattle.hs_damages.specs.declared.part.Part.TheVariants.{Checkpoint, Images, Commits}
use Rattle.hs_damages.specs.Damages.{damage_in, next_damage, judged, judged_groups, judged_counted}
use Rattle.hs_damages.specs.Meaning.{Meaning, Taken, nothing, of_part, and_more, and_one}
use Rattle.hs_damages.specs.Reading.{IsJudging, Takes, Ends, Goes, left_judged, count_in, place_in}
use Rattle.hs_damages.specs.Sighting.{open_epoch, is_of}
use Rattle.hs_damages.specs.Stops.{HasCause}

-- one payload more
one_more : (taken : Taken) (part : Part) (payload : List ℕ) → length (of_part (and_one taken part payload) part) ≡ length (of_part taken part) + 1
one_more taken Checkpoint payload = length-append taken.base (payload ∷ [])
one_more taken Images payload = length-append taken.images (payload ∷ [])
one_more taken Commits payload = length-append taken.logged (payload ∷ [])

next_taken : (m : Meaning) (part : Part) (taken : Taken) (payload : List ℕ) (rest : Groups) → m.allows taken part payload ≡ true → judged_groups m part taken (ahead payload rest) ≡ judged_groups m part (and_one taken part payload) rest
next_taken m part taken payload rest allowed = rw allowed refl

next_refused : (m : Meaning) (part : Part) (taken : Taken) (payload : List ℕ) (rest : Groups) → m.allows taken part payload ≡ false → judged_groups m part taken (ahead payload rest) ≡ Err (next_damage taken part)
next_refused m part taken payload rest refused = rw refused refl

may_end : (m : Meaning) (part : Part) (taken : Taken) → m.ends taken part ≡ true → judged_groups m part taken (whole []) ≡ Ok taken
may_end m part taken ends = rw ends refl

may_not_end : (m : Meaning) (part : Part) (taken : Taken) → m.ends taken part ≡ false → judged_groups m part taken (whole []) ≡ Err (next_damage taken part)
may_not_end m part taken ends = rw ends refl

-- a payload was judged, behind which the reader stands
pub goes_payload : (m : Meaning) (part : Part) (bytes : List ℕ) (taken now : Taken) (old new : GroupReader) (result : Result Bool Stop) → IsJudging part taken bytes old → count_in new ≡ count_in old + 1
    → groups_at (place_in old) bytes ≡ ahead (payload_in new) (groups_at (place_in new) bytes) → Takes m part new taken now result → Goes m part bytes taken old now new result
goes_payload m part bytes taken now old new (Ok true) judging count there takes =
    ap (λ (g : Groups). judged_groups m part taken g) there ∙ next_taken m part taken (payload_in new) (groups_at (place_in new) bytes) takes.0
    ∙ ap (λ (t : Taken). judged_groups m part t (groups_at (place_in new) bytes)) (sym takes.1)
goes_payload m part bytes taken now old new (Ok false) judging count there takes = absurd takes
goes_payload m part bytes taken now old new (Err (Damaged d)) judging count there takes =
    ap (λ (g : Groups). judged_groups m part taken g) there ∙ next_refused m part taken (payload_in new) (groups_at (place_in new) bytes) takes.0
    ∙ ap (λ (n : ℕ). Err (damage_in part n)) (omega (arith, count, judging.count)) ∙ ap (λ (x : Damage). Err x) (sym takes.1)
goes_payload m part bytes taken now old new (Err Disk) judging count there takes = tt
goes_payload m part bytes taken now old new (Err NoMemory) judging count there takes = tt

pub judging_payload : (m : Meaning) (part : Part) (bytes : List ℕ) (taken now : Taken) (old new : GroupReader) (result : Result Bool Stop) → IsJudging part taken bytes old → count_in new ≡ count_in old + 1 → IsReadTo bytes new
    → Takes m part new taken now result → IfOk result (λ more. more ≡ true → IsJudging part now bytes new)
judging_payload m part bytes taken now old new (Ok true) judging count read takes =
    λ more. record { count = count ∙ ap (λ (n : ℕ). n + 1) judging.count ∙ sym (one_more taken part (payload_in new)) ∙ ap (λ (t : Taken). length (of_part t part)) (sym takes.1); read = read }
judging_payload m part bytes taken now old new (Ok false) judging count read takes = absurd takes
judging_payload m part bytes taken now old new (Err (Damaged d)) judging count read takes = tt
judging_payload m part bytes taken now old new (Err Disk) judging count read takes = tt
judging_payload m part bytes taken now old new (Err NoMemory) judging count read takes = tt

-- the end was
pub goes_end : (m : Meaning) (part : Part) (bytes : List ℕ) (taken now : Taken) (old new : GroupReader) (result : Result Bool Stop) → IsJudging part taken bytes old → count_in new ≡ count_in old → place_in new ≡ place_in old
    → groups_at (place_in old) bytes ≡ whole [] → IsReadTo bytes new → Ends m part new taken now result → Goes m part bytes taken old now new result
goes_end m part bytes taken now old new (Ok true) judging count place there read ends = absurd ends
goes_end m part bytes taken now old new (Ok false) judging count place there read ends = (
  ap (λ (g : Groups). judged_groups m part taken g) there ∙ may_end m part taken ends.0 ∙ ap (λ (t : Taken). Ok t) (sym ends.1),
  ap (λ (n : ℕ). groups_at n bytes) place ∙ there,
  read,
)
goes_end m part bytes taken now old new (Err (Damaged d)) judging count place there read ends =
    ap (λ (g : Groups). judged_groups m part taken g) there ∙ may_not_end m part taken ends.0
    ∙ ap (λ (n : ℕ). Err (damage_in part n)) (omega (arith, count, judging.count)) ∙ ap (λ (x : Damage). Err x) (sym ends.1)
goes_end m part bytes taken now old new (Err Disk) judging count place there read ends = tt
goes_end m part bytes taken now old new (Err NoMemory) judging count place there read ends = tt

-- the causes
pub cause_payload : (m : Meaning) (part : Part) (r : GroupReader) (taken new : Taken) (before now : ℕ) (result : Result Bool Stop) → now ≡ before → Takes m part r taken new result → HasCause before now result
cause_payload m part r taken new before now (Ok more) same takes = same
cause_payload m part r taken new before now (Err (Damaged d)) same takes = same
cause_payload m part r taken new before now (Err Disk) same takes = absurd takes
cause_payload m part r taken new before now (Err NoMemory) same takes = same

pub cause_end : (m : Meaning) (part : Part) (r : GroupReader) (taken new : Taken) (before now : ℕ) (result : Result Bool Stop) → now ≡ before → Ends m part r taken new result → HasCause before now result
cause_end m part r taken new before now (Ok more) same ends = same
cause_end m part r taken new before now (Err (Damaged d)) same ends = same
cause_end m part r taken new before now (Err Disk) same ends = absurd ends
cause_end m part r taken new before now (Err NoMemory) same ends = same

-- all groups of a file that were taken
none_more : (taken : Taken) (part : Part) → and_more taken part [] ≡ taken
none_more taken Checkpoint = ap (λ (l : List (List ℕ)). record taken { base = l }) (append-nil taken.base)
none_more taken Images = ap (λ (l : List (List ℕ)). record taken { images = l }) (append-nil taken.images)
none_more taken Commits = ap (λ (l : List (List ℕ)). record taken { logged = l }) (append-nil taken.logged)

more_on : (taken : Taken) (part : Part) (payload : List ℕ) (payloads : List (List ℕ)) → and_more (and_one taken part payload) part payloads ≡ and_more taken part (payload ∷ payloads)
more_on taken Checkpoint payload payloads = ap (λ (l : List (List ℕ)). record taken { base = l }) (append_assoc taken.base (payload ∷ []) payloads)
more_on taken Images payload payloads = ap (λ (l : List (List ℕ)). record taken { images = l }) (append_assoc taken.images (payload ∷ []) payloads)
more_on taken Commits payload payloads = ap (λ (l : List (List ℕ)). record taken { logged = l }) (append_assoc taken.logged (payload ∷ []) payloads)

abbrev Whole : Part → Taken → List (List ℕ) → Bool → Taken → Type 0
Whole part taken payloads is_broken now = (is_broken ≡ false) × (now ≡ and_more taken part payloads)

ended_by : (part : Part) (taken now : Taken) (d : Damage) (is_broken ends : Bool) → (if is_broken then Err d else if ends then Ok taken else Err d) ≡ Ok now → Whole part taken [] is_broken now
ended_by part taken now d true ends is = cc
ended_by part taken now d false true is = let same : taken ≡ now = cc in (refl, sym same ∙ sym (none_more taken part))
ended_by part taken now d false false is = cc

taken_by : (part : Part) (taken now : Taken) (payload : List ℕ) (payloads : List (List ℕ)) (d : Damage) (is_broken allows : Bool) (rest : Result Taken Damage) → (rest ≡ Ok now → Whole part (and_one taken part payload) payloads is_broken now) → (if allows then rest else Err d) ≡ Ok now → Whole part taken (payload ∷ payloads) is_broken now
taken_by part taken now payload payloads d is_broken true rest on is = let all = on is in (all.0, all.1 ∙ more_on taken part payload payloads)
taken_by part taken now payload payloads d is_broken false rest on is = cc

pub all_taken : (m : Meaning) (part : Part) (taken now : Taken) (payloads : List (List ℕ)) (is_broken : Bool) → judged m part taken payloads is_broken ≡ Ok now → Whole part taken payloads is_broken now
all_taken m part taken now [] is_broken is = ended_by part taken now (next_damage taken part) is_broken (m.ends taken part) is
all_taken m part taken now (payload ∷ payloads) is_broken is =
    taken_by part taken now payload payloads (next_damage taken part) is_broken (m.allows taken part payload) (judged m part (and_one taken part payload) payloads is_broken)
    (λ rest. all_taken m part (and_one taken part payload) now payloads is_broken rest) is

-- images are taken, and nothing else
kept_by : (m : Meaning) (taken now : Taken) (groups : Groups) (counts : Bool) → (if counts then judged_groups m Images taken groups else Ok taken) ≡ Ok now → now.logged ≡ taken.logged
kept_by m taken now groups true is = ap (λ (t : Taken). t.logged) (all_taken m Images taken now groups.payloads groups.is_broken is).1
kept_by m taken now groups false is = let same : taken ≡ now = cc in ap (λ (t : Taken). t.logged) (sym same)

pub images_keep : (m : Meaning) (epoch : ℕ) (taken now : Taken) (bytes : List ℕ) → judged_counted m epoch Images taken bytes ≡ Ok now → now.logged ≡ taken.logged
images_keep m epoch taken now bytes is = kept_by m taken now (groups_of bytes) (is_of (open_epoch bytes) epoch) is

pub base_keeps : (m : Meaning) (taken now : Taken) (groups : Groups) → judged_groups m Checkpoint taken groups ≡ Ok now → taken ≡ nothing → (now.images ≡ []) × (now.logged ≡ [])
base_keeps m taken now groups is fresh =
    let all = (all_taken m Checkpoint taken now groups.payloads groups.is_broken is).1 in
    (ap (λ (t : Taken). t.images) all ∙ ap (λ (t : Taken). t.images) fresh, ap (λ (t : Taken). t.logged) all ∙ ap (λ (t : Taken). t.logged) fresh)

-- a payload was taken, and the rest is judged as before
pub goes_more : (m : Meaning) (part : Part) (bytes : List ℕ) (taken now : Taken) (old new : GroupReader) (more : Bool) → more ≡ true → Goes m part bytes taken old now new (Ok more) → left_judged m part bytes taken old ≡ left_judged m part bytes now new
goes_more m part bytes taken now old new true is goes = goes
goes_more m part bytes taken now old new false is goes = cc
