-- The point that files without damage stand for.
use Rattle.std.proofs.Common.{◌≡◌, ℕ, ◌<◌, ◌≤◌, Bool, true, false, not, if◌then◌else◌, List, [], ◌++◌, Option, Some, None, Result, Ok, Err, inl, inr, refl, sym, ◌∙◌, ap, subst, arith}
use Rattle.std.proofs.lemmas.Bool.{ltb-false, eqb-true, eqb-false, true≢false}
use Rattle.hs_host.specs.declared.file_kind.FileKind.{FileKind}
use Rattle.hs_host.specs.declared.file_kind.FileKind.TheVariants.{Script0, Script1, Log, Data, Backup}
use Rattle.hs_host.specs.Files.{Five, of}
use Rattle.hs_gate.specs.Groups.{is_open, epoch_of, groups_of, whole}
use Rattle.hs_gate.specs.Rewriting.{IsGroups}
use Rattle.hs_slots.specs.Points.{Point, slot, IsHeaded, IsOlder, Counts, IsPart, StandFor}
use Rattle.hs_slots.proofs.Parts.{to_current, to_other}
use Rattle.hs_damages.specs.declared.damage.Damage.{Damage}
use Rattle.hs_damages.specs.declared.headers.Current.{Current}
use Rattle.hs_damages.specs.declared.part.Part.{Part}
use Rattle.hs_damages.specs.declared.part.Part.TheVariants.{Checkpoint, Images, Commits}
use Rattle.hs_damages.specs.Damages.{judged_groups, judged_counted, all_judged, and_then, is_second, point_of}
use Rattle.hs_damages.specs.Meaning.{Meaning, Taken, nothing, of_part, and_more}
use Rattle.hs_damages.specs.Sighting.{headers_of, open_epoch, is_newer, is_of, sighted}
use Rattle.hs_damages.proofs.Sighted.{IsShown, shown, open_some, open_none}
use Rattle.hs_damages.proofs.Taking.{all_taken}

-- the groups of a file of which all were taken
all_groups : (m : Meaning) (part : Part) (taken now : Taken) (bytes : List ℕ) → judged_groups m part taken (groups_of bytes) ≡ Ok now → (groups_of bytes ≡ whole (groups_of bytes).payloads) × (now ≡ and_more taken part (groups_of bytes).payloads)
all_groups m part taken now bytes is =
    let all = all_taken m part taken now (groups_of bytes).payloads (groups_of bytes).is_broken is in
    (ap (λ (b : Bool). record { payloads = (groups_of bytes).payloads; is_broken = b }) all.0, all.1)

-- what is taken of a part of which nothing was
taken_alone : (taken : Taken) (part : Part) (payloads : List (List ℕ)) → of_part taken part ≡ [] → of_part (and_more taken part payloads) part ≡ payloads
taken_alone taken Checkpoint payloads none = ap (λ (l : List (List ℕ)). l ++ payloads) none
taken_alone taken Images payloads none = ap (λ (l : List (List ℕ)). l ++ payloads) none
taken_alone taken Commits payloads none = ap (λ (l : List (List ℕ)). l ++ payloads) none

alone_taken : (taken : Taken) (part : Part) → of_part taken part ≡ [] → and_more taken part [] ≡ taken
alone_taken taken Checkpoint none = ap (λ (l : List (List ℕ)). record taken { base = l ++ [] }) none ∙ ap (λ (l : List (List ℕ)). record taken { base = l }) (sym none)
alone_taken taken Images none = ap (λ (l : List (List ℕ)). record taken { images = l ++ [] }) none ∙ ap (λ (l : List (List ℕ)). record taken { images = l }) (sym none)
alone_taken taken Commits none = ap (λ (l : List (List ℕ)). record taken { logged = l ++ [] }) none ∙ ap (λ (l : List (List ℕ)). record taken { logged = l }) (sym none)

-- A log or a backup of which all was taken: it counts with just that, and nothing else was taken.
record IsTaken (part : Part) (epoch : ℕ) (taken now : Taken) (bytes : List ℕ) : Type 0 where
  counts : Counts epoch (of_part now part) bytes
  now_is : now ≡ and_more taken part (of_part now part)

counts_by : (part : Part) (epoch : ℕ) (taken now : Taken) (bytes : List ℕ) (o : Option ℕ) → open_epoch bytes ≡ o → is_of o epoch ≡ true → of_part taken part ≡ [] → (groups_of bytes ≡ whole (groups_of bytes).payloads) × (now ≡ and_more taken part (groups_of bytes).payloads)
    → IsTaken part epoch taken now bytes
counts_by part epoch taken now bytes None is so none all = cc
counts_by part epoch taken now bytes (Some e) is so none all =
    let opened = open_some bytes e is in
    let these : of_part now part ≡ (groups_of bytes).payloads = ap (λ (t : Taken). of_part t part) all.1 ∙ taken_alone taken part (groups_of bytes).payloads none in
    record {
      counts = inl (record { opened = opened.0; epoch_is = opened.1 ∙ eqb-true e epoch so; groups = all.0 ∙ ap (λ (l : List (List ℕ)). whole l) (sym these) });
      now_is = all.1 ∙ ap (λ (l : List (List ℕ)). and_more taken part l) (sym these);
    }

less_than : (x e epoch : ℕ) → x ≡ e → e ≤ epoch → (e ≡ epoch → ⊥) → x < epoch
less_than x e epoch is le other = omega (arith, is, le, other)

-- it doesn't count where it is older
older_with : (epoch : ℕ) (bytes : List ℕ) (o : Option ℕ) → open_epoch bytes ≡ o → is_of o epoch ≡ false → is_newer o epoch ≡ false → is_open bytes ≡ true → epoch_of bytes < epoch
older_with epoch bytes None is not_of not_newer opened = absurd (true≢false (sym opened ∙ open_none bytes is))
older_with epoch bytes (Some e) is not_of not_newer opened =
    let o = open_some bytes e is in
    let other = eqb-false e epoch not_of in
    let le = ltb-false epoch e not_newer in
    less_than (epoch_of bytes) e epoch o.1 le other

by_count : (m : Meaning) (part : Part) (epoch : ℕ) (taken now : Taken) (bytes : List ℕ) (counts : Bool) → is_of (open_epoch bytes) epoch ≡ counts → of_part taken part ≡ [] → IsHeaded bytes → is_newer (open_epoch bytes) epoch ≡ false
    → (if counts then judged_groups m part taken (groups_of bytes) else Ok taken) ≡ Ok now → IsTaken part epoch taken now bytes
by_count m part epoch taken now bytes true so none headed older is = counts_by part epoch taken now bytes (open_epoch bytes) refl so none (all_groups m part taken now bytes is)
by_count m part epoch taken now bytes false other none headed older is =
    let same : taken ≡ now = cc in
    let nothing_there : of_part now part ≡ [] = ap (λ (t : Taken). of_part t part) (sym same) ∙ none in
    record {
      counts = inr (record { headed = headed; older = older_with epoch bytes (open_epoch bytes) refl other older }, nothing_there);
      now_is = sym same ∙ sym (alone_taken taken part none) ∙ ap (λ (l : List (List ℕ)). and_more taken part l) (sym nothing_there);
    }

-- one part behind the other
record Then {A B : Type 0} (first : Result A Damage) (next : A → Result B Damage) (last : B) : Type 0 where
  mid : A
  first_is : first ≡ Ok mid
  next_is : next mid ≡ Ok last

split_then : {A B : Type 0} (first : Result A Damage) (next : A → Result B Damage) (last : B) → and_then first next ≡ Ok last → Then first next last
split_then (Ok x) next last is = record { mid = x; first_is = refl; next_is = is }
split_then (Err d) next last is = cc

-- what a point asks of its slots and of the other files
by_second : (p : Point) (f : Five (List ℕ)) (b : Bool) → IsPart p (slot b) (of f (slot b)) → IsPart p (slot (not b)) (of f (slot (not b))) → IsPart p Log f.log → IsPart p Data f.data_ → IsPart p Backup f.backup → (file : FileKind) → IsPart p file (of f file)
by_second p f true one two log pages backup Script0 = two
by_second p f true one two log pages backup Script1 = one
by_second p f false one two log pages backup Script0 = one
by_second p f false one two log pages backup Script1 = two
by_second p f b one two log pages backup Log = log
by_second p f b one two log pages backup Data = pages
by_second p f b one two log pages backup Backup = backup

both_headed : (f : Five (List ℕ)) (b : Bool) → IsHeaded f.script0 → IsHeaded f.script1 → IsHeaded (of f (slot b))
both_headed f true first second = second
both_headed f false first second = first

pub stands : (m : Meaning) (f : Five (List ℕ)) (current : Current) (taken : Taken) → sighted (headers_of f) ≡ Ok (Some current) → all_judged m current f ≡ Ok taken → StandFor (point_of current taken) f
stands m f current taken sight is =
    let s : IsShown f current = shown f current sight in
    let p = point_of current taken in
    let b = is_second current.slot in
    let bytes = of f current.slot in
    let first = split_then (judged_groups m Checkpoint nothing (groups_of bytes)) (λ (base : Taken). and_then (judged_counted m current.epoch Images base f.backup) (λ (images : Taken). judged_counted m current.epoch Commits images f.log)) taken is in
    let base = first.mid in
    let second = split_then (judged_counted m current.epoch Images base f.backup) (λ (images : Taken). judged_counted m current.epoch Commits images f.log) taken first.next_is in
    let images = second.mid in
    let all = all_groups m Checkpoint nothing base bytes first.first_is in
    let backup = by_count m Images current.epoch base images f.backup (is_of (open_epoch f.backup) current.epoch) refl (ap (λ (t : Taken). t.images) all.1) s.backup s.backup_not second.first_is in
    let none_logged : images.logged ≡ [] = ap (λ (t : Taken). t.logged) backup.now_is ∙ ap (λ (t : Taken). t.logged) all.1 in
    let log = by_count m Commits current.epoch images taken f.log (is_of (open_epoch f.log) current.epoch) refl none_logged s.log s.log_not second.next_is in
    let base_is : taken.base ≡ (groups_of bytes).payloads = ap (λ (t : Taken). t.base) log.now_is ∙ ap (λ (t : Taken). t.base) backup.now_is ∙ ap (λ (t : Taken). t.base) all.1 in
    let images_are : taken.images ≡ images.images = ap (λ (t : Taken). t.images) log.now_is in
    let there : of f (slot b) ≡ bytes = ap (λ (k : FileKind). of f k) s.slot_is.slot_is in
    let groups : IsGroups current.epoch taken.base bytes = record { opened = s.slot_is.opened; epoch_is = s.slot_is.epoch_is; groups = all.0 ∙ ap (λ (l : List (List ℕ)). whole l) (sym base_is) } in
    let other : IsOlder current.epoch (of f (slot (not b))) = record { headed = both_headed f (not b) s.script0 s.script1; older = s.slot_is.older } in
    by_second p f b
    (to_current p (of f (slot b)) b refl (subst (IsGroups current.epoch taken.base) (sym there) groups))
    (to_other p (of f (slot (not b))) b refl other)
    (record { born = s.log_born; counts = log.counts })
    (λ page below. absurd (omega (arith, below)))
    (record { born = s.backup_born; counts = subst (λ (l : List (List ℕ)). Counts current.epoch l f.backup) (sym images_are) backup.counts })
