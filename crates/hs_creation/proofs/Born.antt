-- The birth of the log, and what files then stand for.
use Rattle.std.proofs.Common.{◌≡◌, ℕ, ◌≤◌, Bool, true, false, ◌&&◌, ◌==◌, nat_lt, List, [], ◌∷◌, ◌++◌, length, take, Some, inl, inr, refl, sym, ◌∙◌, ap, subst, arith, length-append}
use Rattle.std.proofs.lemmas.Bool.{eqb-true}
use Rattle.std.proofs.lemmas.List.{take_all}
use Rattle.hs_host.specs.declared.file_kind.FileKind.{FileKind}
use Rattle.hs_host.specs.declared.file_kind.FileKind.TheVariants.{Script0, Script1, Log, Data, Backup}
use Rattle.hs_host.specs.Disk.{Pending, MayLeave, settled, written_at}
use Rattle.hs_host.specs.Files.{Five, of, with_, piece, overwrite, IsOnly}
use Rattle.hs_host.specs.Moments.{Moment, History, OneFile, disk_of}
use Rattle.hs_gate.specs.Crash.{BeginsWith, IsWriting, called, done}
use Rattle.hs_gate.specs.Gated.{created, empty}
use Rattle.hs_gate.specs.Groups.{is_born, eight_bytes, number_of, groups_at}
use Rattle.hs_gate.specs.Rewriting.{IsGroups}
use Rattle.hs_gate.proofs.Fronts.{created_fresh}
use Rattle.hs_gate.proofs.Numbers.{length-eight}
use Rattle.hs_gate.proofs.Torn.{stays_behind, as_before, settled_stands}
use Rattle.hs_slots.specs.Points.{IsOlder, IsBornWith, IsPart, StandFor, Means, IsSafe, IsCreating, first_point, slot}
use Rattle.hs_slots.specs.Anew.{renewed}
use Rattle.hs_slots.specs.Served.{IsHeldAs, IsServed}
use Rattle.hs_slots.proofs.Committing.{as_part}
use Rattle.hs_checkpoint.specs.Checkpoint.{created_files}
use Rattle.hs_creation.specs.Creation.{AreSettled, HaveHeaders, IsLaid, unborn_header, closed_slot, laid_files, first_files}
use Rattle.hs_creation.proofs.Settled.{five_by, disk_at, left_as, changed}
use Rattle.hs_creation.proofs.Putting.{over_first}
use Rattle.hs_creation.proofs.Unborn.{header_unborn, made_unborn, unborn_means}

-- What is left of a log whose birth is written: it is born only as the whole.
pub record IsBearing (left : List ℕ) : Type 0 where
  pub long : 11 ≤ length left
  pub whole : is_born left ≡ true → take 11 left ≡ created

pub header_length : length unborn_header ≡ 11
header_length = omega (arith, length-append (eight_bytes 1) (0 ∷ []), length-eight 1)

created_length : length created ≡ 11
created_length = omega (arith, length-append (eight_bytes 1) (0 ∷ []), length-eight 1)

both_true : (a b : Bool) → (a && b) ≡ true → b ≡ true
both_true true b e = e
both_true false b e = cc

first_one : (byte : ℕ) (bytes : List ℕ) → is_born (byte ∷ bytes) ≡ true → byte ≡ 1
first_one byte bytes born = eqb-true byte 1 (both_true (nat_lt 0 (length (byte ∷ bytes))) (byte == 1) born)

torn_whole : (left : List ℕ) → MayLeave (written_at 0 1 (settled unborn_header)) left → is_born left ≡ true → take 11 left ≡ created
torn_whole [] may born = absurd (let never : false ≡ true = born in cc)
torn_whole (byte ∷ left) may born =
    let tail = 1 ∷ eight_bytes 1 ++ 0 ∷ [] in
    let behind : piece 1 10 (byte ∷ left) ≡ piece 1 10 unborn_header = stays_behind unborn_header (byte ∷ left) 0 1 1 10 may (omega arith) (omega (arith, header_length)) in
    ap (λ (l : List ℕ). byte ∷ l) (behind ∙ take_all 10 tail (omega (arith, header_length))) ∙ ap (λ (b : ℕ). b ∷ tail) (first_one byte left born)

pub bearing_moment : (before m : Moment) → disk_of before Log ≡ settled unborn_header → IsWriting before Log 0 (1 ∷ []) unborn_header m → OneFile before Log IsBearing m
bearing_moment before m disk (called written) = record {
  disk = written_at 0 1 (disk_of before Log);
  is = written;
  each = λ left leaves.
      let may : MayLeave (written_at 0 1 (settled unborn_header)) left = subst (λ (p : Pending). MayLeave (written_at 0 1 p) left) disk leaves in
      record { long = omega (arith, may.long, header_length); whole = λ born. torn_whole left may born };
}
bearing_moment before m disk (done synced) = record {
  disk = settled created;
  is = synced;
  each = λ left leaves. record { long = omega (arith, ap length leaves, created_length); whole = λ born. ap (λ (l : List ℕ). take 11 l) leaves ∙ take_all 11 created (omega (arith, created_length)) };
}

-- a log or a backup that was just created
created_groups : IsGroups 1 [] created
unfolding eight_bytes number_of groups_at
created_groups = record { opened = refl; epoch_is = refl; groups = refl }

pub created_part : IsBornWith 1 [] created
unfolding eight_bytes
created_part = record { born = refl; counts = inl created_groups }

pub closed_older : IsOlder 1 closed_slot
closed_older = record { headed = record { two = omega arith; whole = λ gate. absurd (let never : 0 ≡ 1 = gate in cc) }; older = λ opened. absurd (let never : false ≡ true = opened in cc) }

-- what five files stand for whose log is born
stand_first : (payloads : List (List ℕ)) (f : Five (List ℕ)) → IsGroups 1 payloads f.script0 → f.script1 ≡ closed_slot → f.backup ≡ created → IsBornWith 1 [] f.log → (file : FileKind) → IsPart (first_point payloads) file (of f file)
stand_first payloads f groups closed backup log Script0 = groups
stand_first payloads f groups closed backup log Script1 = subst (IsOlder 1) (sym closed) closed_older
stand_first payloads f groups closed backup log Log = log
stand_first payloads f groups closed backup log Data = λ page below. absurd (omega (arith, below))
stand_first payloads f groups closed backup log Backup = subst (IsBornWith 1 []) (sym backup) created_part

-- a log that begins as it was created
born_log : (payloads : List (List ℕ)) (left : List ℕ) → IsBearing left → is_born left ≡ true → IsBornWith 1 [] left
born_log payloads left bearing born =
    let files = created_files payloads in
    let begins : BeginsWith 11 created left = (bearing.whole born ∙ sym (take_all 11 created (omega (arith, created_length))), bearing.long) in
    as_part 1 [] created left created_part created_groups (as_before files (empty Log 1) left (created_fresh files Log refl).stands begins)

by_birth : (payloads : List (List ℕ)) (f : Five (List ℕ)) (left : List ℕ) (born : Bool) → is_born left ≡ born → IsGroups 1 payloads f.script0 → f.script1 ≡ closed_slot → f.backup ≡ created → IsBearing left → Means (IsCreating payloads) (with_ f Log left)
by_birth payloads f left true born groups closed backup bearing = record {
  what = Some (first_point payloads);
  stand = stand_first payloads (with_ f Log left) groups closed backup (born_log payloads left bearing born);
  is = inr refl;
}
by_birth payloads f left false born groups closed backup bearing =
    unborn_means payloads (with_ f Log left) (made_unborn (with_ f Log left) born (omega (arith, bearing.long)) (omega (arith, ap length backup, created_length)))

pub bearing_means : (payloads : List (List ℕ)) (f : Five (List ℕ)) (left : List ℕ) → IsGroups 1 payloads f.script0 → f.script1 ≡ closed_slot → f.backup ≡ created → IsBearing left → Means (IsCreating payloads) (with_ f Log left)
bearing_means payloads f left groups closed backup bearing = by_birth payloads f left (is_born left) refl groups closed backup bearing

-- all but the log's birth is there
pub record IsHalfBorn (payloads : List (List ℕ)) (h : History) (f : Five (List ℕ)) : Type 0 where
  pub files_are : f ≡ record (created_files payloads) { log = unborn_header }
  pub groups : IsGroups 1 payloads f.script0
  pub settled : AreSettled h f

-- the moments of both births
pub first_birth : (payloads : List (List ℕ)) (h : History) (m : Moment) (f : Five (List ℕ)) → IsLaid payloads h f → IsWriting h.now Backup 0 (1 ∷ []) f.backup m → IsSafe (IsCreating payloads) m
first_birth payloads h m f laid writing =
    let log : f.log ≡ unborn_header = ap (λ (x : Five (List ℕ)). x.log) laid.files_are in
    let backup : f.backup ≡ unborn_header = ap (λ (x : Five (List ℕ)). x.backup) laid.files_are in
    changed (Means (IsCreating payloads)) h.now m f Backup laid.settled
    (over_first h.now m Backup f.backup 1 (disk_at h f Backup laid.settled) (omega (arith, ap length backup, header_length)) writing)
    (λ left some. unborn_means payloads (with_ f Backup left) (made_unborn (with_ f Backup left) (ap is_born log ∙ header_unborn) (omega (arith, ap length log, header_length)) some))

pub second_birth : (payloads : List (List ℕ)) (h : History) (m : Moment) (f : Five (List ℕ)) → IsHalfBorn payloads h f → IsWriting h.now Log 0 (1 ∷ []) f.log m → IsSafe (IsCreating payloads) m
second_birth payloads h m f half writing =
    let log : f.log ≡ unborn_header = ap (λ (x : Five (List ℕ)). x.log) half.files_are in
    changed (Means (IsCreating payloads)) h.now m f Log half.settled
    (bearing_moment h.now m (disk_at h f Log half.settled ∙ ap settled log) (subst (λ (l : List ℕ). IsWriting h.now Log 0 (1 ∷ []) l m) log writing))
    (λ left bearing. bearing_means payloads f left half.groups (ap (λ (x : Five (List ℕ)). x.script1) half.files_are) (ap (λ (x : Five (List ℕ)). x.backup) half.files_are) bearing)

-- and what is then there
pub half_born : (payloads : List (List ℕ)) (f new : Five (List ℕ)) → f ≡ laid_files payloads → IsOnly f Backup new → new.backup ≡ overwrite f.backup 0 (1 ∷ []) → new ≡ record (created_files payloads) { log = unborn_header }
half_born payloads f new is only bytes =
    only ∙ ap (λ (l : List ℕ). with_ f Backup l) bytes ∙ ap (λ (x : Five (List ℕ)). with_ x Backup (overwrite x.backup 0 (1 ∷ []))) is

pub all_born : (payloads : List (List ℕ)) (f new : Five (List ℕ)) → f ≡ record (created_files payloads) { log = unborn_header } → IsOnly f Log new → new.log ≡ overwrite f.log 0 (1 ∷ []) → new ≡ created_files payloads
all_born payloads f new is only bytes =
    only ∙ ap (λ (l : List ℕ). with_ f Log l) bytes ∙ ap (λ (x : Five (List ℕ)). with_ x Log (overwrite x.log 0 (1 ∷ []))) is

-- the files beside the headers
laid_each : (payloads : List (List ℕ)) (f : Five (List ℕ)) → HaveHeaders f → f.script0 ≡ renewed closed_slot 1 payloads → f.script1 ≡ closed_slot → f.data_ ≡ [] → (k : FileKind) → of f k ≡ of (laid_files payloads) k
laid_each payloads f have first second pages Script0 = first
laid_each payloads f have first second pages Script1 = second
laid_each payloads f have first second pages Log = have.log
laid_each payloads f have first second pages Data = pages
laid_each payloads f have first second pages Backup = have.backup

pub laid_are : (payloads : List (List ℕ)) (f : Five (List ℕ)) → HaveHeaders f → f.script0 ≡ renewed closed_slot 1 payloads → f.script1 ≡ closed_slot → f.data_ ≡ [] → f ≡ laid_files payloads
laid_are payloads f have first second pages = five_by f (laid_files payloads) (laid_each payloads f have first second pages)

-- how they are held then
held_first : (file : FileKind) (h : History) (f : Five (List ℕ)) → of f file ≡ created → AreSettled h f → IsHeldAs file 1 (empty file 1) h f
held_first file h f is settled = record { file_is = refl; epoch_is = refl; stands = settled_stands h f (empty file 1) (created_fresh f file is).stands (disk_at h f file settled) }

pub served_first : (payloads : List (List ℕ)) (h : History) (f : Five (List ℕ)) → IsGroups 1 payloads (created_files payloads).script0 → f ≡ created_files payloads → AreSettled h f → IsServed (first_point payloads) first_files h f
served_first payloads h f groups is settled =
    let stands : StandFor (first_point payloads) f = stand_first payloads f (subst (IsGroups 1 payloads) (sym (ap (λ (x : Five (List ℕ)). x.script0) is)) groups) (ap (λ (x : Five (List ℕ)). x.script1) is) (ap (λ (x : Five (List ℕ)). x.backup) is) (subst (IsBornWith 1 []) (sym (ap (λ (x : Five (List ℕ)). x.log) is)) created_part) in
    record {
      slot_is = refl;
      epoch = refl;
      stand = stands;
      on_disk = λ k left leaves. subst (IsPart (first_point payloads) k) (sym (left_as h.now f k left settled leaves)) (stands k);
      slots = λ second. disk_at h f (slot second) settled;
      log = held_first Log h f (ap (λ (x : Five (List ℕ)). x.log) is) settled;
      backup = held_first Backup h f (ap (λ (x : Five (List ℕ)). x.backup) is) settled;
    }
