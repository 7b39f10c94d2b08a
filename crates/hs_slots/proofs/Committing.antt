-- A log that is added to.
use Rattle.std.proofs.Common.{◌≡◌, ℕ, ◌+◌, Bool, true, false, not, List, ◌++◌, Some, inl, inr, refl, sym, ◌∙◌, ap, subst, arith}
use Rattle.hs_host.specs.declared.file_kind.FileKind.{FileKind}
use Rattle.hs_host.specs.declared.file_kind.FileKind.TheVariants.{Script0, Script1, Log, Data, Backup}
use Rattle.hs_host.specs.Disk.{Pending, Leaves, settled}
use Rattle.hs_host.specs.Files.{Five, of, IsOnly}
use Rattle.hs_host.specs.Moments.{Moment, History, Since, OneFile, disk_of}
use Rattle.hs_host.specs.Prefixes.{KeepsPrefix}
use Rattle.hs_host.proofs.Passing.{since_weaker}
use Rattle.hs_host.proofs.Torn.{front_stays}
use Rattle.hs_gate.specs.declared.gated.Gated.{Gated}
use Rattle.hs_gate.specs.Groups.{Groups, is_open, epoch_of, groups_of, and_groups}
use Rattle.hs_gate.specs.Crash.{HasSameHeader, HasMore, IsAsBefore, IsBeforeOrAfter, StandsOnDisk}
use Rattle.hs_gate.specs.Gated.{gated_of, grown}
use Rattle.hs_gate.specs.Rewriting.{IsGroups}
use Rattle.hs_gate.proofs.Torn.{as_before}
use Rattle.hs_slots.specs.declared.files.Files.{Files}
use Rattle.hs_slots.specs.Points.{Point, slot, Counts, IsBornWith, IsSlot, IsPart, IsSafe, IsCommitting, and_logged}
use Rattle.hs_slots.specs.Served.{IsHeldAs, IsServed}
use Rattle.hs_slots.proofs.Changed.{by_file, slot_log, left_there, left_elsewhere, now_elsewhere, file_elsewhere}

-- what a crash leaves of a file that is held is read as it is
pub held_left : (h : History) (files : Five (List ℕ)) (gated : Gated) (left : List ℕ) → StandsOnDisk h files gated → Leaves (disk_of h.now gated.file) left → IsAsBefore (of files gated.file) left
held_left h files gated left stands leaves = as_before files gated left stands.stands (front_stays (disk_of h.now gated.file) (gated.end + 1) (of files gated.file) left stands.calm leaves)

-- a file of an epoch that is open with it has groups
counted : (epoch : ℕ) (payloads : List (List ℕ)) (bytes : List ℕ) → Counts epoch payloads bytes → is_open bytes ≡ true → epoch_of bytes ≡ epoch → IsGroups epoch payloads bytes
counted epoch payloads bytes (inl groups) opened is = groups
counted epoch payloads bytes (inr none) opened is = absurd (let less = none.0.older opened in omega (arith, less, is))

pub held_groups : (file : FileKind) (epoch : ℕ) (gated : Gated) (h : History) (files : Five (List ℕ)) (payloads : List (List ℕ)) → IsHeldAs file epoch gated h files → Counts epoch payloads (of files file) → IsGroups epoch payloads (of files file)
held_groups file epoch gated h files payloads held counts =
    let front = held.stands.stands.front in
    let there : of files gated.file ≡ of files file = ap (λ (k : FileKind). of files k) held.file_is in
    counted epoch payloads (of files file) counts (sym (ap is_open there) ∙ front.opened)
    (sym (ap epoch_of there) ∙ sym (ap (λ (g : Gated). g.epoch) front.is) ∙ held.epoch_is)

same_header : (epoch : ℕ) (payloads more : List (List ℕ)) (old left : List ℕ) → IsGroups epoch payloads old → HasSameHeader old left → groups_of left ≡ and_groups more (groups_of old) → IsGroups epoch (payloads ++ more) left
same_header epoch payloads more old left groups header is = record {
  opened = header.gate ∙ groups.opened;
  epoch_is = header.epoch ∙ groups.epoch_is;
  groups = is ∙ ap (λ (g : Groups). and_groups more g) groups.groups;
}

same_groups : (epoch : ℕ) (payloads : List (List ℕ)) (old left : List ℕ) → IsGroups epoch payloads old → HasSameHeader old left → groups_of left ≡ groups_of old → IsGroups epoch payloads left
same_groups epoch payloads old left groups header is = record { opened = header.gate ∙ groups.opened; epoch_is = header.epoch ∙ groups.epoch_is; groups = is ∙ groups.groups }

-- a log or backup that is read as it was
pub as_part : (epoch : ℕ) (payloads : List (List ℕ)) (old left : List ℕ) → IsBornWith epoch payloads old → IsGroups epoch payloads old → IsAsBefore old left → IsBornWith epoch payloads left
as_part epoch payloads old left was groups same = record { born = same.header.birth ∙ was.born; counts = inl (same_groups epoch payloads old left groups same.header same.groups) }

-- files that are not the log are asked the same
same_slot : (p : Point) (more : List (List ℕ)) (b : Bool) (bytes : List ℕ) → IsSlot p b bytes → IsSlot (and_logged more p) b bytes
same_slot p more true bytes part = part
same_slot p more false bytes part = part

logged_part : (p : Point) (more : List (List ℕ)) (k : FileKind) (bytes : List ℕ) → (Log ≡ k → ⊥) → IsPart p k bytes → IsPart (and_logged more p) k bytes
logged_part p more Script0 bytes ne part = same_slot p more (not p.second) bytes part
logged_part p more Script1 bytes ne part = same_slot p more p.second bytes part
logged_part p more Log bytes ne part = absurd (ne refl)
logged_part p more Data bytes ne part = part
logged_part p more Backup bytes ne part = part

-- each moment while commits are logged
committing : (p : Point) (held : Files) (h : History) (files : Five (List ℕ)) (more : List (List ℕ)) (m : Moment) → IsServed p held h files → OneFile h.now Log (IsBeforeOrAfter files.log more) m → IsSafe (IsCommitting more p) m
committing p held h files more m served one left leaves =
    let groups = held_groups Log p.epoch held.log h files p.logged served.log (served.stand Log).counts in
    let now = left_there h.now m Log left.log one (leaves Log) in
    let others : (k : FileKind) → (Log ≡ k → ⊥) → IsPart p k (of left k) = λ k ne. served.on_disk k (of left k) (left_elsewhere h.now m Log k (of left k) ne one (leaves k)) in
    elim now.groups [
      | inl same ↦ record {
        what = Some p;
        stand = λ k. elim (by_file Log k) [
          | inl is ↦ subst (λ (x : FileKind). IsPart p x (of left x)) is (as_part p.epoch p.logged files.log left.log (served.stand Log) groups (record { header = now.header; groups = same }))
          | inr ne ↦ others k ne
        ];
        is = inl refl;
      }
      | inr all ↦ record {
        what = Some (and_logged more p);
        stand = λ k. elim (by_file Log k) [
          | inl is ↦ subst (λ (x : FileKind). IsPart (and_logged more p) x (of left x)) is (record { born = now.header.birth ∙ (served.stand Log).born; counts = inl (same_header p.epoch p.logged more files.log left.log groups now.header all) })
          | inr ne ↦ logged_part p more k (of left k) ne (others k ne)
        ];
        is = inr refl;
      }
    ]

pub commits_safe : (p : Point) (held : Files) (a b : History) (files : Five (List ℕ)) (more : List (List ℕ)) → IsServed p held a files → Since (OneFile a.now Log (IsBeforeOrAfter files.log more)) a b → Since (IsSafe (IsCommitting more p)) a b
commits_safe p held a b files more served ab = since_weaker ab (λ m one. committing p held a files more m served one)

-- what stands on the disk does so where neither it nor the disk changes
pub stands_on : (gated : Gated) (a b : History) (files new : Five (List ℕ)) → StandsOnDisk a files gated → disk_of b.now gated.file ≡ disk_of a.now gated.file → of new gated.file ≡ of files gated.file → StandsOnDisk b new gated
stands_on gated a b files new stands disk bytes =
    let calm = subst (λ (l : List ℕ). KeepsPrefix (disk_of b.now gated.file) (gated.end + 1) l) (sym bytes) (subst (λ (d : Pending). KeepsPrefix d (gated.end + 1) (of files gated.file)) (sym disk) stands.calm) in
    record {
      stands = record {
        front = record { opened = ap is_open bytes ∙ stands.stands.front.opened; is = stands.stands.front.is ∙ ap (λ (l : List ℕ). gated_of gated.file l (groups_of l).payloads) (sym bytes) };
        whole = ap (λ (l : List ℕ). (groups_of l).is_broken) bytes ∙ stands.stands.whole;
      };
      calm = calm;
    }

-- a file that is held stays so where neither it nor its disk changes
pub held_on : (file : FileKind) (epoch : ℕ) (gated : Gated) (a b : History) (files new : Five (List ℕ)) → IsHeldAs file epoch gated a files → disk_of b.now file ≡ disk_of a.now file → of new file ≡ of files file → IsHeldAs file epoch gated b new
held_on file epoch gated a b files new held disk bytes = record {
  file_is = held.file_is;
  epoch_is = held.epoch_is;
  stands = stands_on gated a b files new held.stands
      (ap (λ (k : FileKind). disk_of b.now k) held.file_is ∙ disk ∙ sym (ap (λ (k : FileKind). disk_of a.now k) held.file_is))
      (ap (λ (k : FileKind). of new k) held.file_is ∙ bytes ∙ sym (ap (λ (k : FileKind). of files k) held.file_is));
}

-- and then it has them
pub commits_served : (p : Point) (held : Files) (a b : History) (files new : Five (List ℕ)) (more : List (List ℕ)) → IsServed p held a files → Since (OneFile a.now Log (IsBeforeOrAfter files.log more)) a b → IsOnly files Log new → HasMore files.log more new.log → StandsOnDisk b new (grown held.log more)
    → IsServed (and_logged more p) (record held { log = grown held.log more }) b new
commits_served p held a b files new more served ab only has stands =
    let groups = held_groups Log p.epoch held.log a files p.logged served.log (served.stand Log).counts in
    let now : IsGroups p.epoch (p.logged ++ more) new.log = same_header p.epoch p.logged more files.log new.log groups has.header has.groups in
    let part : IsBornWith p.epoch (p.logged ++ more) new.log = record { born = has.header.birth ∙ (served.stand Log).born; counts = inl now } in
    record {
      slot_is = served.slot_is;
      epoch = served.epoch;
      stand = λ k. elim (by_file Log k) [
        | inl is ↦ subst (λ (x : FileKind). IsPart (and_logged more p) x (of new x)) is part
        | inr ne ↦ logged_part p more k (of new k) ne (subst (IsPart p k) (sym (file_elsewhere files new Log k ne only)) (served.stand k))
      ];
      on_disk = λ k left leaves. elim (by_file Log k) [
        | inl is ↦
            let there : disk_of b.now k ≡ disk_of b.now held.log.file = ap (λ (x : FileKind). disk_of b.now x) (sym is ∙ sym served.log.file_is) in
            let same : IsAsBefore (of new held.log.file) left = held_left b new (grown held.log more) left stands (subst (λ (d : Pending). Leaves d left) there leaves) in
            let log : IsAsBefore new.log left = subst (λ (x : FileKind). IsAsBefore (of new x) left) served.log.file_is same in
            subst (λ (x : FileKind). IsPart (and_logged more p) x left) is (as_part p.epoch (p.logged ++ more) new.log left part now log)
        | inr ne ↦ logged_part p more k left ne (served.on_disk k left (subst (λ (d : Pending). Leaves d left) (now_elsewhere Log k ne ab) leaves))
      ];
      slots = λ second.
          now_elsewhere Log (slot second) (λ is. slot_log second (sym is)) ab ∙ served.slots second
          ∙ ap settled (sym (file_elsewhere files new Log (slot second) (λ is. slot_log second (sym is)) only));
      log = record { file_is = served.log.file_is; epoch_is = served.log.epoch_is; stands = stands };
      backup = held_on Backup p.epoch held.backup a b files new served.backup (now_elsewhere Log Backup (λ is. cc) ab) (file_elsewhere files new Log Backup (λ is. cc) only);
    }
