-- What a point asks of each file.
use Rattle.std.proofs.Common.{◌≡◌, ℕ, ◌+◌, ◌<◌, Bool, true, false, not, List, [], Option, Some, inl, inr, refl, sym, ◌∙◌, ap, subst, arith}
use Rattle.hs_host.specs.declared.file_kind.FileKind.{FileKind}
use Rattle.hs_host.specs.declared.file_kind.FileKind.TheVariants.{Script0, Script1, Log, Data, Backup}
use Rattle.hs_host.specs.Disk.{Pending, Leaves}
use Rattle.hs_host.specs.Files.{Five, of}
use Rattle.hs_host.specs.Moments.{Moment, History, Since, OneFile, disk_of}
use Rattle.hs_host.proofs.Passing.{since_weaker, since_now}
use Rattle.hs_gate.specs.Groups.{Groups, is_open, epoch_of}
use Rattle.hs_gate.specs.Rewriting.{IsGroups, IsClosedOrOld}
use Rattle.hs_gate.proofs.Fronts.{open_long}
use Rattle.hs_slots.specs.Points.{Point, slot, IsHeaded, IsOlder, Counts, IsBornWith, page_in, IsSlot, IsPart, StandFor, IsUnborn, AreLeft, LeavesNoOther, IsSafe, IsOnDisk, IsSamePoint}
use Rattle.hs_slots.specs.Anew.{IsAnew}
use Rattle.hs_slots.proofs.Changed.{by_file, left_there, left_elsewhere}

-- the current slot by the point's own word
pub to_current : (p : Point) (bytes : List ℕ) (b : Bool) → p.second ≡ b → IsGroups p.epoch p.base bytes → IsPart p (slot b) bytes
to_current p bytes true is groups = subst (λ (s : Bool). IsSlot p s bytes) (sym is) groups
to_current p bytes false is groups = subst (λ (s : Bool). IsSlot p (not s) bytes) (sym is) groups

pub from_current : (p : Point) (bytes : List ℕ) (b : Bool) → p.second ≡ b → IsPart p (slot b) bytes → IsGroups p.epoch p.base bytes
from_current p bytes true is part = subst (λ (s : Bool). IsSlot p s bytes) is part
from_current p bytes false is part = subst (λ (s : Bool). IsSlot p (not s) bytes) is part

-- and the other one
pub to_other : (p : Point) (bytes : List ℕ) (b : Bool) → p.second ≡ b → IsOlder p.epoch bytes → IsPart p (slot (not b)) bytes
to_other p bytes true is older = subst (λ (s : Bool). IsSlot p (not s) bytes) (sym is) older
to_other p bytes false is older = subst (λ (s : Bool). IsSlot p s bytes) (sym is) older

pub from_other : (p : Point) (bytes : List ℕ) (b : Bool) → p.second ≡ b → IsPart p (slot (not b)) bytes → IsOlder p.epoch bytes
from_other p bytes true is part = subst (λ (s : Bool). IsSlot p (not s) bytes) is part
from_other p bytes false is part = subst (λ (s : Bool). IsSlot p s bytes) is part

pub open_headed : (bytes : List ℕ) → is_open bytes ≡ true → IsHeaded bytes
open_headed bytes opened = let long = open_long bytes opened in record { two = omega (arith, long); whole = λ gate. omega (arith, long) }

-- what counts of an epoch is older than the next
pub groups_older : (epoch : ℕ) (payloads : List (List ℕ)) (bytes : List ℕ) → IsGroups epoch payloads bytes → IsOlder (epoch + 1) bytes
groups_older epoch payloads bytes groups = record { headed = open_headed bytes groups.opened; older = λ opened. omega (arith, groups.epoch_is) }

pub counted_older : (epoch : ℕ) (payloads : List (List ℕ)) (bytes : List ℕ) → Counts epoch payloads bytes → IsOlder (epoch + 1) bytes
counted_older epoch payloads bytes (inl groups) = groups_older epoch payloads bytes groups
counted_older epoch payloads bytes (inr none) = record { headed = none.0.headed; older = λ opened. let less = none.0.older opened in omega (arith, less) }

-- a file that isn't open, or was and has its epoch, is older where it was
pub closed_older : (epoch : ℕ) (old left : List ℕ) → IsOlder epoch old → IsHeaded left → IsClosedOrOld old left → IsOlder epoch left
closed_older epoch old left older headed (inl closed) = record { headed = headed; older = λ opened. absurd (let never : true ≡ false = sym opened ∙ closed in cc) }
closed_older epoch old left older headed (inr same) = record { headed = headed; older = λ opened. let less = older.older same.0 in omega (arith, less, same.1) }

-- a log or backup that didn't count is started with this epoch
pub started_part : (epoch : ℕ) (old left : List ℕ) → IsBornWith epoch [] old → IsOlder epoch old → IsAnew old epoch [] left → IsBornWith epoch [] left
started_part epoch old left was older anew = record {
  born = anew.birth ∙ was.born;
  counts = elim anew.behind [ inl closed ↦ inr (closed_older epoch old left older anew.headed closed, refl) | inr groups ↦ inl groups ];
}

-- a call that leaves of its one file what the point asks changes nothing
pub on_disk_on : (p : Point) (before m : Moment) (file : FileKind) → IsOnDisk p before → OneFile before file (IsPart p file) m → IsOnDisk p m
on_disk_on p before m file on one k left leaves = elim (by_file file k) [
  | inl same ↦ subst (λ (x : FileKind). IsPart p x left) same (left_there before m file left one (subst (λ (x : FileKind). Leaves (disk_of m x) left) (sym same) leaves))
  | inr other ↦ on k left (left_elsewhere before m file k left other one leaves)
]

pub inert : (p : Point) (a b : History) (file : FileKind) → IsOnDisk p a.now → Since (OneFile a.now file (IsPart p file)) a b → Since (IsOnDisk p) a b
inert p a b file on ab = since_weaker ab (λ m one. on_disk_on p a.now m file on one)

pub on_disk_now : (p : Point) (a b : History) → IsOnDisk p a.now → Since (IsOnDisk p) a b → IsOnDisk p b.now
on_disk_now p a b on ab = elim (since_now ab) [ inl same ↦ subst (IsOnDisk p) (sym same) on | inr now ↦ now ]

-- a point that is on the disk is what files stand for after a crash
pub on_disk_safe : (M : Option Point → Type 0) (p : Point) (m : Moment) → M (Some p) → IsOnDisk p m → IsSafe M m
on_disk_safe M p m is on files leaves = record { what = Some p; stand = λ file. on file (of files file) (leaves file); is = is }

pub safe_weaker : (M N : Option Point → Type 0) (m : Moment) → IsSafe M m → ((what : Option Point) → M what → N what) → IsSafe N m
safe_weaker M N m safe f files leaves = let means = safe files leaves in record { what = means.what; stand = means.stand; is = f means.what means.is }

pub safe_on : (M : Option Point → Type 0) (before m : Moment) → LeavesNoOther before m → IsSafe M before → IsSafe M m
safe_on M before m fewer safe files leaves = safe files (λ file. fewer file (of files file) (leaves file))

pub left_fewer : (before m : Moment) (files : Five (List ℕ)) → LeavesNoOther before m → AreLeft m files → AreLeft before files
left_fewer before m files fewer leaves file = fewer file (of files file) (leaves file)

pub on_disk_fewer : (p : Point) (before m : Moment) → LeavesNoOther before m → IsOnDisk p before → IsOnDisk p m
on_disk_fewer p before m fewer on file left leaves = on file left (fewer file left leaves)

pub same_disks : (before m : Moment) → m.disks ≡ before.disks → LeavesNoOther before m
same_disks before m is file left leaves = subst (λ (d : Five Pending). Leaves (of d file) left) is leaves

-- files stand for one point

counts_once : (e f : ℕ) (xs ys : List (List ℕ)) (bytes : List ℕ) → e ≡ f → Counts e xs bytes → Counts f ys bytes → xs ≡ ys
counts_once e f xs ys bytes same (inl x) (inl y) = ap (λ (g : Groups). g.payloads) (sym x.groups ∙ y.groups)
counts_once e f xs ys bytes same (inl x) (inr y) = absurd (let less = y.0.older x.opened in omega (arith, less, same, x.epoch_is))
counts_once e f xs ys bytes same (inr x) (inl y) = absurd (let less = x.0.older y.opened in omega (arith, less, same, y.epoch_is))
counts_once e f xs ys bytes same (inr x) (inr y) = x.1 ∙ sym y.1

epoch_once : (p q : Point) (files : Five (List ℕ)) → p.second ≡ q.second → StandFor p files → StandFor q files → IsSamePoint p q
epoch_once p q files second ps qs =
    let at = of files (slot q.second) in
    let one : IsGroups p.epoch p.base at = from_current p at q.second second (ps (slot q.second)) in
    let two : IsGroups q.epoch q.base at = from_current q at q.second refl (qs (slot q.second)) in
    let epoch : p.epoch ≡ q.epoch = sym one.epoch_is ∙ two.epoch_is in
    let images : p.images ≡ q.images = counts_once p.epoch q.epoch p.images q.images files.backup epoch (ps Backup).counts (qs Backup).counts in
    record {
      second = second;
      epoch = epoch;
      base = ap (λ (g : Groups). g.payloads) (sym one.groups ∙ two.groups);
      logged = counts_once p.epoch q.epoch p.logged q.logged files.log epoch (ps Log).counts (qs Log).counts;
      images = images;
      pages = λ page here there. sym (ps Data page here) ∙ ap (λ (l : List (List ℕ)). Some (page_in l files.data_ page)) images ∙ qs Data page there;
    }

other_of : (q : Point) (files : Five (List ℕ)) (b : Bool) → q.second ≡ not b → StandFor q files → IsOlder q.epoch (of files (slot b))
other_of q files true is qs = from_other q (of files Script1) false is (qs Script1)
other_of q files false is qs = from_other q (of files Script0) true is (qs Script0)

-- each of two slots can't be the one of the greater epoch
one_slot : (p q : Point) (files : Five (List ℕ)) (b : Bool) → p.second ≡ b → q.second ≡ not b → StandFor p files → StandFor q files → ⊥
one_slot p q files b pb qb ps qs =
    let here = of files (slot b) in
    let there = of files (slot (not b)) in
    let one : IsGroups p.epoch p.base here = from_current p here b pb (ps (slot b)) in
    let two : IsGroups q.epoch q.base there = from_current q there (not b) qb (qs (slot (not b))) in
    let less : epoch_of there < p.epoch = (from_other p there b pb (ps (slot (not b)))).older two.opened in
    let more : epoch_of here < q.epoch = (other_of q files b qb qs).older one.opened in
    omega (arith, less, more, one.epoch_is, two.epoch_is)

by_slots : (p q : Point) (files : Five (List ℕ)) (a b : Bool) → p.second ≡ a → q.second ≡ b → StandFor p files → StandFor q files → IsSamePoint p q
by_slots p q files true true pa qb ps qs = epoch_once p q files (pa ∙ sym qb) ps qs
by_slots p q files false false pa qb ps qs = epoch_once p q files (pa ∙ sym qb) ps qs
by_slots p q files true false pa qb ps qs = absurd (one_slot p q files true pa qb ps qs)
by_slots p q files false true pa qb ps qs = absurd (one_slot p q files false pa qb ps qs)

pub same_point : (files : Five (List ℕ)) (p q : Point) → StandFor p files → StandFor q files → IsSamePoint p q
same_point files p q ps qs = by_slots p q files p.second q.second refl refl ps qs

pub born_or_not : (files : Five (List ℕ)) (p : Point) → StandFor p files → IsUnborn files → ⊥
born_or_not files p ps unborn = unborn.unborn (ps Log).born (ps Backup).born
