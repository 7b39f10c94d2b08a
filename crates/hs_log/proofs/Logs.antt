-- The log with more texts.
use Rattle.std.proofs.Common.{◌≡◌, inl, inr, ℕ, ◌+◌, ◌<◌, ◌==◌, ◌&&◌, Bool, true, false, List, [], ◌∷◌, ◌++◌, length, Result, Ok, Err, OnErr, refl, sym, subst, ◌∙◌, ap, arith}
use Rattle.std.proofs.lemmas.Bool.{and_parts, and_from, eqb-true, eq-eqb}
use Rattle.std.proofs.lemmas.Bool.Decides.{nat_tests}
use Rattle.hs_host.specs.declared.file_kind.FileKind.{FileKind}
use Rattle.hs_host.specs.declared.file_kind.FileKind.TheVariants as file
use Rattle.hs_host.specs.declared.source.Source as source
use Rattle.hs_host.specs.declared.host.Host as host
use Rattle.hs_host.specs.Disk.{Pending, Leaves, settled}
use Rattle.hs_host.specs.Files.{Five, of, IsOnly}
use Rattle.hs_host.specs.Moments.{Moment, History, Since, OneFile, IsStill, disk_of, with_disk}
use Rattle.hs_host.specs.Prefixes.{KeepsPrefix}
use Rattle.hs_host.specs.Used.{Told, ReadsFiles, Moves, ChangesFile}
use Rattle.hs_host.proofs.Changing.{one_weaker}
use Rattle.hs_host.proofs.Passing.{since_weaker, since_join, since_now}
use Rattle.hs_host.proofs.Torn.{front_stays}
use Rattle.hs_host.proofs.Used.{told_on, uses_on, reads_on, only_on, still_only}
use Rattle.hs_gate.specs.declared.gated.Gated.{Gated}
use Rattle.hs_gate.specs.Crash.{HasSameHeader, HasMore, IsAny, IsAsBefore, IsCalm, IsBeforeOrAfter, StandsOnDisk}
use Rattle.hs_gate.specs.Gated.{IsGated, IsAtRest, IsUnbornOrCreated, grown, empty, created}
use Rattle.hs_gate.specs.Groups.{Groups, is_open, epoch_of, groups_of, groups_at, whole, and_groups, end_of}
use Rattle.hs_gate.proofs.Fronts.{created_fresh, end_within}
use Rattle.hs_gate.proofs.Moments.{settled_keeps}
use Rattle.hs_gate.proofs.Torn.{as_before}
use Rattle.hs_log.specs.declared.log.Log.{Log}
use Rattle.hs_log.specs.declared.log_reader.LogReader.{LogReader}
use Rattle.hs_log.specs.Log.{IsLogOf, IsWholeLog, IsSameLog, IsLog, IsOpening, IsUnbornOrNew, HasNoneOrAll, is_born, texts_of, is_broken, has_header, epoch_in}
use Rattle.hs_log.specs.LogReading.{IsBegun, left_in, place_in}

whole_by : (g : Groups) → g.is_broken ≡ false → g ≡ whole g.payloads
whole_by g is = ap (λ (b : Bool). record g { is_broken = b }) is

-- the log is one of its own texts
pub log_of : (h : History) (files : Five (List ℕ)) (log : Log) → IsLog h files log → IsLogOf (epoch_in log) (texts_of files.log) files.log
log_of h files log is =
    let front = is.rest.stands.front in
    let there : of files log.gated.file ≡ files.log = ap (λ (k : FileKind). of files k) is.file in
    record {
      born = is.born;
      groups = record {
        opened = sym (ap is_open there) ∙ front.opened;
        epoch_is = sym (ap (λ (g : Gated). g.epoch) front.is ∙ ap epoch_of there);
        groups = whole_by (groups_of files.log) (sym (ap (λ (l : List ℕ). (groups_of l).is_broken) there) ∙ is.rest.stands.whole);
      };
    }

-- with the same header and groups it is the same
pub same_log : (epoch : ℕ) (texts : List (List ℕ)) (old left : List ℕ) → IsLogOf epoch texts old → HasSameHeader old left → groups_of left ≡ groups_of old → IsLogOf epoch texts left
same_log epoch texts old left log header groups = record {
  born = header.birth ∙ log.born;
  groups = record { opened = header.gate ∙ log.groups.opened; epoch_is = header.epoch ∙ log.groups.epoch_is; groups = groups ∙ log.groups.groups };
}

pub more_log : (epoch : ℕ) (texts more : List (List ℕ)) (old left : List ℕ) → IsLogOf epoch texts old → HasSameHeader old left → groups_of left ≡ and_groups more (groups_of old) → IsLogOf epoch (texts ++ more) left
more_log epoch texts more old left log header groups = record {
  born = header.birth ∙ log.born;
  groups = record { opened = header.gate ∙ log.groups.opened; epoch_is = header.epoch ∙ log.groups.epoch_is; groups = groups ∙ ap (λ (g : Groups). and_groups more g) log.groups.groups };
}

-- what a crash leaves of it
pub none_or_all : (h : History) (files : Five (List ℕ)) (log : Log) (more : List (List ℕ)) (left : List ℕ) → IsLog h files log → IsBeforeOrAfter (of files log.gated.file) more left → HasNoneOrAll (epoch_in log) (texts_of files.log) more left
none_or_all h files log more left is leaves =
    let there : of files log.gated.file ≡ files.log = ap (λ (k : FileKind). of files k) is.file in
    let torn : IsBeforeOrAfter files.log more left = rw there at leaves in
    elim torn.groups [
      | inl same ↦ inl (same_log (epoch_in log) (texts_of files.log) files.log left (log_of h files log is) torn.header same)
      | inr all ↦ inr (more_log (epoch_in log) (texts_of files.log) more files.log left (log_of h files log is) torn.header all)
    ]

-- and what it is with them
pub log_more : (old new : History) (files now : Five (List ℕ)) (log after : Log) (more : List (List ℕ)) → IsLog old files log → after.gated ≡ grown log.gated more → HasMore (of files log.gated.file) more (of now log.gated.file)
    → IsAtRest now after.gated → StandsOnDisk new now after.gated → IsLog new now after × (texts_of now.log ≡ texts_of files.log ++ more)
log_more old new files now log after more is after_is has rest stands =
    let file : after.gated.file ≡ file.Log = ap (λ (g : Gated). g.file) after_is ∙ is.file in
    let there : HasMore files.log more now.log = rw is.file at has in (
      record { file = file; born = there.header.birth ∙ is.born; rest = rest; calm = stands.calm },
      ap (λ (g : Groups). g.payloads) there.groups,
    )

-- a change of the file that is the log
pub as_log : {H : Type 0} {s : source.Ghosts H} {g : host.Ghosts H} {a b : H} (kind : FileKind) (Q R : List ℕ → Type 0) → ChangesFile s g kind Q a b
    → (Told s g a → (kind ≡ file.Log) × ((left : List ℕ) → Q left → R left)) → ChangesFile s g file.Log R a b
as_log {H} {s} {g} {a} {b} kind Q R ab f = record {
  uses = ab.uses;
  others = λ told. subst (λ (k : FileKind). IsOnly (g.files a) k (g.files b)) (f told).0 (ab.others told);
  moments = λ told. subst (λ (k : FileKind). Since (OneFile (g.history a).now k R) (g.history a) (g.history b)) (f told).0
      (since_weaker (ab.moments told) (λ m one. one_weaker (g.history a).now m kind one (f told).1));
}

-- what is read as a log of these texts was is one
same_parts : (epoch : ℕ) (texts : List (List ℕ)) (old left : List ℕ) → IsLogOf epoch texts old → IsSameLog old left → (is_open left && epoch_of left == epoch) ≡ true → IsLogOf epoch texts left
same_parts epoch texts old left log same header =
    let parts = and_parts (is_open left) (epoch_of left == epoch) header in
    record {
      born = same.born ∙ log.born;
      groups = record {
        opened = parts.0;
        epoch_is = eqb-true (epoch_of left) epoch parts.1;
        groups =
            whole_by (groups_of left) (same.broken ∙ ap (λ (g : Groups). g.is_broken) log.groups.groups)
            ∙ ap whole (same.texts ∙ ap (λ (g : Groups). g.payloads) log.groups.groups);
      };
    }

pub same_is : (epoch : ℕ) (texts : List (List ℕ)) (old left : List ℕ) → IsLogOf epoch texts old → IsSameLog old left → IsLogOf epoch texts left
same_is epoch texts old left log same =
    same_parts epoch texts old left log same
    (same.header epoch ∙ and_from (is_open old) (epoch_of old == epoch) log.groups.opened (eq-eqb (epoch_of old) epoch log.groups.epoch_is))

-- how a log of these texts is read
pub log_parts : (epoch : ℕ) (texts : List (List ℕ)) (bytes : List ℕ) → IsLogOf epoch texts bytes
    → (is_born bytes ≡ true) × (has_header epoch bytes ≡ true) × (texts_of bytes ≡ texts) × (is_broken bytes ≡ false)
log_parts epoch texts bytes log = (
  log.born,
  and_from (is_open bytes) (epoch_of bytes == epoch) log.groups.opened (eq-eqb (epoch_of bytes) epoch log.groups.epoch_is),
  ap (λ (g : Groups). g.payloads) log.groups.groups,
  ap (λ (g : Groups). g.is_broken) log.groups.groups,
)

-- the same header and the same groups
pub same_of : (old left : List ℕ) → IsAsBefore old left → IsSameLog old left
same_of old left before = record {
  born = before.header.birth;
  header = λ epoch. ap (λ (b : Bool). b && epoch_of left == epoch) before.header.gate ∙ ap (λ (n : ℕ). is_open old && n == epoch) before.header.epoch;
  texts = ap (λ (g : Groups). g.payloads) before.groups;
  broken = ap (λ (g : Groups). g.is_broken) before.groups;
}

-- whatever a crash leaves of a log that is kept is read as it was
pub log_left : (h : History) (files : Five (List ℕ)) (log : Log) (left : List ℕ) → IsLog h files log → Leaves (disk_of h.now file.Log) left → IsSameLog files.log left
log_left h files log left is leaves =
    let there : of files log.gated.file ≡ files.log = ap (λ (k : FileKind). of files k) is.file in
    let mine : Leaves (disk_of h.now log.gated.file) left = rw is.file leaves in
    let same : IsAsBefore (of files log.gated.file) left =
    as_before files log.gated left is.rest.stands (front_stays (disk_of h.now log.gated.file) (log.gated.end + 1) (of files log.gated.file) left is.calm mine) in
    same_of files.log left (rw there at same)

-- nothing stands behind its texts
pub whole_log : (h : History) (files : Five (List ℕ)) (log : Log) → IsLog h files log → IsWholeLog (epoch_in log) (texts_of files.log) files.log
whole_log h files log is =
    let there : of files log.gated.file ≡ files.log = ap (λ (k : FileKind). of files k) is.file in
    record {
      log = log_of h files log is;
      last =
          sym (ap length there) ∙ is.rest.last
          ∙ ap (λ (n : ℕ). n + 1) (ap (λ (g : Gated). g.end) is.rest.stands.front.is ∙ ap (λ (bytes : List ℕ). end_of (groups_of bytes).payloads) there);
    }

-- it is kept so where neither the files nor the disk were changed
pub log_on : (a b : History) (old new : Five (List ℕ)) (log : Log) → b.now.disks ≡ a.now.disks → new ≡ old → IsLog a old log → IsLog b new log
log_on a b old new log disks same is = record {
  file = is.file;
  born = subst (λ (f : Five (List ℕ)). is_born f.log ≡ true) (sym same) is.born;
  rest = subst (λ (f : Five (List ℕ)). IsAtRest f log.gated) (sym same) is.rest;
  calm = subst (λ (f : Five (List ℕ)). KeepsPrefix (disk_of b.now log.gated.file) (log.gated.end + 1) (of f log.gated.file)) (sym same)
      (subst (λ (d : Five Pending). KeepsPrefix (of d log.gated.file) (log.gated.end + 1) (of old log.gated.file)) (sym disks) is.calm);
}

-- a log that is settled where it was all on the disk
pub settle_same : (h : History) (files : Five (List ℕ)) (gated : Gated) (left : List ℕ) → gated.file ≡ file.Log → IsGated files gated → (IsCalm h files gated → IsAsBefore (of files gated.file) left)
    → disk_of h.now file.Log ≡ settled files.log → IsSameLog files.log left
settle_same h files gated left kind stands leaves quiet =
    let there : of files gated.file ≡ files.log = ap (λ (k : FileKind). of files k) kind in
    let disk : disk_of h.now gated.file ≡ settled (of files gated.file) = ap (disk_of h.now) kind ∙ quiet ∙ ap settled (sym there) in
    let within : gated.end < length (of files gated.file) = end_within files gated stands.front in
    let calm : IsCalm h files gated =
    subst (λ (p : Pending). KeepsPrefix p (gated.end + 1) (of files gated.file)) (sym disk) (settled_keeps (of files gated.file) (of files gated.file) (gated.end + 1) (omega (arith, within)) refl) in
    same_of files.log left (subst (λ (l : List ℕ). IsAsBefore l left) there (leaves calm))

-- a new log has no texts
no_texts : (texts : List (List ℕ)) → length texts ≡ 0 → texts ≡ []
no_texts [] is = refl
no_texts (text ∷ texts) is = absurd (omega (arith, is))

-- five files of which four are empty
alone : List ℕ → Five (List ℕ)
alone log = record { script0 = []; script1 = []; log = log; data_ = []; backup = [] }

created_whole : IsWholeLog 1 [] created
unfolding alone
created_whole =
    let rest : IsAtRest (alone created) (empty file.Log 1) = created_fresh (alone created) file.Log refl in
    let none : (groups_of created).payloads ≡ [] = no_texts _ (sym (ap (λ (g : Gated). g.groups) rest.stands.front.is)) in
    record {
      log = record {
        born = grind (arith, nat_tests);
        groups = record {
          opened = rest.stands.front.opened;
          epoch_is = sym (ap (λ (g : Gated). g.epoch) rest.stands.front.is);
          groups = whole_by (groups_of created) rest.stands.whole ∙ ap whole none;
        };
      };
      last = rest.last;
    }

pub unborn_or_new : (left : List ℕ) → IsUnbornOrCreated left → IsUnbornOrNew left
unborn_or_new left (inl unborn) = inl unborn
unborn_or_new left (inr made) = inr (subst (IsWholeLog 1 []) (sym made) created_whole)

pub on_err : {T E P : Type 0} (result : Result T E) → P → OnErr result P
on_err (Ok x) p = tt
on_err (Err e) p = p

-- a change behind reads is one from the start
still_with : {a b : History} (d : Pending) → Since (IsStill a.now) a b → with_disk b.now file.Log d ≡ with_disk a.now file.Log d
still_with d ab = elim (since_now ab) [
  | inl is ↦ ap (λ (m : Moment). with_disk m file.Log d) is
  | inr still ↦ ap (λ (m : Moment). with_disk m file.Log d) still
]

-- while a log is opened it is only read
pub opening_reads : {H : Type 0} {s : source.Ghosts H} {g : host.Ghosts H} {a b : H} → ReadsFiles s g a b → Moves s g file.Log (IsOpening (g.files a) (g.history a).now) a b
opening_reads {H} {s} {g} {a} {b} ab = record {
  uses = ab.uses;
  others = λ told. still_only (g.files a) (g.files b) file.Log (ab.files told);
  moments = λ told. since_weaker (ab.moments told) (λ m is. inl is);
}

-- or made
pub opening_makes : {H : Type 0} {s : source.Ghosts H} {g : host.Ghosts H} {a b c : H} → (Told s g a → is_born (g.files a).log ≡ false) → ReadsFiles s g a b → ChangesFile s g file.Log IsAny b c
    → Moves s g file.Log (IsOpening (g.files a) (g.history a).now) a c
opening_makes {H} {s} {g} {a} {b} {c} unborn ab bc = record {
  uses = uses_on ab.uses bc.uses;
  others = λ told. only_on (g.files a) (g.files b) (g.files c) file.Log (still_only (g.files a) (g.files b) file.Log (ab.files told)) (bc.others (told_on ab.uses told));
  moments = λ told. since_join (since_weaker (ab.moments told) (λ m is. inl is))
      (since_weaker (bc.moments (told_on ab.uses told)) (λ m one. inr (record {
        unborn = unborn told;
        log = record { disk = one.disk; is = one.is ∙ still_with one.disk (ab.moments told); each = one.each };
      })));
}

-- a log that is read behind other reads
pub begun_on : {H : Type 0} {s : source.Ghosts H} {g : host.Ghosts H} {a b c : H} {r : LogReader} → ReadsFiles s g a b → IsBegun s g b c r → IsBegun s g a c r
begun_on {H} {s} {g} {a} {b} {c} {r} ab bc = record {
  reads = reads_on ab bc.reads;
  reading = bc.reading;
  none = bc.none;
  born = λ told. subst (λ (f : Five (List ℕ)). is_born f.log ≡ true) (ab.files told) (bc.born (told_on ab.uses told));
  header = λ told. subst (λ (f : Five (List ℕ)). has_header 1 f.log ≡ true) (ab.files told) (bc.header (told_on ab.uses told));
  texts = λ told. subst (λ (f : Five (List ℕ)). left_in r f.log ≡ texts_of f.log) (ab.files told) (bc.texts (told_on ab.uses told));
}

-- where no text was read, the same are left
pub left_same : (old new : LogReader) (bytes : List ℕ) → place_in new ≡ place_in old → left_in new bytes ≡ left_in old bytes
left_same old new bytes same = ap (λ (n : ℕ). (groups_at n bytes).payloads) same
