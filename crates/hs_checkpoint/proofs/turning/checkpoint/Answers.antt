use Rattle.std.proofs.Common.{◌≡◌, ℕ, ◌+◌, Bool, not, List, [], inl, inr, refl, sym, ◌∙◌, ap, subst}
use Rattle.hs_host.specs.declared.file_kind.FileKind.{FileKind}
use Rattle.hs_host.specs.declared.file_kind.FileKind.TheVariants.{Log, Data, Backup}
use Rattle.hs_host.specs.Disk.{settled}
use Rattle.hs_host.specs.Files.{of}
use Rattle.hs_host.specs.Moments.{Since, OneFile, disk_of}
use Rattle.hs_host.specs.Used.{Told}
use Rattle.hs_host.proofs.Passing.{since_join}
use Rattle.hs_host.proofs.Used.{told_on, told_back}
use Rattle.hs_gate.specs.declared.gated.Gated.{Gated}
use Rattle.hs_gate.specs.Rewriting.{IsReady, IsGroups}
use Rattle.hs_slots.specs.Points.{Point, slot, IsOlder, IsSafe, IsOnDisk, IsTurning, turned}
use Rattle.hs_slots.specs.Anew.{IsAnew, renewed}
use Rattle.hs_slots.specs.Served.{IsHeldAs, IsServed}
use Rattle.hs_slots.proofs.Changed.{slots_differ, slot_log, slot_backup, now_elsewhere, file_elsewhere}
use Rattle.hs_slots.proofs.Parts.{from_other, counted_older, on_disk_now}
use Rattle.hs_slots.proofs.Turning.{turning, turned_on_disk}
use Rattle.hs_slots.proofs.Committing.{held_on}
use Rattle.hs_checkpoint.specs.Checkpoint.{DoesNotCount}
use Rattle.hs_checkpoint.proofs.Turns.{slot_data, settled_ready, held_ready, same_ready, turned_safe, this_or_other}
use Rattle.hs_checkpoint.proofs.turning.checkpoint.Goals as goal
use Rattle.hs_checkpoint.proofs.turning.checkpoint.Goals.{After-rewrite, In_ok-rewrite, After-restart, In_ok-backup, After-restart-2, In_ok-log}

-- what a checkpoint begins with
record Begins (g : _) (c : After-rewrite g) (p : Point) : Type 0 where
  told : Told g.H.Source g.H.Host c.args.host.now
  served : IsServed p c.args.files.now (g.H.Host.history c.args.host.now) (g.H.Host.files c.args.host.now)
  none : p.images ≡ []

file : (g : _) (c : After-rewrite g) (p : Point) → Begins g c p → c.other_slot-slot.result ≡ slot (not p.second)
file g c p b = c.other_slot-slot.ensures p.second b.served.slot_is

older : (g : _) (c : After-rewrite g) (p : Point) → Begins g c p → IsOlder p.epoch (of (g.H.Host.files c.args.host.now) (slot (not p.second)))
older g c p b = from_other p _ p.second refl (b.served.stand (slot (not p.second)))

-- the other slot is written
writing : (g : _) (c : After-rewrite g) (p : Point) → Begins g c p → Since (OneFile (g.H.Host.history c.args.host.now).now (slot (not p.second)) (IsAnew (of (g.H.Host.files c.args.host.now) (slot (not p.second))) (p.epoch + 1) (g.S.Stand.groups c.args.store.now))) (g.H.Host.history c.args.host.now) (g.H.Host.history c.rewrite.new.host)
writing g c p b =
    subst (λ (k : FileKind). Since (OneFile (g.H.Host.history c.args.host.now).now k (IsAnew (of (g.H.Host.files c.args.host.now) k) (p.epoch + 1) (g.S.Stand.groups c.args.store.now))) (g.H.Host.history c.args.host.now) (g.H.Host.history c.rewrite.new.host)) (file g c p b)
    (subst (λ (e : ℕ). Since (OneFile (g.H.Host.history c.args.host.now).now c.other_slot-slot.result (IsAnew (of (g.H.Host.files c.args.host.now) c.other_slot-slot.result) (e + 1) (g.S.Stand.groups c.args.store.now))) (g.H.Host.history c.args.host.now) (g.H.Host.history c.rewrite.new.host)) b.served.epoch
    (c.rewrite.ensures.changes.moments b.told))

first : (g : _) (c : After-rewrite g) (p : Point) → Begins g c p → Since (IsSafe (IsTurning (g.S.Stand.groups c.args.store.now) p)) (g.H.Host.history c.args.host.now) (g.H.Host.history c.rewrite.new.host)
first g c p b = turning p _ _ _ _ b.served.on_disk b.none (older g c p b) (writing g c p b)

settled_slot : (g : _) (c : In_ok-rewrite g) (p : Point) → Begins g (goal.at.In_ok-rewrite g c).After-rewrite p → disk_of (g.H.Host.history c.rewrite.new.host).now (slot (not p.second)) ≡ settled (of (g.H.Host.files c.rewrite.new.host) (slot (not p.second)))
settled_slot g c p b = subst (λ (k : FileKind). disk_of (g.H.Host.history c.rewrite.new.host).now k ≡ settled (of (g.H.Host.files c.rewrite.new.host) k)) (file g (goal.at.In_ok-rewrite g c).After-rewrite p b) (c.in_ok-rewrite.ensures.settled b.told)

slot_groups : (g : _) (c : In_ok-rewrite g) (p : Point) → Begins g (goal.at.In_ok-rewrite g c).After-rewrite p → IsGroups (p.epoch + 1) (g.S.Stand.groups c.args.store.now) (of (g.H.Host.files c.rewrite.new.host) (slot (not p.second)))
slot_groups g c p b =
    subst (λ (k : FileKind). IsGroups (p.epoch + 1) (g.S.Stand.groups c.args.store.now) (of (g.H.Host.files c.rewrite.new.host) k)) (file g (goal.at.In_ok-rewrite g c).After-rewrite p b)
    (subst (λ (e : ℕ). IsGroups (e + 1) (g.S.Stand.groups c.args.store.now) (of (g.H.Host.files c.rewrite.new.host) c.other_slot-slot.result)) b.served.epoch (c.in_ok-rewrite.ensures.groups b.told))

mid : (g : _) (c : In_ok-rewrite g) (p : Point) → Begins g (goal.at.In_ok-rewrite g c).After-rewrite p → IsOnDisk (turned (g.S.Stand.groups c.args.store.now) p) (g.H.Host.history c.rewrite.new.host).now
mid g c p b = turned_on_disk p _ _ _ _ b.served.on_disk b.none (writing g (goal.at.In_ok-rewrite g c).After-rewrite p b) (settled_slot g c p b) (slot_groups g c p b)

-- what the disk and a read have of the other files is as before
kept : (g : _) (c : In_ok-rewrite g) (p : Point) → Begins g (goal.at.In_ok-rewrite g c).After-rewrite p → (k : FileKind) → (slot (not p.second) ≡ k → ⊥)
    → (disk_of (g.H.Host.history c.rewrite.new.host).now k ≡ disk_of (g.H.Host.history c.args.host.now).now k) × (of (g.H.Host.files c.rewrite.new.host) k ≡ of (g.H.Host.files c.args.host.now) k)
kept g c p b k ne =
    let at = (goal.at.In_ok-rewrite g c).After-rewrite in
    let other : c.other_slot-slot.result ≡ k → ⊥ = λ is. ne (sym (file g at p b) ∙ is) in
    (now_elsewhere (slot (not p.second)) k ne (writing g at p b), file_elsewhere _ _ c.other_slot-slot.result k other (c.rewrite.ensures.changes.others b.told))

-- the backup doesn't count any more, nor does the log
backup_none : (g : _) (c : In_ok-rewrite g) (p : Point) → Begins g (goal.at.In_ok-rewrite g c).After-rewrite p → DoesNotCount (turned (g.S.Stand.groups c.args.store.now) p) Backup (of (g.H.Host.files c.rewrite.new.host) Backup)
backup_none g c p b = record {
  older = subst (IsOlder (p.epoch + 1)) (sym (kept g c p b Backup (slot_backup (not p.second))).1) (counted_older p.epoch p.images _ (b.served.stand Backup).counts);
  none = inr (refl, refl);
}

starting : (g : _) (c : After-restart g) (p : Point) → Begins g (goal.at.After-restart g c).After-rewrite p → Since (IsOnDisk (turned (g.S.Stand.groups c.args.store.now) p)) (g.H.Host.history c.rewrite.new.host) (g.H.Host.history c.restart.new.host)
starting g c p b =
    let at = (goal.at.After-restart g c).In_ok-rewrite in
    c.restart.ensures.moments (told_on c.rewrite.ensures.changes.uses b.told) (turned (g.S.Stand.groups c.args.store.now) p) (ap (λ (e : ℕ). e + 1) (sym b.served.epoch)) (backup_none g at p b) (mid g at p b)

second : (g : _) (c : After-restart g) (p : Point) → Begins g (goal.at.After-restart g c).After-rewrite p → Since (IsSafe (IsTurning (g.S.Stand.groups c.args.store.now) p)) (g.H.Host.history c.args.host.now) (g.H.Host.history c.restart.new.host)
second g c p b = since_join (first g (goal.at.After-restart g c).After-rewrite p b) (turned_safe p _ _ _ (starting g c p b))

-- after the backup was started
on_backup : (g : _) (c : In_ok-backup g) (p : Point) → Begins g (goal.at.In_ok-backup g c).After-rewrite p → IsOnDisk (turned (g.S.Stand.groups c.args.store.now) p) (g.H.Host.history c.restart.new.host).now
on_backup g c p b = on_disk_now (turned (g.S.Stand.groups c.args.store.now) p) _ _ (mid g (goal.at.In_ok-backup g c).In_ok-rewrite p b) (starting g (goal.at.In_ok-backup g c).After-restart p b)

kept_backup : (g : _) (c : In_ok-backup g) (p : Point) → Begins g (goal.at.In_ok-backup g c).After-rewrite p → (k : FileKind) → (Backup ≡ k → ⊥)
    → (disk_of (g.H.Host.history c.restart.new.host).now k ≡ disk_of (g.H.Host.history c.rewrite.new.host).now k) × (of (g.H.Host.files c.restart.new.host) k ≡ of (g.H.Host.files c.rewrite.new.host) k)
kept_backup g c p b k ne =
    let later = told_on c.rewrite.ensures.changes.uses b.told in
    (now_elsewhere Backup k ne (c.restart.ensures.changes.moments later), file_elsewhere _ _ Backup k ne (c.restart.ensures.changes.others later))

-- the log is started
log_none : (g : _) (c : In_ok-backup g) (p : Point) → Begins g (goal.at.In_ok-backup g c).After-rewrite p → DoesNotCount (turned (g.S.Stand.groups c.args.store.now) p) Log (of (g.H.Host.files c.restart.new.host) Log)
log_none g c p b =
    let same = (kept_backup g c p b Log (λ is. cc)).1 ∙ (kept g (goal.at.In_ok-backup g c).In_ok-rewrite p b Log (slot_log (not p.second))).1 in
    record { older = subst (IsOlder (p.epoch + 1)) (sym same) (counted_older p.epoch p.logged _ (b.served.stand Log).counts); none = inl (refl, refl) }

ending : (g : _) (c : After-restart-2 g) (p : Point) → Begins g (goal.at.After-restart-2 g c).After-rewrite p → Since (IsOnDisk (turned (g.S.Stand.groups c.args.store.now) p)) (g.H.Host.history c.restart.new.host) (g.H.Host.history c.restart-2.new.host)
ending g c p b =
    let at = (goal.at.After-restart-2 g c).In_ok-backup in
    let later = told_on c.restart.ensures.changes.uses (told_on c.rewrite.ensures.changes.uses b.told) in
    c.restart-2.ensures.moments later (turned (g.S.Stand.groups c.args.store.now) p) (ap (λ (e : ℕ). e + 1) (sym b.served.epoch)) (log_none g at p b) (on_backup g at p b)

third : (g : _) (c : After-restart-2 g) (p : Point) → Begins g (goal.at.After-restart-2 g c).After-rewrite p → Since (IsSafe (IsTurning (g.S.Stand.groups c.args.store.now) p)) (g.H.Host.history c.args.host.now) (g.H.Host.history c.restart-2.new.host)
third g c p b = since_join (second g (goal.at.After-restart-2 g c).After-restart p b) (turned_safe p _ _ _ (ending g c p b))

-- what the last call left alone
kept_log : (g : _) (c : In_ok-log g) (p : Point) → Begins g (goal.at.In_ok-log g c).After-rewrite p → (k : FileKind) → (Log ≡ k → ⊥)
    → (disk_of (g.H.Host.history c.restart-2.new.host).now k ≡ disk_of (g.H.Host.history c.restart.new.host).now k) × (of (g.H.Host.files c.restart-2.new.host) k ≡ of (g.H.Host.files c.restart.new.host) k)
kept_log g c p b k ne =
    let later = told_on c.restart.ensures.changes.uses (told_on c.rewrite.ensures.changes.uses b.told) in
    (now_elsewhere Log k ne (c.restart-2.ensures.changes.moments later), file_elsewhere _ _ Log k ne (c.restart-2.ensures.changes.others later))

-- a slot is as it was after the first call
slot_kept : (g : _) (c : In_ok-log g) (p : Point) → Begins g (goal.at.In_ok-log g c).After-rewrite p → (s : Bool)
    → (disk_of (g.H.Host.history c.restart-2.new.host).now (slot s) ≡ disk_of (g.H.Host.history c.rewrite.new.host).now (slot s)) × (of (g.H.Host.files c.restart-2.new.host) (slot s) ≡ of (g.H.Host.files c.rewrite.new.host) (slot s))
slot_kept g c p b s =
    let last = kept_log g c p b (slot s) (λ is. slot_log s (sym is)) in
    let before = kept_backup g (goal.at.In_ok-log g c).In_ok-backup p b (slot s) (λ is. slot_backup s (sym is)) in
    (last.0 ∙ before.0, last.1 ∙ before.1)

current_kept : (g : _) (c : In_ok-rewrite g) (p : Point) → Begins g (goal.at.In_ok-rewrite g c).After-rewrite p → (disk_of (g.H.Host.history c.rewrite.new.host).now (slot p.second) ≡ disk_of (g.H.Host.history c.args.host.now).now (slot p.second)) × (of (g.H.Host.files c.rewrite.new.host) (slot p.second) ≡ of (g.H.Host.files c.args.host.now) (slot p.second))
current_kept g c p b = kept g c p b (slot p.second) (slots_differ p.second)

after_slot : (g : _) (c : In_ok-rewrite g) (p : Point) → Begins g (goal.at.In_ok-rewrite g c).After-rewrite p → (s : Bool) → disk_of (g.H.Host.history c.rewrite.new.host).now (slot s) ≡ settled (of (g.H.Host.files c.rewrite.new.host) (slot s))
after_slot g c p b s = elim (this_or_other s p.second) [
  | inl is ↦ subst (λ (x : Bool). disk_of (g.H.Host.history c.rewrite.new.host).now (slot x) ≡ settled (of (g.H.Host.files c.rewrite.new.host) (slot x))) (sym is)
      ((current_kept g c p b).0 ∙ b.served.slots p.second ∙ ap settled (sym (current_kept g c p b).1))
  | inr is ↦ subst (λ (x : Bool). disk_of (g.H.Host.history c.rewrite.new.host).now (slot x) ≡ settled (of (g.H.Host.files c.rewrite.new.host) (slot x))) (sym is) (settled_slot g c p b)
]

slots_settled : (g : _) (c : In_ok-log g) (p : Point) → Begins g (goal.at.In_ok-log g c).After-rewrite p → (s : Bool) → disk_of (g.H.Host.history c.restart-2.new.host).now (slot s) ≡ settled (of (g.H.Host.files c.restart-2.new.host) (slot s))
slots_settled g c p b s =
    let ok = (goal.at.In_ok-log g c).In_ok-rewrite in
    let same = slot_kept g c p b s in
    same.0 ∙ after_slot g ok p b s ∙ ap settled (sym same.1)

-- the answers
pub rewrite-requires-clause-ready : goal.rewrite-requires-clause-ready
rewrite-requires-clause-ready g c = λ told.
    let s = c.requires.served told in
    let other = from_other s.0 _ s.0.second refl (s.1.stand (slot (not s.0.second))) in
    subst (λ (k : FileKind). IsReady (disk_of (g.H.Host.history c.args.host.now).now k) (of (g.H.Host.files c.args.host.now) k)) (sym (c.other_slot-slot.ensures s.0.second s.1.slot_is))
    (settled_ready _ _ (s.1.slots (not s.0.second)) other.headed)

pub restart-requires-clause-ready : goal.restart-requires-clause-ready
restart-requires-clause-ready g c = λ later.
    let told = told_back c.rewrite.ensures.changes.uses later in
    let s = c.requires.served told in
    let b : Begins g (goal.at.restart-requires-clause-ready g c).After-rewrite s.0 = record { told = told; served = s.1; none = s.2 } in
    let same = kept g (goal.at.restart-requires-clause-ready g c).In_ok-rewrite s.0 b Backup (slot_backup (not s.0.second)) in
    same_ready _ _ _ _ same.0 same.1 (held_ready Backup s.0.epoch c.args.files.now.backup _ _ s.1.backup)

pub restart-requires-2-clause-ready : goal.restart-requires-2-clause-ready
restart-requires-2-clause-ready g c = λ last.
    let told = told_back c.rewrite.ensures.changes.uses (told_back c.restart.ensures.changes.uses last) in
    let s = c.requires.served told in
    let at = goal.at.restart-requires-2-clause-ready g c in
    let b : Begins g at.After-rewrite s.0 = record { told = told; served = s.1; none = s.2 } in
    let first = kept g at.In_ok-rewrite s.0 b Log (slot_log (not s.0.second)) in
    let same = kept_backup g at.In_ok-backup s.0 b Log (λ is. cc) in
    same_ready _ _ _ _ (same.0 ∙ first.0) (same.1 ∙ first.1) (held_ready Log s.0.epoch c.args.files.now.log _ _ s.1.log)

pub returns-in_err-rewrite-clause-moments : goal.returns-in_err-rewrite-clause-moments
returns-in_err-rewrite-clause-moments g c = λ told p served none. first g (goal.at.returns-in_err-rewrite-clause-moments g c).After-rewrite p (record { told = told; served = served; none = none })

pub returns-in_err-backup-clause-moments : goal.returns-in_err-backup-clause-moments
returns-in_err-backup-clause-moments g c = λ told p served none. second g (goal.at.returns-in_err-backup-clause-moments g c).After-restart p (record { told = told; served = served; none = none })

pub returns-in_err-log-clause-moments : goal.returns-in_err-log-clause-moments
returns-in_err-log-clause-moments g c = λ told p served none. third g (goal.at.returns-in_err-log-clause-moments g c).After-restart-2 p (record { told = told; served = served; none = none })

pub returns-clause-moments : goal.returns-clause-moments
returns-clause-moments g c = λ told p served none. third g (goal.at.returns-clause-moments g c).After-restart-2 p (record { told = told; served = served; none = none })

pub returns-clause-turned : goal.returns-clause-turned
returns-clause-turned g c = λ told p served none.
    let at = goal.at.returns-clause-turned g c in
    let b : Begins g at.After-rewrite p = record { told = told; served = served; none = none } in
    let later = told_on c.rewrite.ensures.changes.uses told in
    let last = told_on c.restart.ensures.changes.uses later in
    let written = subst (λ (k : FileKind). of (g.H.Host.files c.rewrite.new.host) k ≡ renewed (of (g.H.Host.files c.args.host.now) k) (c.args.files.now.epoch + 1) (g.S.Stand.groups c.args.store.now)) (file g at.After-rewrite p b) (c.in_ok-rewrite.ensures.bytes told) in
    let old_backup = kept g at.In_ok-rewrite p b Backup (slot_backup (not p.second)) in
    let old_log = kept g at.In_ok-rewrite p b Log (slot_log (not p.second)) in
    let old_data = kept g at.In_ok-rewrite p b Data (slot_data (not p.second)) in
    let mid_log = kept_backup g at.In_ok-backup p b Log (λ is. cc) in
    let mid_data = kept_backup g at.In_ok-backup p b Data (λ is. cc) in
    let end_data = kept_log g at.In_ok-log p b Data (λ is. cc) in
    let end_backup = kept_log g at.In_ok-log p b Backup (λ is. cc) in
    let epoch : c.args.files.now.epoch + 1 ≡ p.epoch + 1 = ap (λ (e : ℕ). e + 1) served.epoch in
    record {
      written = (slot_kept g at.In_ok-log p b (not p.second)).1 ∙ written ∙ ap (λ (e : ℕ). renewed (of (g.H.Host.files c.args.host.now) (slot (not p.second))) e (g.S.Stand.groups c.args.store.now)) epoch;
      current = (slot_kept g at.In_ok-log p b p.second).1 ∙ (current_kept g at.In_ok-rewrite p b).1;
      backup = end_backup.1 ∙ c.in_ok-backup.ensures.bytes later ∙ ap (λ (l : List ℕ). renewed l (c.args.files.now.epoch + 1) []) old_backup.1 ∙ ap (λ (e : ℕ). renewed (of (g.H.Host.files c.args.host.now) Backup) e []) epoch;
      log = c.in_ok-log.ensures.bytes last ∙ ap (λ (l : List ℕ). renewed l (c.args.files.now.epoch + 1) []) (mid_log.1 ∙ old_log.1) ∙ ap (λ (e : ℕ). renewed (of (g.H.Host.files c.args.host.now) Log) e []) epoch;
      pages = end_data.1 ∙ mid_data.1 ∙ old_data.1;
    }

pub returns-clause-served : goal.returns-clause-served
returns-clause-served g c = λ told p served none.
    let at = goal.at.returns-clause-served g c in
    let b : Begins g at.After-rewrite p = record { told = told; served = served; none = none } in
    let later = told_on c.rewrite.ensures.changes.uses told in
    let last = told_on c.restart.ensures.changes.uses later in
    let end = told_on c.restart-2.ensures.changes.uses last in
    let payloads = g.S.Stand.groups c.args.store.now in
    let on = on_disk_now (turned payloads p) _ _ (on_backup g at.In_ok-backup p b) (ending g at.After-restart-2 p b) in
    let epoch : c.args.files.now.epoch + 1 ≡ p.epoch + 1 = ap (λ (e : ℕ). e + 1) served.epoch in
    let kept = kept_log g at.In_ok-log p b Backup (λ is. cc) in
    let backup : IsHeldAs Backup (p.epoch + 1) c.in_ok-backup.backup (g.H.Host.history c.restart.new.host) (g.H.Host.files c.restart.new.host) = record {
      file_is = ap (λ (x : Gated). x.file) c.in_ok-backup.ensures.empty;
      epoch_is = ap (λ (x : Gated). x.epoch) c.in_ok-backup.ensures.empty ∙ epoch;
      stands = c.in_ok-backup.ensures.stands later;
    } in
    record {
      slot_is = file g at.After-rewrite p b;
      epoch = epoch;
      stand = λ k. on k (of (g.H.Host.files c.restart-2.new.host) k) (g.met.H.Host.read_may_be_left c.restart-2.new.host end.tells end.honest k);
      on_disk = on;
      slots = slots_settled g at.In_ok-log p b;
      log = record {
        file_is = ap (λ (x : Gated). x.file) c.in_ok-log.ensures.empty;
        epoch_is = ap (λ (x : Gated). x.epoch) c.in_ok-log.ensures.empty ∙ epoch;
        stands = c.in_ok-log.ensures.stands last;
      };
      backup = held_on Backup (p.epoch + 1) c.in_ok-backup.backup _ _ _ _ backup kept.0 kept.1;
    }
