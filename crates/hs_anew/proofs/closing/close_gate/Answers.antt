use Rattle.std.proofs.Common.{◌∷◌, [], List, ℕ, sym, ◌∙◌, ap, subst}
use Rattle.hs_host.specs.Files.{Five, of}
use Rattle.hs_host.specs.Disk.{Pending}
use Rattle.hs_host.specs.Moments.{disk_of}
use Rattle.hs_host.proofs.Passing.{still_disks}
use Rattle.hs_gate.specs.Crash.{IsWriting}
use Rattle.hs_host.specs.Used.{Told, ChangesFile}
use Rattle.hs_gate.specs.Rewriting.{IsKept}
use Rattle.hs_host.proofs.Used.{changes_on, moves_weaker, reads_only, told_back}
use Rattle.hs_slots.specs.Anew.{IsShut}
use Rattle.hs_anew.proofs.Gates.{ready_shut, shutting_moment}
use Rattle.hs_anew.proofs.closing.close_gate.Goals as goal
use Rattle.hs_anew.proofs.closing.close_gate.Goals.{After-second_byte, After-write_synced}

reading : (g : _) (c : After-second_byte g) → ChangesFile g.H.Source g.H.Host c.args.file (IsShut (of (g.H.Host.files c.args.host.now) c.args.file)) c.args.host.now c.second_byte.new.host
reading g c = reads_only c.second_byte.ensures.reads (λ told left leaves. ready_shut _ _ left (c.requires.ready told) leaves)

-- the disk has of the file what it had
same_kept : (g : _) (c : After-second_byte g) → Told g.H.Source g.H.Host c.args.host.now → (n : ℕ) → IsKept (disk_of (g.H.Host.history c.args.host.now).now c.args.file) n (of (g.H.Host.files c.args.host.now) c.args.file)
    → IsKept (disk_of (g.H.Host.history c.second_byte.new.host).now c.args.file) n (of (g.H.Host.files c.args.host.now) c.args.file)
same_kept g c told n kept = subst (λ (p : Pending). IsKept p n (of (g.H.Host.files c.args.host.now) c.args.file)) (sym (ap (λ (d : Five Pending). of d c.args.file) (still_disks (c.second_byte.ensures.reads.moments told)))) kept

writing : (g : _) (c : After-write_synced g) → ChangesFile g.H.Source g.H.Host c.args.file (IsShut (of (g.H.Host.files c.args.host.now) c.args.file)) c.args.host.now c.write_synced.new.host
writing g c =
    let at = (goal.at.After-write_synced g c).After-second_byte in
    changes_on (reading g at) (moves_weaker c.write_synced.ensures.moves (λ later m is.
    let told = told_back c.second_byte.ensures.reads.uses later in
    let same = ap (λ (f : Five (List ℕ)). of f c.args.file) (c.second_byte.ensures.reads.files told) in
    let opened = sym (c.in_ok-gate.ensures.byte told) ∙ c.if-gate-eq1.true in
    shutting_moment _ m c.args.file _ opened (same_kept g at told 11 ((c.requires.ready told).header opened))
    (subst (λ (l : List ℕ). IsWriting (g.H.Host.history c.second_byte.new.host).now c.args.file 1 (0 ∷ []) l m) same is)))

pub returns-in_err-gate-clause-changes : goal.returns-in_err-gate-clause-changes
returns-in_err-gate-clause-changes g c = reading g (goal.at.returns-in_err-gate-clause-changes g c).After-second_byte

pub returns-in_err-write_synced-clause-changes : goal.returns-in_err-write_synced-clause-changes
returns-in_err-write_synced-clause-changes g c = writing g (goal.at.returns-in_err-write_synced-clause-changes g c).After-write_synced

pub returns-in_ok-write_synced-clause-changes : goal.returns-in_ok-write_synced-clause-changes
returns-in_ok-write_synced-clause-changes g c = writing g (goal.at.returns-in_ok-write_synced-clause-changes g c).After-write_synced

pub returns-else-gate-eq1-clause-changes : goal.returns-else-gate-eq1-clause-changes
returns-else-gate-eq1-clause-changes g c = reading g (goal.at.returns-else-gate-eq1-clause-changes g c).After-second_byte

pub returns-else-gate-eq1-clause-kept : goal.returns-else-gate-eq1-clause-kept
returns-else-gate-eq1-clause-kept g c = λ told.
    let at = (goal.at.returns-else-gate-eq1-clause-kept g c).After-second_byte in
    subst (λ (f : Five (List ℕ)). IsKept (disk_of (g.H.Host.history c.second_byte.new.host).now c.args.file) 2 (of f c.args.file)) (sym (c.second_byte.ensures.reads.files told)) (same_kept g at told 2 (c.requires.ready told).gate)
