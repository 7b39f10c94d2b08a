use Rattle.std.proofs.Common.{◌≡◌, ℕ, List, length, take, ◌∙◌, ap, arith}
use Rattle.hs_host.specs.Disk.{settled, written_at}
use Rattle.hs_host.specs.Files.{of, overwrite}
use Rattle.hs_host.specs.Moments.{disk_of}
use Rattle.hs_host.specs.Used.{Told, ChangesFile}
use Rattle.hs_host.proofs.Used.{changes_on, moves_weaker, told_back}
use Rattle.hs_gate.proofs.Pieces.{cut-overwrite}
use Rattle.hs_creation.specs.Creation.{IsPut}
use Rattle.hs_creation.proofs.Putting.{wrote_put, written_disk, cut_put, cut_disk, sync_put}
use Rattle.hs_creation.proofs.laying.put.Goals as goal
use Rattle.hs_creation.proofs.laying.put.Goals.{After-write, After-cut, After-sync}

wrote : (g : _) (c : After-write g) → ChangesFile g.H.Source g.H.Host c.args.file (IsPut (of (g.H.Host.files c.args.host.now) c.args.file) c.args.bytes.now) c.args.host.now c.write.new.host
wrote g c = moves_weaker c.write.ensures.moves (λ told m is. wrote_put _ m c.args.file _ c.args.bytes.now (c.requires.settled told) is)

written : (g : _) (c : After-cut g) → Told g.H.Source g.H.Host c.args.host.now → disk_of (g.H.Host.history c.write.new.host).now c.args.file ≡ written_at 0 (length c.args.bytes.now) (settled (of (g.H.Host.files c.args.host.now) c.args.file))
written g c told = written_disk (g.H.Host.history c.args.host.now).now (g.H.Host.history c.write.new.host).now c.args.file _ c.args.bytes.now (c.requires.settled told) (c.in_ok-write.ensures.now told)

cut_off : (g : _) (c : After-cut g) → ChangesFile g.H.Source g.H.Host c.args.file (IsPut (of (g.H.Host.files c.args.host.now) c.args.file) c.args.bytes.now) c.args.host.now c.cut.new.host
cut_off g c = changes_on (wrote g (goal.at.After-cut g c).After-write) (moves_weaker c.cut.ensures.moves (λ later m is. cut_put _ m c.args.file _ c.args.bytes.now (written g c (told_back c.write.ensures.moves.uses later)) is))

synced : (g : _) (c : After-sync g) → ChangesFile g.H.Source g.H.Host c.args.file (IsPut (of (g.H.Host.files c.args.host.now) c.args.file) c.args.bytes.now) c.args.host.now c.sync.new.host
synced g c =
    let at = (goal.at.After-sync g c).After-cut in
    changes_on (cut_off g at) (moves_weaker c.sync.ensures.moves (λ last m is.
    let later = told_back c.cut.ensures.moves.uses last in
    let told = told_back c.write.ensures.moves.uses later in
    let old = of (g.H.Host.files c.args.host.now) c.args.file in
    let disk = cut_disk (g.H.Host.history c.write.new.host).now (g.H.Host.history c.cut.new.host).now c.args.file old c.args.bytes.now (written g at told) (c.in_ok-cut.ensures.now later) in
    let now = c.in_ok-cut.ensures.ok later ∙ ap (λ (l : List ℕ). take (length c.args.bytes.now) l) (c.in_ok-write.ensures.ok told) ∙ ap (λ (n : ℕ). take n (overwrite old 0 c.args.bytes.now)) (omega arith) ∙ cut-overwrite old 0 c.args.bytes.now (omega arith) in
    sync_put _ m c.args.file old c.args.bytes.now _ c.sync.result disk now is))

pub returns-in_err-write-clause-changes : goal.returns-in_err-write-clause-changes
returns-in_err-write-clause-changes g c = wrote g (goal.at.returns-in_err-write-clause-changes g c).After-write

pub returns-in_err-cut-clause-changes : goal.returns-in_err-cut-clause-changes
returns-in_err-cut-clause-changes g c = cut_off g (goal.at.returns-in_err-cut-clause-changes g c).After-cut

pub returns-in_err-sync-clause-changes : goal.returns-in_err-sync-clause-changes
returns-in_err-sync-clause-changes g c = synced g (goal.at.returns-in_err-sync-clause-changes g c).After-sync

pub returns-clause-changes : goal.returns-clause-changes
returns-clause-changes g c = synced g (goal.at.returns-clause-changes g c).After-sync
