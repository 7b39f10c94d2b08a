use Rattle.std.proofs.Common.{◌≡◌, ◌+◌, ◌∙◌, ap, length, take, List, ℕ, arith, ◌++◌, length-append}
use Rattle.std.proofs.lemmas.List.{length-take-le}
use Rattle.hs_host.specs.Files.{of}
use Rattle.hs_host.specs.Prefixes.{KeepsPrefix}
use Rattle.hs_host.specs.Moments.{disk_of}
use Rattle.hs_host.specs.Used.{Told, ChangesFile}
use Rattle.hs_host.proofs.Used.{changes_on, moves_weaker, told_back}
use Rattle.hs_gate.specs.Crash.{BeginsWith}
use Rattle.hs_gate.proofs.Moments.{begins_written, begins_cut, begins_synced, keeps_written, keeps_cut, front_of}
use Rattle.hs_gate.proofs.Pieces.{cut-overwrite}
use Rattle.hs_gate.proofs.writing.replace_from.Goals as goal
use Rattle.hs_gate.proofs.writing.replace_from.Goals.{After-write, After-cut, After-sync}

wrote : (g : _) (c : After-write g) → ChangesFile g.H.Source g.H.Host c.args.file (BeginsWith c.args.at (of (g.H.Host.files c.args.host.now) c.args.file)) c.args.host.now c.write.new.host
wrote g c = moves_weaker c.write.ensures.moves (λ told m is. begins_written _ m c.args.file c.args.at _ c.args.at _ (c.requires.kept told).keeps (omega arith) is)

keeps : (g : _) (c : After-cut g) → Told g.H.Source g.H.Host c.args.host.now → KeepsPrefix (disk_of (g.H.Host.history c.write.new.host).now c.args.file) c.args.at (of (g.H.Host.files c.args.host.now) c.args.file)
keeps g c told = keeps_written (g.H.Host.history c.args.host.now).now (g.H.Host.history c.write.new.host).now c.args.file c.args.at _ c.args.at _ (c.requires.kept told).keeps (omega arith) (c.in_ok-write.ensures.now told)

cut_off : (g : _) (c : After-cut g) → ChangesFile g.H.Source g.H.Host c.args.file (BeginsWith c.args.at (of (g.H.Host.files c.args.host.now) c.args.file)) c.args.host.now c.cut.new.host
cut_off g c = changes_on (wrote g (goal.at.After-cut g c).After-write) (moves_weaker c.cut.ensures.moves (λ later m is.
    let told = told_back c.write.ensures.moves.uses later in
    begins_cut _ m c.args.file _ c.args.at _ (keeps g c told) (omega arith) is))

synced : (g : _) (c : After-sync g) → ChangesFile g.H.Source g.H.Host c.args.file (BeginsWith c.args.at (of (g.H.Host.files c.args.host.now) c.args.file)) c.args.host.now c.sync.new.host
synced g c =
    let at = (goal.at.After-sync g c).After-cut in
    changes_on (cut_off g at) (moves_weaker c.sync.ensures.moves (λ last m is.
    let later = told_back c.cut.ensures.moves.uses last in
    let told = told_back c.write.ensures.moves.uses later in
    let old = of (g.H.Host.files c.args.host.now) c.args.file in
    let within = (c.requires.kept told).within in
    let now : of (g.H.Host.files c.cut.new.host) c.args.file ≡ take c.args.at old ++ c.args.bytes.now =
    c.in_ok-cut.ensures.ok later ∙ ap (λ (l : List ℕ). take (c.args.at + length c.args.bytes.now) l) (c.in_ok-write.ensures.ok told) ∙ cut-overwrite old c.args.at c.args.bytes.now within in
    begins_synced _ m c.args.file c.args.at _ old c.sync.result (keeps_cut (g.H.Host.history c.write.new.host).now (g.H.Host.history c.cut.new.host).now c.args.file _ c.args.at _ (keeps g at told) (omega arith) (c.in_ok-cut.ensures.now later))
    (omega (arith, ap length now, length-append (take c.args.at old) c.args.bytes.now, length-take-le c.args.at old within))
    (ap (λ (l : List ℕ). take c.args.at l) now ∙ front_of c.args.at old c.args.bytes.now within) is))

pub returns-in_err-write-clause-changes : goal.returns-in_err-write-clause-changes
returns-in_err-write-clause-changes g c = wrote g (goal.at.returns-in_err-write-clause-changes g c).After-write

pub returns-in_err-cut-clause-changes : goal.returns-in_err-cut-clause-changes
returns-in_err-cut-clause-changes g c = cut_off g (goal.at.returns-in_err-cut-clause-changes g c).After-cut

pub returns-in_err-sync-clause-changes : goal.returns-in_err-sync-clause-changes
returns-in_err-sync-clause-changes g c = synced g (goal.at.returns-in_err-sync-clause-changes g c).After-sync

pub returns-clause-changes : goal.returns-clause-changes
returns-clause-changes g c = synced g (goal.at.returns-clause-changes g c).After-sync
