use Rattle.std.proofs.Common.{◌≡◌, ℕ, ◌+◌, List, [], ◌∷◌, ◌++◌, length, take, refl, ◌∙◌, ap, arith, length-append}
use Rattle.std.proofs.lemmas.Result.{on_ok_weaker}
use Rattle.hs_host.specs.Files.{of, overwrite}
use Rattle.hs_host.specs.Prefixes.{KeepsPrefix}
use Rattle.hs_host.specs.Moments.{disk_of}
use Rattle.hs_host.specs.Used.{Told, ChangesFile}
use Rattle.hs_host.proofs.Used.{changes_on, moves_weaker, told_on, told_back}
use Rattle.hs_gate.specs.Crash.{BeginsWith}
use Rattle.hs_gate.proofs.Moments.{begins_written, begins_writing, keeps_written}
use Rattle.hs_gate.proofs.Pieces.{take-overwrite, length-overwrite, overwrite_on}
use Rattle.hs_gate.proofs.writing.write_pieces.Goals as goal
use Rattle.hs_gate.proofs.writing.write_pieces.Goals.{After-write, After-write-2, After-write_synced-2}

first_kept : (g : _) (c : After-write g) → ChangesFile g.H.Source g.H.Host c.args.file (BeginsWith c.args.at (of (g.H.Host.files c.args.host.now) c.args.file)) c.args.host.now c.write.new.host
first_kept g c = moves_weaker c.write.ensures.moves (λ told m is. begins_written _ m c.args.file c.args.at _ c.args.at _ (c.requires.kept told).keeps (omega arith) is)

keeps_first : (g : _) (c : After-write-2 g) → Told g.H.Source g.H.Host c.args.host.now → KeepsPrefix (disk_of (g.H.Host.history c.write.new.host).now c.args.file) c.args.at (of (g.H.Host.files c.args.host.now) c.args.file)
keeps_first g c told = keeps_written (g.H.Host.history c.args.host.now).now (g.H.Host.history c.write.new.host).now c.args.file c.args.at _ c.args.at _ (c.requires.kept told).keeps (omega arith) (c.in_ok-write.ensures.now told)

second_kept : (g : _) (c : After-write-2 g) → ChangesFile g.H.Source g.H.Host c.args.file (BeginsWith c.args.at (of (g.H.Host.files c.args.host.now) c.args.file)) c.args.host.now c.write-2.new.host
second_kept g c = changes_on (first_kept g (goal.at.After-write-2 g c).After-write) (moves_weaker c.write-2.ensures.moves (λ later m is.
    let told = told_back c.write.ensures.moves.uses later in
    begins_written _ m c.args.file _ _ c.args.at _ (keeps_first g c told) (omega arith) is))

-- both pieces stand there
both : (g : _) (c : After-write_synced-2 g) → Told g.H.Source g.H.Host c.args.host.now → of (g.H.Host.files c.write-2.new.host) c.args.file ≡ overwrite (of (g.H.Host.files c.args.host.now) c.args.file) c.args.at (c.args.first.now ++ c.args.second.now)
both g c told =
    let later = told_on c.write.ensures.moves.uses told in
    c.in_ok-write-2.ensures.ok later ∙ ap (λ (l : List ℕ). overwrite l (c.args.at + length c.args.first.now) c.args.second.now) (c.in_ok-write.ensures.ok told)
    ∙ overwrite_on (of (g.H.Host.files c.args.host.now) c.args.file) c.args.at c.args.first.now c.args.second.now (c.requires.kept told).within

third_kept : (g : _) (c : After-write_synced-2 g) → ChangesFile g.H.Source g.H.Host c.args.file (BeginsWith c.args.at (of (g.H.Host.files c.args.host.now) c.args.file)) c.args.host.now c.write_synced-2.new.host
third_kept g c =
    let at = (goal.at.After-write_synced-2 g c).After-write-2 in
    changes_on (second_kept g at) (moves_weaker c.write_synced-2.ensures.moves (λ last m is.
    let later = told_back c.write-2.ensures.moves.uses last in
    let told = told_back c.write.ensures.moves.uses later in
    let old = of (g.H.Host.files c.args.host.now) c.args.file in
    let pieces = c.args.first.now ++ c.args.second.now in
    let within = (c.requires.kept told).within in
    let now = both g c told in
    let keeps = keeps_written (g.H.Host.history c.write.new.host).now (g.H.Host.history c.write-2.new.host).now c.args.file _ _ c.args.at old (keeps_first g at told) (omega arith) (c.in_ok-write-2.ensures.now later) in
    begins_writing _ m c.args.file _ c.args.at _ _ old keeps (omega arith)
    (omega (arith, ap length now, length-overwrite old c.args.at pieces within, length-append c.args.first.now c.args.second.now))
    (ap (λ (l : List ℕ). take c.args.at l) now ∙ take-overwrite old c.args.at pieces within) is))

pub returns-then-is_ok-clause-changes : goal.returns-then-is_ok-clause-changes
returns-then-is_ok-clause-changes g c = moves_weaker c.write_synced.ensures.moves (λ told m is.
    begins_writing _ m c.args.file c.args.at c.args.at _ _ _ (c.requires.kept told).keeps (omega arith) (c.requires.kept told).within refl is)

pub returns-in_err-write-clause-changes : goal.returns-in_err-write-clause-changes
returns-in_err-write-clause-changes g c = first_kept g (goal.at.returns-in_err-write-clause-changes g c).After-write

pub returns-in_err-write-2-clause-changes : goal.returns-in_err-write-2-clause-changes
returns-in_err-write-2-clause-changes g c = second_kept g (goal.at.returns-in_err-write-2-clause-changes g c).After-write-2

pub returns-clause-changes : goal.returns-clause-changes
returns-clause-changes g c = third_kept g (goal.at.returns-clause-changes g c).After-write_synced-2

pub returns-clause-ok : goal.returns-clause-ok
returns-clause-ok g c = λ told.
    let later = told_on c.write.ensures.moves.uses told in
    let last = told_on c.write-2.ensures.moves.uses later in
    let old = of (g.H.Host.files c.args.host.now) c.args.file in
    let pieces = c.args.first.now ++ c.args.second.now in
    on_ok_weaker c.write_synced-2.result
    (λ third. third ∙ ap (λ (l : List ℕ). overwrite l (c.args.at + length c.args.first.now + length c.args.second.now) (0 ∷ [])) (both g (goal.at.returns-clause-ok g c).After-write_synced-2 told)
    ∙ ap (λ (n : ℕ). overwrite (overwrite old c.args.at pieces) n (0 ∷ [])) (omega (arith, length-append c.args.first.now c.args.second.now))
    ∙ overwrite_on old c.args.at pieces (0 ∷ []) (c.requires.kept told).within)
    (c.write_synced-2.ensures.ok last)
