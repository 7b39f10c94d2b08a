use Rattle.std.proofs.Common.{ℕ, List, [], ◌∷◌, ◌++◌, length, take, ap, arith, length-append}
use Rattle.hs_host.specs.Files.{of}
use Rattle.hs_host.specs.Moments.{disk_of}
use Rattle.hs_host.specs.Used.{ChangesFile}
use Rattle.hs_host.proofs.Used.{changes_on, changes_weaker, moves_weaker, told_on, told_back}
use Rattle.hs_anew.specs.Staging.{IsStaged, IsOpened}
use Rattle.hs_anew.proofs.Gates.{sealed_opened, opened_moments, on_ok, finished}
use Rattle.hs_anew.proofs.rewriting.finish.Goals as goal
use Rattle.hs_anew.proofs.rewriting.finish.Goals.{After-seal, After-write_synced}

sealing : (g : _) (c : After-seal g) → ChangesFile g.H.Source g.H.Host c.args.file (λ left. (text : List ℕ) → IsStaged (disk_of (g.H.Host.history c.args.host.now).now c.args.file) (of (g.H.Host.files c.args.host.now) c.args.file) c.args.end text → IsOpened (of (g.H.Host.files c.args.host.now) c.args.file) (text ++ 0 ∷ []) left) c.args.host.now c.seal.new.host
sealing g c = changes_weaker c.seal.ensures.changes (λ told left begins text staged. sealed_opened _ (text ++ 0 ∷ []) left staged.kept.within staged.closed begins)

opening : (g : _) (c : After-write_synced g) → ChangesFile g.H.Source g.H.Host c.args.file (λ left. (text : List ℕ) → IsStaged (disk_of (g.H.Host.history c.args.host.now).now c.args.file) (of (g.H.Host.files c.args.host.now) c.args.file) c.args.end text → IsOpened (of (g.H.Host.files c.args.host.now) c.args.file) (text ++ 0 ∷ []) left) c.args.host.now c.write_synced.new.host
opening g c = changes_on (sealing g (goal.at.After-write_synced g c).After-seal) (moves_weaker c.write_synced.ensures.moves (λ later m is.
    let told = told_back c.seal.ensures.changes.uses later in
    let s = c.requires.staged told in
    opened_moments _ m c.args.file _ _ (disk_of (g.H.Host.history c.args.host.now).now c.args.file) c.args.end s.0 s.1 (c.requires.long told) (λ text staged. c.in_ok-seal.ensures.bytes told text staged) (c.in_ok-seal.ensures.settled told) is))

pub write_synced-requires-clause-within : goal.write_synced-requires-clause-within
write_synced-requires-clause-within g c = λ later.
    let told = told_back c.seal.ensures.changes.uses later in
    let s = c.requires.staged told in
    omega (arith, ap length (c.in_ok-seal.ensures.bytes told s.0 s.1), length-append (take 2 (of (g.H.Host.files c.args.host.now) c.args.file)) (s.0 ++ 0 ∷ []), length-append s.0 (0 ∷ []))

pub returns-in_err-seal-clause-changes : goal.returns-in_err-seal-clause-changes
returns-in_err-seal-clause-changes g c = sealing g (goal.at.returns-in_err-seal-clause-changes g c).After-seal

pub returns-clause-changes : goal.returns-clause-changes
returns-clause-changes g c = opening g (goal.at.returns-clause-changes g c).After-write_synced

pub returns-clause-bytes : goal.returns-clause-bytes
returns-clause-bytes g c = λ told text staged. on_ok c.write_synced.result (c.write_synced.ensures.ok (told_on c.seal.ensures.changes.uses told)) (λ is. finished _ _ _ text staged.kept.within (c.in_ok-seal.ensures.bytes told text staged) is)
