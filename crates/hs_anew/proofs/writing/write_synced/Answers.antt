use Rattle.hs_gate.specs.Crash.{IsWriting, called}
use Rattle.hs_host.specs.Files.{of}
use Rattle.hs_host.specs.Used.{Moves}
use Rattle.hs_host.proofs.Used.{moves_on, moves_weaker, told_back}
use Rattle.hs_gate.proofs.Moments.{wrote_then}
use Rattle.hs_anew.proofs.writing.write_synced.Goals as goal
use Rattle.hs_anew.proofs.writing.write_synced.Goals.{After-sync}

both : (g : _) (c : After-sync g) → Moves g.H.Source g.H.Host c.args.file (IsWriting (g.H.Host.history c.args.host.now).now c.args.file c.args.at c.args.bytes.now (of (g.H.Host.files c.args.host.now) c.args.file)) c.args.host.now c.sync.new.host
both g c =
    moves_on (moves_weaker c.write.ensures.moves (λ told m is. called is))
    (moves_weaker c.sync.ensures.moves (λ later m is.
    let told = told_back c.write.ensures.moves.uses later in
    wrote_then _ _ m c.args.file c.args.at c.args.bytes.now _ _ c.sync.result (c.in_ok-write.ensures.now told) (c.in_ok-write.ensures.ok told) is))

pub returns-in_err-sync-clause-moves : goal.returns-in_err-sync-clause-moves
returns-in_err-sync-clause-moves g c = both g (goal.at.returns-in_err-sync-clause-moves g c).After-sync

pub returns-clause-moves : goal.returns-clause-moves
returns-clause-moves g c = both g (goal.at.returns-clause-moves g c).After-sync
