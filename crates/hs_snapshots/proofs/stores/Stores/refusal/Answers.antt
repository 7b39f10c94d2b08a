use Rattle.std.proofs.Common.{sym}
use Rattle.hs_snapshots.specs.Places.{commits_at}
use Rattle.hs_snapshots.proofs.Standing.{present_stands, snapshot_stands}
use Rattle.hs_snapshots.proofs.stores.Stores.refusal.Goals as goal

pub returns-in-None : goal.returns-in-None
returns-in-None g c = λ w commits seated is.
    let t = c.args.self.now in
    c.refusal.ensures w (commits_at t.place commits) seated (present_stands g.S.Store.stands t w commits seated (sym c.in-None.ensures.is) is)

pub returns-in-Some : goal.returns-in-Some
returns-in-Some g c = λ w commits seated is.
    let t = c.args.self.now in
    let x = c.index-in-Some.result.now in
    c.refusal-in-Some.ensures w (commits_at t.place commits) seated (snapshot_stands g.S.Store.stands t c.in-Some.index x w commits seated (sym c.in-Some.ensures.is) c.index-in-Some.ensures is)
