use Rattle.std.proofs.Common.{refl, sym}
use Rattle.std.proofs.lemmas.Result.{IfOk-weaker}
use Rattle.hs_snapshots.specs.Places.{commits_at}
use Rattle.hs_snapshots.proofs.Standing.{present_set, present_stands, snapshot_set, snapshot_stands, starts_set}
use Rattle.hs_snapshots.proofs.stores.Stores.back.Goals as goal

pub returns-in-None-clause-stands : goal.returns-in-None-clause-stands
returns-in-None-clause-stands g c = λ w commits seated is.
    let t = c.args.self.now in
    IfOk-weaker c.back.result _ _
    (λ u at. present_set g.S.Store.stands t _ w commits seated _ (sym c.in-None.ensures.is) refl refl is at)
    (c.back.ensures w (commits_at t.place commits) seated (present_stands g.S.Store.stands t w commits seated (sym c.in-None.ensures.is) is))

pub returns-in-Some-clause-stands : goal.returns-in-Some-clause-stands
returns-in-Some-clause-stands g c = λ w commits seated is.
    let t = c.args.self.now in
    let x = c.index_mut-snapshot.result.now in
    IfOk-weaker c.back-in-Some.result _ _
    (λ u at. snapshot_set g.S.Store.stands t _ c.in-Some.index x _ w commits seated _ (sym c.in-Some.ensures.is) c.index_mut-snapshot.ensures.value refl refl refl refl is at)
    (c.back-in-Some.ensures w (commits_at t.place commits) seated (snapshot_stands g.S.Store.stands t c.in-Some.index x w commits seated (sym c.in-Some.ensures.is) c.index_mut-snapshot.ensures.value is))

pub returns-in-Some-clause-starts : goal.returns-in-Some-clause-starts
returns-in-Some-clause-starts g c = starts_set c.args.self.now.snapshots.items c.in-Some.index c.index_mut-snapshot.result.now _ c.index_mut-snapshot.ensures.value refl
