use Rattle.std.proofs.Common.{refl, sym}
use Rattle.std.proofs.lemmas.Result.{IfOk-weaker}
use Rattle.std.specs.Vec.{with_item}
use Rattle.hs_queue.specs.Entries.{entry_of}
use Rattle.hs_snapshots.specs.Places.{commits_at}
use Rattle.hs_snapshots.specs.Stores.{IsStores}
use Rattle.hs_snapshots.proofs.Standing.{evaluated_at, present_set, present_stands, snapshot_set, snapshot_stands, starts_set}
use Rattle.hs_snapshots.proofs.stores.Stores.evaluate.Goals as goal

pub evaluate-requires-clause-ready : goal.evaluate-requires-clause-ready
evaluate-requires-clause-ready g c =
    let r = c.requires.ready in
    let t = c.args.self.now in
    (r.0, commits_at t.place r.1, r.2, (present_stands g.S.Store.stands t r.0 r.1 r.2 (sym c.in-None.ensures.is) r.3.0, r.3.1))

pub evaluate-requires-in-Some-clause-ready : goal.evaluate-requires-in-Some-clause-ready
evaluate-requires-in-Some-clause-ready g c =
    let r = c.requires.ready in
    let t = c.args.self.now in
    (r.0, commits_at t.place r.1, r.2, (snapshot_stands g.S.Store.stands t c.in-Some.index c.index_mut-snapshot.result.now r.0 r.1 r.2 (sym c.in-Some.ensures.is) c.index_mut-snapshot.ensures.value r.3.0, r.3.1))

pub returns-in-None-clause-evaluates : goal.returns-in-None-clause-evaluates
returns-in-None-clause-evaluates g c = λ w commits seated is valid.
    let t = c.args.self.now in
    let new = record t { present = c.evaluate.new.self } in
    IfOk-weaker c.evaluate.result _ _
    (λ r h. evaluated_at (g.S.Store.stands c.evaluate.new.self) (IsStores g.S.Store.stands new) t.place w commits seated c.args.read_only (entry_of c.args.entry.now).text
    (λ cs at. present_set g.S.Store.stands t new w commits seated cs (sym c.in-None.ensures.is) refl refl is at) r h)
    (c.evaluate.ensures w (commits_at t.place commits) seated (present_stands g.S.Store.stands t w commits seated (sym c.in-None.ensures.is) is) valid)

pub returns-in-Some-clause-evaluates : goal.returns-in-Some-clause-evaluates
returns-in-Some-clause-evaluates g c = λ w commits seated is valid.
    let t = c.args.self.now in
    let x = c.index_mut-snapshot.result.now in
    let v = record x { store = c.evaluate-in-Some.new.self } in
    let new = record t { snapshots = with_item t.snapshots c.in-Some.index v } in
    IfOk-weaker c.evaluate-in-Some.result _ _
    (λ r h. evaluated_at (g.S.Store.stands c.evaluate-in-Some.new.self) (IsStores g.S.Store.stands new) t.place w commits seated c.args.read_only (entry_of c.args.entry.now).text
    (λ cs at. snapshot_set g.S.Store.stands t new c.in-Some.index x v w commits seated cs (sym c.in-Some.ensures.is) c.index_mut-snapshot.ensures.value refl refl refl refl is at) r h)
    (c.evaluate-in-Some.ensures w (commits_at t.place commits) seated (snapshot_stands g.S.Store.stands t c.in-Some.index x w commits seated (sym c.in-Some.ensures.is) c.index_mut-snapshot.ensures.value is) valid)

pub returns-in-Some-clause-starts : goal.returns-in-Some-clause-starts
returns-in-Some-clause-starts g c = starts_set c.args.self.now.snapshots.items c.in-Some.index c.index_mut-snapshot.result.now _ c.index_mut-snapshot.ensures.value refl
