use Rattle.std.proofs.Common.{inl, refl}
use Rattle.std.proofs.lemmas.Result.{IfOk-weaker}
use Rattle.hs_snapshots.proofs.Standing.{commits_over, over_stands}
use Rattle.hs_snapshots.proofs.stores.Stores.commit.Goals as goal

pub commit-requires-clause-room : goal.commit-requires-clause-room
commit-requires-clause-room g c = let r = c.requires.room in (r.0, r.1, (over_stands g.S.Store.stands c.args.self.now r.0 r.1 c.args.changes.now (inl c.requires.place) r.2.0, r.2.1))

pub returns-clause-committed : goal.returns-clause-committed
returns-clause-committed g c = λ w commits is k session changes.
    IfOk-weaker c.commit.result _ _
    (λ made h. commits_over g.S.Store.stands c.args.self.now _ w commits c.args.changes.now (inl c.requires.place) refl refl is k c.args.made.now c.commit.new.made made h)
    (c.commit.ensures.committed w commits (over_stands g.S.Store.stands c.args.self.now w commits c.args.changes.now (inl c.requires.place) is) k session changes)
