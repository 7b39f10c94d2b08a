use Rattle.std.proofs.Common.{[], inr, refl}
use Rattle.hs_snapshots.proofs.Standing.{kept_stores, over_stands}
use Rattle.hs_snapshots.proofs.stores.Stores.keep.Goals as goal

pub returns-clause-stands : goal.returns-clause-stands
returns-clause-stands g c = λ w commits is start fresh.
    kept_stores g.S.Store.stands c.args.self.now _ _ w commits refl c.in_ok-push.ensures.items refl is start fresh
    (c.in_ok-store.ensures w commits (over_stands g.S.Store.stands c.args.self.now w commits [] (inr refl) is))
