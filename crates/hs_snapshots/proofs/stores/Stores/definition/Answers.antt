use Rattle.std.proofs.Common.{[], inr, refl}
use Rattle.hs_snapshots.proofs.Standing.{over_stands}
use Rattle.hs_snapshots.proofs.stores.Stores.definition.Goals as goal

pub definition-requires-clause-ready : goal.definition-requires-clause-ready
definition-requires-clause-ready g c = let r = c.requires.ready in (r.0, r.1, [], (over_stands g.S.Store.stands c.args.self.now r.0 r.1 [] (inr refl) r.2.0, r.2.1))
