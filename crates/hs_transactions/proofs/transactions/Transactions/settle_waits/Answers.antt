use Rattle.std.proofs.Common.{refl}
use Rattle.hs_snapshots.specs.Stores.{IsStores}
use Rattle.hs_transactions.specs.Parts.{parts_of}
use Rattle.hs_transactions.proofs.Calling.{waits_answered, waits_first, waits_on}
use Rattle.hs_transactions.proofs.transactions.Transactions.settle_waits.Goals as goal

pub returns-then-is_first : goal.returns-then-is_first
returns-then-is_first g c = λ w side number fits. waits_first (IsStores g.S.Store.stands) (parts_of c.args.self.now) w c.args.is_first c.args.is_final c.args.session.0 side c.if-is_first.true fits

pub returns-then-not-is_final : goal.returns-then-not-is_final
returns-then-not-is_final g c = λ w side number fits. waits_on (IsStores g.S.Store.stands) (parts_of c.args.self.now) w c.args.is_first c.args.is_final c.args.session.0 side c.if-not-is_final.true fits

pub returns : goal.returns
returns g c = λ w side number fits.
    waits_answered (IsStores g.S.Store.stands) (parts_of c.args.self.now) _ w c.args.is_first c.args.is_final c.args.session.0 side number c.if-is_first.false c.if-not-is_final.false fits
    (record { waits = c.answer.ensures.waits; seats = c.answer.ensures.seats; claims = c.answer.ensures.claims }) refl refl refl fits.store
