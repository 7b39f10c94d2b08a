use Rattle.std.proofs.Common.{refl, sym, ◌∙◌}
use Rattle.hs_moves.specs.Fits.{kept_of}
use Rattle.hs_sides.specs.Sides.{side_of}
use Rattle.hs_moves.proofs.Ended.{rollback_none, rollback_some}
use Rattle.hs_snapshots.specs.Stores.{IsStores}
use Rattle.hs_transactions.specs.Parts.{parts_of}
use Rattle.hs_transactions.proofs.Ends.{open_is}
use Rattle.hs_transactions.proofs.transactions.Transactions.roll_back.Goals as goal

pub returns-then-not-is_open : goal.returns-then-not-is_open
returns-then-not-is_open g c = λ w m fits.
    rollback_none (IsStores g.S.Store.stands) w m (parts_of c.args.self.now) _ c.args.told.now.items _ c.args.session.0
    (open_is (parts_of c.args.self.now) w m fits.rests c.args.session.0 c.requires.here.session ∙ sym c.is_open.ensures ∙ c.if-not-is_open.true) fits refl refl c.in_ok-tell_ok.ensures

pub returns : goal.returns
returns g c = λ w m fits.
    rollback_some (IsStores g.S.Store.stands) w m _ _ c.args.told.now.items _ c.args.session.0
    (open_is (parts_of c.args.self.now) w m fits.rests c.args.session.0 c.requires.here.session ∙ sym c.is_open.ensures ∙ c.if-not-is_open.false) (c.in_ok-leave.ensures w (kept_of (side_of m)) fits) refl refl c.in_ok-tell_ok.ensures
