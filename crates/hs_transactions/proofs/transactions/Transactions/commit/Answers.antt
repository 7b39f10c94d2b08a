use Rattle.std.proofs.Common.{refl, sym, ◌∙◌}
use Rattle.hs_moves.specs.Fits.{kept_of}
use Rattle.hs_sides.specs.Sides.{side_of}
use Rattle.hs_moves.proofs.Ended.{commit_none}
use Rattle.hs_snapshots.specs.Stores.{IsStores}
use Rattle.hs_transactions.specs.Parts.{parts_of}
use Rattle.hs_transactions.proofs.Opens.{found_shut}
use Rattle.hs_transactions.proofs.transactions.Transactions.commit.Goals as goal

pub returns : goal.returns
returns g c = λ w m fits.
    commit_none (IsStores g.S.Store.stands) w m (parts_of c.args.self.now) _ c.args.told.now.items _ c.args.session.0 c.args.made.now
    (found_shut c.args.self.now.holding (kept_of (side_of m)) fits.rests.holds c.args.session.0 c.requires.here.session (sym c.is_open.ensures ∙ c.if-is_open.false)) fits refl refl c.in_ok-tell_ok.ensures
