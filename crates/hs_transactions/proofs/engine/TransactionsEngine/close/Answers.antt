use Rattle.std.proofs.Common.{◌∙◌, true, false, sym}
use Rattle.hs_controls.proofs.Sides.{closed_fits, opens_alone}
use Rattle.hs_moves.specs.Fits.{IsHere, kept_of}
use Rattle.hs_snapshots.specs.Stores.{IsStores}
use Rattle.hs_transactions.specs.Parts.{parts_of}
use Rattle.hs_transactions.proofs.Calling.{here_known}
use Rattle.hs_transactions.proofs.Sanity.{sane_closed}
use Rattle.hs_transactions.proofs.engine.TransactionsEngine.close.Goals as goal
use Rattle.hs_transactions.proofs.engine.TransactionsEngine.close.Goals.{Start}

here : (g : _) (c : Start g) → IsHere (parts_of c.args.self.now) c.args.session.0
here g c = let x = c.requires.stands in here_known (IsStores g.S.Store.stands) (parts_of c.args.self.now) x.0 c.args._names.now x.1 x.2.0 x.2.1 c.args.session.0 c.requires.known

pub is_open-requires : goal.is_open-requires
is_open-requires g c = (here g (goal.at.is_open-requires g c).Start).seat

pub leave-requires-clause-here : goal.leave-requires-clause-here
leave-requires-clause-here g c = here g (goal.at.leave-requires-clause-here g c).Start

pub leave-requires-clause-fits : goal.leave-requires-clause-fits
leave-requires-clause-fits g c = let x = c.requires.stands in (x.0, kept_of x.1, x.2.0.fits)

pub returns-then-not-is_open : goal.returns-then-not-is_open
returns-then-not-is_open g c = λ w side stands.
    let names = c.args._names.now in
    let alone_is = opens_alone w names side (parts_of c.args.self.now) c.args.session.0 stands.fits.rests (here g (goal.at.returns-then-not-is_open g c).Start).session in
    record {
      open_ = sym c.if-not-is_open.true ∙ c.is_open.ensures ∙ alone_is;
      stands = record {
        world = stands.world;
        fits = closed_fits w names side c.args.session.0 (IsStores g.S.Store.stands) (parts_of c.args.self.now) false (sym alone_is ∙ sym c.is_open.ensures ∙ c.if-not-is_open.true) stands.fits;
        sane = sane_closed w names c.args.session.0 side stands.sane;
      };
    }

pub returns : goal.returns
returns g c = λ w side stands.
    let names = c.args._names.now in
    let alone_is = opens_alone w names side (parts_of c.args.self.now) c.args.session.0 stands.fits.rests (here g (goal.at.returns g c).Start).session in
    record {
      open_ = sym c.if-not-is_open.false ∙ c.is_open.ensures ∙ alone_is;
      stands = record {
        world = stands.world;
        fits = closed_fits w names side c.args.session.0 (IsStores g.S.Store.stands) (parts_of c.leave.new.self) true (sym alone_is ∙ sym c.is_open.ensures ∙ c.if-not-is_open.false) (c.in_ok-leave.ensures w (kept_of side) stands.fits);
        sane = sane_closed w names c.args.session.0 side stands.sane;
      };
    }
