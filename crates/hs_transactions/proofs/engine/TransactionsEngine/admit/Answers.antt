use Rattle.std.proofs.Common.{◌<◌, length, refl, arith}
use Rattle.std.proofs.lemmas.Result.{on_ok_weaker}
use Rattle.hs_controls.proofs.Admitting.{fits_admitted}
use Rattle.hs_moves.specs.Fits.{changes_of}
use Rattle.hs_snapshots.specs.Stores.{IsStores}
use Rattle.hs_transactions.specs.Parts.{parts_of}
use Rattle.hs_transactions.proofs.Sanity.{sane_new}
use Rattle.hs_transactions.proofs.engine.TransactionsEngine.admit.Goals as goal

pub returns : goal.returns
returns g c = λ w side stands.
    let t = parts_of c.args.self.now in
    let x = c.requires.stands in
    let few : length side.settings < 64 = omega (arith, x.2.1, stands.fits.rests.holds.len, x.2.0.fits.rests.holds.len) in
    on_ok_weaker c.admit.result
    (λ seats. record {
      world = stands.world;
      fits = fits_admitted (IsStores g.S.Store.stands) w side t _ c.level-level.result stands.fits.rests few (c.level-level.ensures w side.history.commits (changes_of t t.seated.0) stands.fits.store) (record { seats = seats; claims = c.admit.ensures.claims; waits = c.admit.ensures.waits }) refl refl refl stands.fits.store;
      sane = sane_new w side stands.sane;
    })
    c.admit.ensures.seats
