use Rattle.std.proofs.Common.{refl}
use Rattle.hs_moves.specs.Fits.{Fits, kept_of}
use Rattle.hs_queue.specs.Entries.{entry_of}
use Rattle.hs_seams.specs.declared.outcome.Outcome.{Outcome}
use Rattle.hs_seams.specs.World.{World}
use Rattle.hs_sides.specs.Sides.{side_of}
use Rattle.hs_tied.specs.Kept.{opened}
use Rattle.hs_turns.specs.Machine.{Machine}
use Rattle.hs_snapshots.specs.Stores.{IsStores}
use Rattle.hs_transactions.specs.Judged.{IsEvaluated}
use Rattle.hs_transactions.specs.Parts.{parts_of}
use Rattle.hs_transactions.proofs.Conflicting.{moves_conflict}
use Rattle.hs_transactions.proofs.transactions.Transactions.conflict_with.Goals as goal
use Rattle.hs_transactions.proofs.transactions.Transactions.conflict_with.Goals.{In_ok-withdraw}

fits_mid : (g : _) (c : In_ok-withdraw g) (w : World) (m : Machine) (o : Outcome) → IsEvaluated (IsStores g.S.Store.stands) (parts_of c.args.self.now) w m (entry_of c.args.entry.now) c.args.own o
    → Fits (IsStores g.S.Store.stands) (parts_of c.withdraw.new.self) w (opened c.args.entry.now.session.0 c.args.own.auto (kept_of (side_of m)))
fits_mid g c w m o e = c.in_ok-withdraw.ensures.fits w (kept_of (side_of m)) o.changes e.rests e.store e.seated

pub leave-requires-clause-fits : goal.leave-requires-clause-fits
leave-requires-clause-fits g c =
    let x = c.requires.at in
    (x.0, opened c.args.entry.now.session.0 c.args.own.auto (kept_of (side_of x.1)), fits_mid g (goal.at.leave-requires-clause-fits g c).In_ok-withdraw x.0 x.1 x.2 x.3)

pub returns : goal.returns
returns g c = λ w m o e free is.
    let fits = fits_mid g (goal.at.returns g c).In_ok-withdraw w m o e in
    moves_conflict (IsStores g.S.Store.stands) (parts_of c.args.self.now) _ w m (entry_of c.args.entry.now) c.args.own o e free _ c.args.told.now.items _ c.args.number is
    (c.in_ok-leave.ensures w (opened c.args.entry.now.session.0 c.args.own.auto (kept_of (side_of m))) fits) refl refl c.in_ok-tell_conflict.ensures
