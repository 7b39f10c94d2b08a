use Rattle.std.proofs.Common.{refl}
use Rattle.hs_moves.specs.Fits.{Fits, kept_of}
use Rattle.hs_queue.specs.Entries.{entry_of}
use Rattle.hs_seams.specs.declared.outcome.Outcome.{Outcome}
use Rattle.hs_seams.specs.World.{World}
use Rattle.hs_sides.specs.Sides.{side_of}
use Rattle.hs_tied.specs.Kept.{opened}
use Rattle.hs_turns.specs.Machine.{Machine}
use Rattle.hs_snapshots.specs.Stores.{IsStores}
use Rattle.hs_transactions.specs.Judged.{IsEvaluated}
use Rattle.hs_transactions.specs.Parts.{parts_of}
use Rattle.hs_transactions.proofs.HoldingUp.{moves_deadlock, moves_waiting}
use Rattle.hs_transactions.proofs.transactions.Transactions.hold_up.Goals as goal
use Rattle.hs_transactions.proofs.transactions.Transactions.hold_up.Goals.{In_ok-withdraw}

fits_mid : (g : _) (c : In_ok-withdraw g) (w : World) (m : Machine) (o : Outcome) → IsEvaluated (IsStores g.S.Store.stands) (parts_of c.args.self.now) w m (entry_of c.args.entry.now) c.args.own o
    → Fits (IsStores g.S.Store.stands) (parts_of c.withdraw.new.self) w (opened c.args.entry.now.session.0 c.args.own.auto (kept_of (side_of m)))
fits_mid g c w m o e = c.in_ok-withdraw.ensures.fits w (kept_of (side_of m)) o.changes e.rests e.store e.seated

pub leave-requires-clause-fits : goal.leave-requires-clause-fits
leave-requires-clause-fits g c =
    let x = c.requires.at in
    (x.0, opened c.args.entry.now.session.0 c.args.own.auto (kept_of (side_of x.1)), fits_mid g (goal.at.leave-requires-clause-fits g c).In_ok-withdraw x.0 x.1 x.2 x.3)

pub returns-in_ok-tell_deadlock-in-Some : goal.returns-in_ok-tell_deadlock-in-Some
returns-in_ok-tell_deadlock-in-Some g c = λ w m o e are blocked names.
    let fits = fits_mid g (goal.at.returns-in_ok-tell_deadlock-in-Some g c).In_ok-withdraw w m o e in
    moves_deadlock (IsStores g.S.Store.stands) (parts_of c.args.self.now) (parts_of c.withdraw.new.self) _ w m (entry_of c.args.entry.now) c.args.own o e c.requires.here c.args.blockers are blocked fits _ c.args.told.now.items _
    c.args.names.now c.in-Some.back names c.in-Some.ensures (c.in_ok-leave-in-Some.ensures w (opened c.args.entry.now.session.0 c.args.own.auto (kept_of (side_of m))) fits) refl refl c.in_ok-tell_deadlock-in-Some.ensures

pub returns-in_ok-push-in-None : goal.returns-in_ok-push-in-None
returns-in_ok-push-in-None g c = λ w m o e are blocked names.
    let fits = fits_mid g (goal.at.returns-in_ok-push-in-None g c).In_ok-withdraw w m o e in
    moves_waiting (IsStores g.S.Store.stands) (parts_of c.args.self.now) (parts_of c.withdraw.new.self) _ w m (entry_of c.args.entry.now) c.args.own o e c.requires.here c.args.blockers are blocked fits _ c.args.told.now.items _
    c.in_ok-withdraw.ensures.here (record { waits = c.wait.ensures.waits; seats = c.wait.ensures.seats; claims = c.wait.ensures.claims }) refl refl refl refl c.in-None.ensures refl refl c.in_ok-push-in-None.ensures.items
