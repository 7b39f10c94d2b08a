use Rattle.std.proofs.Common.{refl}
use Rattle.hs_snapshots.specs.Stores.{IsStores}
use Rattle.hs_transactions.specs.Parts.{parts_of}
use Rattle.hs_controls.specs.Called.{IsControlled}
use Rattle.hs_transactions.proofs.Ends.{begun_with, named_rests}
use Rattle.hs_transactions.proofs.Seats.{here_set}
use Rattle.hs_transactions.proofs.transactions.Transactions.begin_with.Goals as goal

pub begin-requires : goal.begin-requires
begin-requires g c = here_set (parts_of c.args.self.now) _ c.args.session.0 _ c.in_ok-control.ensures.seats c.requires.here

pub returns : goal.returns
returns g c = λ w m fits.
    let old = parts_of c.args.self.now in
    let mid = parts_of (record c.args.self.now { holding = c.control.new.self }) in
    let i : IsControlled _ _ _ _ = record { seats = c.in_ok-control.ensures.seats; claims = c.in_ok-control.ensures.claims; waits = c.in_ok-control.ensures.waits } in
    let rests = named_rests (IsStores g.S.Store.stands) old mid mid w m c.args.modes c.args.session.0 c.requires.here c.requires.shut fits i refl refl refl refl in
    begun_with (IsStores g.S.Store.stands) old mid _ w m c.args.modes c.args.session.0 c.requires.here c.requires.shut fits i refl refl refl refl
    (c.in_ok-begin.ensures.rests w _ rests) (c.in_ok-begin.ensures.changes w _ rests) c.in_ok-begin.ensures.stores c.in_ok-begin.ensures.seated
