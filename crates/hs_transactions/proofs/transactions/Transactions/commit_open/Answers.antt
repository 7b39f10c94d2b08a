use Rattle.std.proofs.Common.{◌≡◌, ◌∙◌, refl, ap, subst}
use Rattle.hs_holding.specs.declared.holding.Holding.{Holding}
use Rattle.hs_holding.specs.Held.{is_open_at}
use Rattle.hs_turns.specs.Histories.{Open}
use Rattle.hs_moves.specs.Fits.{Fits, kept_of}
use Rattle.hs_seams.specs.World.{World}
use Rattle.hs_sides.specs.Sides.{side_of}
use Rattle.hs_tied.specs.Kept.{Kept}
use Rattle.hs_snapshots.specs.Stores.{IsStores}
use Rattle.hs_transactions.specs.Parts.{parts_of}
use Rattle.hs_transactions.specs.Settled.{IsSettled}
use Rattle.hs_transactions.specs.declared.settling.Settled.{Settled}
use Rattle.hs_transactions.specs.declared.settling.Settled.TheVariants as settled
use Rattle.hs_transactions.proofs.Opens.{IsFound, found_open}
use Rattle.hs_transactions.proofs.Ends.{commit_done, commit_long, commit_over, commit_unchanged}
use Rattle.hs_transactions.proofs.Seats.{here_same}
use Rattle.hs_transactions.proofs.transactions.Transactions.commit_open.Goals as goal
use Rattle.hs_transactions.proofs.transactions.Transactions.commit_open.Goals.{In_ok-seat_for_commit, In_ok-settle}

fits_mid : (g : _) (c : In_ok-seat_for_commit g) (w : World) (k : Kept) → Fits (IsStores g.S.Store.stands) (parts_of c.args.self.now) w k → Fits (IsStores g.S.Store.stands) (parts_of c.seat_for_commit.new.self) w k
fits_mid g c w k fits = c.in_ok-seat_for_commit.ensures.fits w k fits

-- its transaction
its : (g : _) (c : In_ok-seat_for_commit g) (w : World) (k : Kept) → Fits (IsStores g.S.Store.stands) (parts_of c.args.self.now) w k → (o : Open) × IsFound c.seat_for_commit.new.self.holding k c.args.session.0 o
its g c w k fits = found_open c.seat_for_commit.new.self.holding k (fits_mid g c w k fits).rests.holds c.args.session.0 c.requires.here.session (ap (λ (h : Holding). is_open_at h c.args.session.0) c.in_ok-seat_for_commit.ensures.holding ∙ c.requires.opened)

pub settle-requires-clause-on_store : goal.settle-requires-clause-on_store
settle-requires-clause-on_store g c =
    let before = (goal.at.settle-requires-clause-on_store g c).In_ok-seat_for_commit in
    let x = c.requires.fits in
    let one = its g before x.0 x.1 x.2 in
    let fits = fits_mid g before x.0 x.1 x.2 in
    (x.0, x.1, one.0, record { fits = fits; seated = c.in_ok-seat_for_commit.ensures.seated; session = one.1.session; changes = one.1.its.changes; claims = one.1.claims })

pub settle-requires-clause-here : goal.settle-requires-clause-here
settle-requires-clause-here g c = here_same (parts_of c.args.self.now) (parts_of c.seat_for_commit.new.self) c.args.session.0 c.in_ok-seat_for_commit.ensures.holding c.requires.here

-- what its commit came to
how : (g : _) (c : In_ok-settle g) (w : World) (k : Kept) (o : Open) (fits : Fits (IsStores g.S.Store.stands) (parts_of c.args.self.now) w k) → IsFound c.seat_for_commit.new.self.holding k c.args.session.0 o → (x : Settled) → c.in_ok-settle.field-0 ≡ x
    → IsSettled (IsStores g.S.Store.stands) w k o (parts_of c.settle.new.self) c.args.made.now c.settle.new.made x
how g c w k o fits found x is = subst (IsSettled (IsStores g.S.Store.stands) w k o (parts_of c.settle.new.self) c.args.made.now c.settle.new.made) is
    (c.in_ok-settle.ensures.settled w k o (record { fits = c.in_ok-seat_for_commit.ensures.fits w k fits; seated = c.in_ok-seat_for_commit.ensures.seated; session = found.session; changes = found.its.changes; claims = found.claims }))

pub leave-requires-clause-fits : goal.leave-requires-clause-fits
leave-requires-clause-fits g c =
    let x = c.requires.fits in
    let at = goal.at.leave-requires-clause-fits g c in
    let one = its g at.In_ok-seat_for_commit x.0 x.1 x.2 in
    (x.0, x.1, (how g at.In_ok-settle x.0 x.1 one.0 x.2 one.1 settled.Unchanged c.in-Unchanged.is).fits)

pub returns-in_ok-tell_ok-in-Unchanged : goal.returns-in_ok-tell_ok-in-Unchanged
returns-in_ok-tell_ok-in-Unchanged g c = λ w m fits.
    let k = kept_of (side_of m) in
    let one = its g (goal.at.returns-in_ok-tell_ok-in-Unchanged g c).In_ok-seat_for_commit w k fits in
    let x = how g (goal.at.returns-in_ok-tell_ok-in-Unchanged g c).In_ok-settle w k one.0 fits one.1 settled.Unchanged c.in-Unchanged.is in
    commit_unchanged (IsStores g.S.Store.stands) (parts_of c.seat_for_commit.new.self) _ w m c.args.session.0 _ c.args.told.now.items _ c.args.made.now c.settle.new.made one.0 one.1 (parts_of c.settle.new.self) x
    (c.in_ok-leave-in-Unchanged.ensures w k x.fits) refl refl c.in_ok-tell_ok-in-Unchanged.ensures

pub returns-in_ok-tell_ok-in-Committed : goal.returns-in_ok-tell_ok-in-Committed
returns-in_ok-tell_ok-in-Committed g c = λ w m fits.
    let k = kept_of (side_of m) in
    let one = its g (goal.at.returns-in_ok-tell_ok-in-Committed g c).In_ok-seat_for_commit w k fits in
    let x = how g (goal.at.returns-in_ok-tell_ok-in-Committed g c).In_ok-settle w k one.0 fits one.1 (settled.Committed c.in-Committed.number) c.in-Committed.is in
    commit_done (IsStores g.S.Store.stands) (parts_of c.seat_for_commit.new.self) (parts_of c.settle.new.self) w m c.args.session.0 _ c.args.told.now.items _ c.args.made.now c.settle.new.made one.0 one.1 c.in-Committed.number x refl refl c.in_ok-tell_ok-in-Committed.ensures

pub returns-in_ok-tell_refusal-in-TooManyChanges : goal.returns-in_ok-tell_refusal-in-TooManyChanges
returns-in_ok-tell_refusal-in-TooManyChanges g c = λ w m fits.
    let k = kept_of (side_of m) in
    let one = its g (goal.at.returns-in_ok-tell_refusal-in-TooManyChanges g c).In_ok-seat_for_commit w k fits in
    let x = how g (goal.at.returns-in_ok-tell_refusal-in-TooManyChanges g c).In_ok-settle w k one.0 fits one.1 settled.TooManyChanges c.in-TooManyChanges.is in
    commit_over (IsStores g.S.Store.stands) (parts_of c.seat_for_commit.new.self) (parts_of c.settle.new.self) w m c.args.session.0 _ c.args.told.now.items _ c.args.made.now c.settle.new.made one.0 one.1 x refl refl c.in_ok-tell_refusal-in-TooManyChanges.ensures

pub returns-in_ok-tell_refusal-in-LogFull : goal.returns-in_ok-tell_refusal-in-LogFull
returns-in_ok-tell_refusal-in-LogFull g c = λ w m fits.
    let k = kept_of (side_of m) in
    let one = its g (goal.at.returns-in_ok-tell_refusal-in-LogFull g c).In_ok-seat_for_commit w k fits in
    let x = how g (goal.at.returns-in_ok-tell_refusal-in-LogFull g c).In_ok-settle w k one.0 fits one.1 settled.LogFull c.in-LogFull.is in
    commit_long (IsStores g.S.Store.stands) (parts_of c.seat_for_commit.new.self) (parts_of c.settle.new.self) w m c.args.session.0 _ c.args.told.now.items _ c.args.made.now c.settle.new.made one.0 one.1 x refl refl c.in_ok-tell_refusal-in-LogFull.ensures
