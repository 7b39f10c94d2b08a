use Rattle.std.proofs.Common.{◌≡◌, ◌∙◌, ap, refl, subst}
use Rattle.hs_holding.specs.declared.holding.Holding.{Holding}
use Rattle.hs_holding.specs.Held.{is_open_at}
use Rattle.hs_controls.specs.Sights.{behind_own}
use Rattle.hs_turns.specs.Histories.{Open}
use Rattle.hs_moves.specs.Fits.{kept_of}
use Rattle.hs_moves.proofs.Seating.{number_of}
use Rattle.hs_queue.specs.Entries.{entry_of}
use Rattle.hs_seams.specs.World.{World}
use Rattle.hs_sides.specs.Sides.{side_of}
use Rattle.hs_tied.specs.Kept.{left}
use Rattle.hs_turns.specs.Machine.{Machine}
use Rattle.hs_snapshots.specs.Stores.{IsStores}
use Rattle.hs_transactions.specs.Parts.{parts_of}
use Rattle.hs_transactions.specs.Settled.{IsSettled}
use Rattle.hs_transactions.specs.Standing.{IsAt}
use Rattle.hs_transactions.specs.declared.settling.Settled.{Settled}
use Rattle.hs_transactions.specs.declared.settling.Settled.TheVariants as settled
use Rattle.hs_transactions.proofs.Firsts.{at_committed, at_left, first_committed, first_full, first_many, first_unchanged}
use Rattle.hs_transactions.proofs.Opens.{IsFound, found_open}
use Rattle.hs_transactions.proofs.Seats.{here_of}
use Rattle.hs_transactions.proofs.transactions.Transactions.commit_first.Goals as goal
use Rattle.hs_transactions.proofs.transactions.Transactions.commit_first.Goals.{In_ok-settle}

-- its session's own transaction
its : (g : _) (c : In_ok-settle g) (w : World) (m : Machine) → IsAt (IsStores g.S.Store.stands) (parts_of c.args.self.now) w m → (o : Open) × IsFound c.seat_for_commit.new.self.holding (kept_of (side_of m)) c.args.entry.now.session.0 o
its g c w m at = found_open c.seat_for_commit.new.self.holding (kept_of (side_of m)) (c.in_ok-seat_for_commit.ensures.fits w (kept_of (side_of m)) at.stands.fits).rests.holds c.args.entry.now.session.0 c.requires.here.session (ap (λ (h : Holding). is_open_at h c.args.entry.now.session.0) c.in_ok-seat_for_commit.ensures.holding ∙ c.requires.opened)

-- what its commit came to
how : (g : _) (c : In_ok-settle g) (w : World) (m : Machine) (at : IsAt (IsStores g.S.Store.stands) (parts_of c.args.self.now) w m) (x : Settled) → c.in_ok-settle.field-0 ≡ x
    → IsSettled (IsStores g.S.Store.stands) w (kept_of (side_of m)) (its g c w m at).0 (parts_of c.settle.new.self) c.args.made.now c.settle.new.made x
how g c w m at x is =
    let one = its g c w m at in
    subst (IsSettled (IsStores g.S.Store.stands) w (kept_of (side_of m)) one.0 (parts_of c.settle.new.self) c.args.made.now c.settle.new.made) is
    (c.in_ok-settle.ensures.settled w (kept_of (side_of m)) one.0 (record { fits = c.in_ok-seat_for_commit.ensures.fits w (kept_of (side_of m)) at.stands.fits; seated = c.in_ok-seat_for_commit.ensures.seated; session = one.1.session; changes = one.1.its.changes; claims = one.1.claims }))

pub settle-requires-clause-on_store : goal.settle-requires-clause-on_store
settle-requires-clause-on_store g c =
    let x = c.requires.at in
    let k = kept_of (side_of x.1) in
    let fits = c.in_ok-seat_for_commit.ensures.fits x.0 k x.2.stands.fits in
    let one = found_open c.seat_for_commit.new.self.holding k fits.rests.holds c.args.entry.now.session.0 c.requires.here.session (ap (λ (h : Holding). is_open_at h c.args.entry.now.session.0) c.in_ok-seat_for_commit.ensures.holding ∙ c.requires.opened) in
    (x.0, k, one.0, record { fits = fits; seated = c.in_ok-seat_for_commit.ensures.seated; session = one.1.session; changes = one.1.its.changes; claims = one.1.claims })

-- ---- it ended without changes

pub leave-requires-clause-fits : goal.leave-requires-clause-fits
leave-requires-clause-fits g c =
    let x = c.requires.at in
    (x.0, kept_of (side_of x.1), (how g (goal.at.leave-requires-clause-fits g c).In_ok-settle x.0 x.1 x.2 settled.Unchanged c.in-Unchanged.is).fits)

pub define_or_wait-requires-clause-here : goal.define_or_wait-requires-clause-here
define_or_wait-requires-clause-here g c =
    let before = (goal.at.define_or_wait-requires-clause-here g c).In_ok-settle in
    let x = c.requires.at in
    let k = kept_of (side_of x.1) in
    let s = c.args.entry.now.session.0 in
    let fits = c.in_ok-leave-in-Unchanged.ensures x.0 k (how g before x.0 x.1 x.2 settled.Unchanged c.in-Unchanged.is).fits in
    here_of _ x.0 (left s k) s fits.rests (number_of (parts_of c.args.self.now) k s x.2.stands.fits.rests.holds c.requires.here)

pub define_or_wait-requires-clause-at : goal.define_or_wait-requires-clause-at
define_or_wait-requires-clause-at g c =
    let before = (goal.at.define_or_wait-requires-clause-at g c).In_ok-settle in
    let x = c.requires.at in
    let y = how g before x.0 x.1 x.2 settled.Unchanged c.in-Unchanged.is in
    let one = its g before x.0 x.1 x.2 in (
      x.0,
      behind_own x.0 x.1 c.args.entry.now.session.0,
      at_left (IsStores g.S.Store.stands) (parts_of c.args.self.now) (parts_of c.settle.new.self) x.0 x.1 (entry_of c.args.entry.now) x.2 one.0 one.1.found c.args.made.now c.settle.new.made _ y (c.in_ok-leave-in-Unchanged.ensures x.0 (kept_of (side_of x.1)) y.fits),
    )

pub returns-in_ok-behind-in-Unchanged : goal.returns-in_ok-behind-in-Unchanged
returns-in_ok-behind-in-Unchanged g c = λ w m at names asks.
    let before = (goal.at.returns-in_ok-behind-in-Unchanged g c).In_ok-settle in
    let y = how g before w m at settled.Unchanged c.in-Unchanged.is in
    let one = its g before w m at in
    let after = at_left (IsStores g.S.Store.stands) (parts_of c.args.self.now) (parts_of c.settle.new.self) w m (entry_of c.args.entry.now) at one.0 one.1.found c.args.made.now c.settle.new.made _ y (c.in_ok-leave-in-Unchanged.ensures w (kept_of (side_of m)) y.fits) in
    first_unchanged (IsStores g.S.Store.stands) (parts_of c.args.self.now) (parts_of c.settle.new.self) w m (entry_of c.args.entry.now) at one.0 one.1.found c.args.made.now c.settle.new.made _ _ c.args.told.now.items _ c.in_ok-behind-in-Unchanged.behind _ y
    (c.in_ok-behind-in-Unchanged.ensures w (behind_own w m c.args.entry.now.session.0) after names asks) refl refl

-- ---- it was committed

pub define_or_wait-requires-in-Committed-clause-at : goal.define_or_wait-requires-in-Committed-clause-at
define_or_wait-requires-in-Committed-clause-at g c =
    let before = (goal.at.define_or_wait-requires-in-Committed-clause-at g c).In_ok-settle in
    let x = c.requires.at in
    let y = how g before x.0 x.1 x.2 (settled.Committed c.in-Committed.number) c.in-Committed.is in
    let one = its g before x.0 x.1 x.2 in (
      x.0,
      behind_own x.0 x.1 c.args.entry.now.session.0,
      at_committed (IsStores g.S.Store.stands) (parts_of c.args.self.now) (parts_of c.settle.new.self) x.0 x.1 (entry_of c.args.entry.now) x.2 one.0 one.1.found c.args.made.now c.settle.new.made one.1.session y.0,
    )

pub returns-in_ok-behind-in-Committed : goal.returns-in_ok-behind-in-Committed
returns-in_ok-behind-in-Committed g c = λ w m at names asks.
    let before = (goal.at.returns-in_ok-behind-in-Committed g c).In_ok-settle in
    let y = how g before w m at (settled.Committed c.in-Committed.number) c.in-Committed.is in
    let one = its g before w m at in
    let after = at_committed (IsStores g.S.Store.stands) (parts_of c.args.self.now) (parts_of c.settle.new.self) w m (entry_of c.args.entry.now) at one.0 one.1.found c.args.made.now c.settle.new.made one.1.session y.0 in
    first_committed (IsStores g.S.Store.stands) (parts_of c.args.self.now) (parts_of c.settle.new.self) w m (entry_of c.args.entry.now) at one.0 one.1.found c.args.made.now c.settle.new.made _ _ c.args.told.now.items _ c.in_ok-behind-in-Committed.behind _ c.in-Committed.number _ y
    c.in_ok-push-in-Committed.ensures.items
    (c.in_ok-behind-in-Committed.ensures w (behind_own w m c.args.entry.now.session.0) after names asks) refl refl

-- ---- it found no room

pub returns-in_ok-tell_refusal-in-TooManyChanges : goal.returns-in_ok-tell_refusal-in-TooManyChanges
returns-in_ok-tell_refusal-in-TooManyChanges g c = λ w m at names asks.
    let before = (goal.at.returns-in_ok-tell_refusal-in-TooManyChanges g c).In_ok-settle in
    let y = how g before w m at settled.TooManyChanges c.in-TooManyChanges.is in
    let one = its g before w m at in
    first_many (IsStores g.S.Store.stands) (parts_of c.args.self.now) (parts_of c.settle.new.self) w m (entry_of c.args.entry.now) at one.0 one.1.found c.args.made.now c.settle.new.made (parts_of c.settle.new.self) _ c.args.told.now.items _ y refl refl
    c.in_ok-tell_refusal-in-TooManyChanges.ensures

pub returns-in_ok-tell_refusal-in-LogFull : goal.returns-in_ok-tell_refusal-in-LogFull
returns-in_ok-tell_refusal-in-LogFull g c = λ w m at names asks.
    let before = (goal.at.returns-in_ok-tell_refusal-in-LogFull g c).In_ok-settle in
    let y = how g before w m at settled.LogFull c.in-LogFull.is in
    let one = its g before w m at in
    first_full (IsStores g.S.Store.stands) (parts_of c.args.self.now) (parts_of c.settle.new.self) w m (entry_of c.args.entry.now) at one.0 one.1.found c.args.made.now c.settle.new.made (parts_of c.settle.new.self) _ c.args.told.now.items _ y refl refl
    c.in_ok-tell_refusal-in-LogFull.ensures
