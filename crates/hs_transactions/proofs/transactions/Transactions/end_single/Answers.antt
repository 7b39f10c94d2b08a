use Rattle.std.proofs.Common.{◌≡◌, refl, subst}
use Rattle.hs_queue.specs.Entries.{entry_of}
use Rattle.hs_seams.specs.World.{World}
use Rattle.hs_turns.specs.Machine.{Machine}
use Rattle.hs_moves.specs.Begun.{kept_after}
use Rattle.hs_moves.specs.Evaluated.{data_after}
use Rattle.hs_snapshots.specs.Stores.{IsStores}
use Rattle.hs_transactions.specs.Judged.{HasGone}
use Rattle.hs_transactions.specs.Parts.{parts_of}
use Rattle.hs_transactions.specs.Settled.{IsSettled}
use Rattle.hs_transactions.specs.declared.settling.Settled.{Settled}
use Rattle.hs_transactions.specs.declared.settling.Settled.TheVariants as settled
use Rattle.hs_transactions.proofs.Single.{gone_on_store, moves_committed, moves_full, moves_many, moves_unchanged}
use Rattle.hs_transactions.proofs.transactions.Transactions.end_single.Goals as goal
use Rattle.hs_transactions.proofs.transactions.Transactions.end_single.Goals.{In_ok-settle}

pub settle-requires-clause-on_store : goal.settle-requires-clause-on_store
settle-requires-clause-on_store g c =
    let x = c.requires.at in
    (x.0, kept_after x.0 x.1 (entry_of c.args.entry.now), data_after x.0 x.1 (entry_of c.args.entry.now), gone_on_store (IsStores g.S.Store.stands) (parts_of c.args.self.now) x.0 x.1 (entry_of c.args.entry.now) c.args.rows.items c.args.reply x.2 (parts_of c.seat_for_commit.new.self) (c.in_ok-seat_for_commit.ensures.fits x.0 (kept_after x.0 x.1 (entry_of c.args.entry.now)) x.2.fits) c.in_ok-seat_for_commit.ensures.seated c.in_ok-seat_for_commit.ensures.holding)

-- what its commit came to
how : (g : _) (c : In_ok-settle g) (w : World) (m : Machine) → HasGone (IsStores g.S.Store.stands) (parts_of c.args.self.now) w m (entry_of c.args.entry.now) c.args.rows.items c.args.reply → (x : Settled) → c.in_ok-settle.field-0 ≡ x
    → IsSettled (IsStores g.S.Store.stands) w (kept_after w m (entry_of c.args.entry.now)) (data_after w m (entry_of c.args.entry.now)) (parts_of c.settle.new.self) c.args.made.now c.settle.new.made x
how g c w m gone x is = subst (IsSettled (IsStores g.S.Store.stands) w (kept_after w m (entry_of c.args.entry.now)) (data_after w m (entry_of c.args.entry.now)) (parts_of c.settle.new.self) c.args.made.now c.settle.new.made) is
    (c.in_ok-settle.ensures.settled w (kept_after w m (entry_of c.args.entry.now)) (data_after w m (entry_of c.args.entry.now)) (gone_on_store (IsStores g.S.Store.stands) (parts_of c.args.self.now) w m (entry_of c.args.entry.now) c.args.rows.items c.args.reply gone (parts_of c.seat_for_commit.new.self) (c.in_ok-seat_for_commit.ensures.fits w (kept_after w m (entry_of c.args.entry.now)) gone.fits) c.in_ok-seat_for_commit.ensures.seated c.in_ok-seat_for_commit.ensures.holding))

pub leave-requires-clause-fits : goal.leave-requires-clause-fits
leave-requires-clause-fits g c =
    let x = c.requires.at in
    (x.0, kept_after x.0 x.1 (entry_of c.args.entry.now), (how g (goal.at.leave-requires-clause-fits g c).In_ok-settle x.0 x.1 x.2 settled.Unchanged c.in-Unchanged.is).fits)

pub leave-requires-in-TooManyChanges-clause-fits : goal.leave-requires-in-TooManyChanges-clause-fits
leave-requires-in-TooManyChanges-clause-fits g c =
    let x = c.requires.at in
    (x.0, kept_after x.0 x.1 (entry_of c.args.entry.now), (how g (goal.at.leave-requires-in-TooManyChanges-clause-fits g c).In_ok-settle x.0 x.1 x.2 settled.TooManyChanges c.in-TooManyChanges.is).fits)

pub leave-requires-in-LogFull-clause-fits : goal.leave-requires-in-LogFull-clause-fits
leave-requires-in-LogFull-clause-fits g c =
    let x = c.requires.at in
    (x.0, kept_after x.0 x.1 (entry_of c.args.entry.now), (how g (goal.at.leave-requires-in-LogFull-clause-fits g c).In_ok-settle x.0 x.1 x.2 settled.LogFull c.in-LogFull.is).fits)

pub returns-in_ok-tell_outcome-in-Unchanged : goal.returns-in_ok-tell_outcome-in-Unchanged
returns-in_ok-tell_outcome-in-Unchanged g c = λ w m gone auto.
    let x = how g (goal.at.returns-in_ok-tell_outcome-in-Unchanged g c).In_ok-settle w m gone settled.Unchanged c.in-Unchanged.is in
    moves_unchanged (IsStores g.S.Store.stands) (parts_of c.args.self.now) w m (entry_of c.args.entry.now) c.args.rows.items c.args.reply gone _ _ c.args.told.now.items _ c.args.made.now c.settle.new.made refl auto refl (parts_of c.settle.new.self)
    x (c.in_ok-leave-in-Unchanged.ensures w (kept_after w m (entry_of c.args.entry.now)) x.fits) c.in_ok-tell_outcome-in-Unchanged.ensures

pub returns-in_ok-tell_outcome-in-Committed : goal.returns-in_ok-tell_outcome-in-Committed
returns-in_ok-tell_outcome-in-Committed g c = λ w m gone auto.
    let x = how g (goal.at.returns-in_ok-tell_outcome-in-Committed g c).In_ok-settle w m gone (settled.Committed c.in-Committed.number) c.in-Committed.is in
    moves_committed (IsStores g.S.Store.stands) (parts_of c.args.self.now) w m (entry_of c.args.entry.now) c.args.rows.items c.args.reply gone (parts_of c.settle.new.self) _ c.args.told.now.items _ c.args.made.now c.settle.new.made refl auto refl
    c.in-Committed.number x c.in_ok-tell_outcome-in-Committed.ensures

pub returns-in_ok-tell_refusal-in-TooManyChanges : goal.returns-in_ok-tell_refusal-in-TooManyChanges
returns-in_ok-tell_refusal-in-TooManyChanges g c = λ w m gone auto.
    let x = how g (goal.at.returns-in_ok-tell_refusal-in-TooManyChanges g c).In_ok-settle w m gone settled.TooManyChanges c.in-TooManyChanges.is in
    moves_many (IsStores g.S.Store.stands) (parts_of c.args.self.now) w m (entry_of c.args.entry.now) c.args.rows.items c.args.reply gone _ _ c.args.told.now.items _ c.args.made.now c.settle.new.made refl auto refl (parts_of c.settle.new.self)
    x (c.in_ok-leave-in-TooManyChanges.ensures w (kept_after w m (entry_of c.args.entry.now)) x.fits) c.in_ok-tell_refusal-in-TooManyChanges.ensures

pub returns-in_ok-tell_refusal-in-LogFull : goal.returns-in_ok-tell_refusal-in-LogFull
returns-in_ok-tell_refusal-in-LogFull g c = λ w m gone auto.
    let x = how g (goal.at.returns-in_ok-tell_refusal-in-LogFull g c).In_ok-settle w m gone settled.LogFull c.in-LogFull.is in
    moves_full (IsStores g.S.Store.stands) (parts_of c.args.self.now) w m (entry_of c.args.entry.now) c.args.rows.items c.args.reply gone _ _ c.args.told.now.items _ c.args.made.now c.settle.new.made refl auto refl (parts_of c.settle.new.self)
    x (c.in_ok-leave-in-LogFull.ensures w (kept_after w m (entry_of c.args.entry.now)) x.fits) c.in_ok-tell_refusal-in-LogFull.ensures
