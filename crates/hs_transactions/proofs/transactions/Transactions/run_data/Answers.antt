use Rattle.std.proofs.Common.{[], refl, sym, subst}
use Rattle.std.specs.Prelude.{IfOk}
use Rattle.hs_schema.specs.Catalogue.{Text}
use Rattle.hs_turns.specs.Attempts.{refused_in_place}
use Rattle.hs_moves.specs.Moves.{Moves}
use Rattle.hs_moves.specs.Refused.{IsRefused}
use Rattle.std.proofs.lemmas.Result.{IfOk-weaker}
use Rattle.hs_moves.specs.Fits.{IsHere, changes_of, kept_of}
use Rattle.hs_moves.specs.Parts.{Parts}
use Rattle.hs_queue.specs.Entries.{entry_of}
use Rattle.hs_seams.specs.World.{World}
use Rattle.hs_sides.specs.Sides.{side_of}
use Rattle.hs_turns.specs.Machine.{Machine}
use Rattle.hs_controls.specs.Sights.{IsRead}
use Rattle.hs_snapshots.specs.Places.{commits_at}
use Rattle.hs_snapshots.specs.Stores.{IsStores}
use Rattle.hs_snapshots.specs.declared.stores.Stores.{Stores}
use Rattle.hs_tied.specs.Kept.{set_in}
use Rattle.hs_transactions.specs.Parts.{parts_of, spans_of}
use Rattle.hs_transactions.specs.Standing.{IsAt}
use Rattle.hs_transactions.proofs.Calling.{at_fits, at_texts}
use Rattle.hs_transactions.proofs.Defining.{seated_valid}
use Rattle.hs_transactions.proofs.Judging.{data_evaluated, refused_attempt, refused_fits, refused_here}
use Rattle.hs_transactions.proofs.Seats.{here_same, live_same}
use Rattle.hs_transactions.proofs.transactions.Transactions.run_data.Goals as goal
use Rattle.hs_transactions.proofs.transactions.Transactions.run_data.Goals.{In_ok-seat}

abbrev old : (g : _) (c : In_ok-seat g) → Parts (Stores g.row.S.Denot)
old g c = parts_of c.args.self.now

abbrev mid : (g : _) (c : In_ok-seat g) → Parts (Stores g.row.S.Denot)
mid g c = parts_of c.seat.new.self

at_mid : (g : _) (c : In_ok-seat g) (w : World) (m : Machine) → IsAt (IsStores g.S.Store.stands) (old g c) w m → IsAt (IsStores g.S.Store.stands) (mid g c) w m
at_mid g c w m at = at_fits (IsStores g.S.Store.stands) (old g c) (mid g c) w m at (c.in_ok-seat.ensures.fits w (kept_of (side_of m)) at.stands.fits)

here_mid : (g : _) (c : In_ok-seat g) → IsHere (mid g c) c.args.entry.now.session.0
here_mid g c = here_same (old g c) (mid g c) c.args.entry.now.session.0 c.in_ok-seat.ensures.holding c.requires.here

-- its statements read there
is_read : (g : _) (c : In_ok-seat g) (w : World) (m : Machine) → IsAt (IsStores g.S.Store.stands) (old g c) w m → IsRead w m (entry_of c.args.entry.now) (commits_at c.seat.new.self.stores.place m.history.commits)
is_read g c w m at = c.in_ok-seat.ensures.placed w (kept_of (side_of m)) at.stands.fits.rests (set_in m.settings c.args.entry.now.session.0).autocommit

pub evaluate-requires-clause-ready : goal.evaluate-requires-clause-ready
evaluate-requires-clause-ready g c =
    let before = (goal.at.evaluate-requires-clause-ready g c).In_ok-seat in
    let x = c.requires.at in
    let at = at_mid g before x.0 x.1 x.2.0 in
    (x.0, x.1.history.commits, changes_of (mid g before) c.seat.new.self.seated.0, (at.stands.fits.store, seated_valid (IsStores g.S.Store.stands) (mid g before) x.0 x.1 at (entry_of c.args.entry.now) (here_mid g before) c.in_ok-seat.ensures.seated (commits_at c.seat.new.self.stores.place x.1.history.commits) (is_read g before x.0 x.1 x.2.0)))

pub refuse-requires-clause-fits : goal.refuse-requires-clause-fits
refuse-requires-clause-fits g c =
    let before = (goal.at.refuse-requires-clause-fits g c).In_ok-seat in
    let x = c.requires.at in (
      x.0,
      kept_of (side_of x.1),
      refused_fits (IsStores g.S.Store.stands) (mid g before) (parts_of (record c.seat.new.self { stores = c.evaluate.new.self })) x.0 x.1 (entry_of c.args.entry.now) c.own-own.result (at_mid g before x.0 x.1 x.2.0) (here_mid g before) c.in_ok-seat.ensures.seated c.own-own.ensures x.2.1 c.seat.new.self.stores.place (is_read g before x.0 x.1 x.2.0) refl refl refl (live_same (spans_of c.seat.new.self) _ c.in_ok-outcome.ensures.starts) _
          (c.in_ok-outcome.ensures.evaluates x.0 x.1.history.commits (changes_of (mid g before) c.seat.new.self.seated.0)) c.in-Err.why c.in-Err.is,
    )

pub judge-requires-clause-at : goal.judge-requires-clause-at
judge-requires-clause-at g c =
    let before = (goal.at.judge-requires-clause-at g c).In_ok-seat in
    let x = c.requires.at in (
      x.0,
      x.1,
      data_evaluated (IsStores g.S.Store.stands) (mid g before) (parts_of (record c.seat.new.self { stores = c.evaluate.new.self })) x.0 x.1 (entry_of c.args.entry.now) c.own-own.result
          (at_mid g before x.0 x.1 x.2.0) (here_mid g before) c.in_ok-seat.ensures.seated c.own-own.ensures x.2.1 c.seat.new.self.stores.place (is_read g before x.0 x.1 x.2.0) refl refl refl (live_same (spans_of c.seat.new.self) _ c.in_ok-outcome.ensures.starts) _ (c.in_ok-outcome.ensures.evaluates x.0 x.1.history.commits (changes_of (mid g before) c.seat.new.self.seated.0)) c.in-Ok.outcome c.in-Ok.is,
    )

pub returns-in-Ok : goal.returns-in-Ok
returns-in-Ok g c = λ w m at names asks.
    let before = (goal.at.returns-in-Ok g c).In_ok-seat in
    c.judge.ensures w m (data_evaluated (IsStores g.S.Store.stands) (mid g before) (parts_of (record c.seat.new.self { stores = c.evaluate.new.self })) w m (entry_of c.args.entry.now) c.own-own.result
    (at_mid g before w m at) (here_mid g before) c.in_ok-seat.ensures.seated c.own-own.ensures asks c.seat.new.self.stores.place (is_read g before w m at) refl refl refl (live_same (spans_of c.seat.new.self) _ c.in_ok-outcome.ensures.starts) _ (c.in_ok-outcome.ensures.evaluates w m.history.commits (changes_of (mid g before) c.seat.new.self.seated.0)) c.in-Ok.outcome c.in-Ok.is) names

pub returns-in-Err : goal.returns-in-Err
returns-in-Err g c = λ w m at names asks.
    let before = (goal.at.returns-in-Err g c).In_ok-seat in
    let new = parts_of (record c.seat.new.self { stores = c.evaluate.new.self }) in
    let found = c.in_ok-outcome.ensures.evaluates w m.history.commits (changes_of (mid g before) c.seat.new.self.seated.0) in
    IfOk-weaker c.refuse.result _ _
    (λ r h. refused_attempt (IsStores g.S.Store.stands) (mid g before) new w m (entry_of c.args.entry.now) c.own-own.result (at_mid g before w m at) (here_mid g before) c.in_ok-seat.ensures.seated c.own-own.ensures asks c.seat.new.self.stores.place (is_read g before w m at) refl refl refl (live_same (spans_of c.seat.new.self) _ c.in_ok-outcome.ensures.starts) _ found c.in-Err.why c.in-Err.is
    (λ a. Moves (IsStores g.S.Store.stands) w m a (parts_of c.refuse.new.self) r c.args.told.now.items c.refuse.new.told.items c.args.made.now c.args.made.now)
    (at_texts (IsStores g.S.Store.stands) w m _ (parts_of c.refuse.new.self) r c.args.told.now.items c.refuse.new.told.items c.args.made.now c.args.made.now refl h))
    (subst (λ (why : Text). IfOk c.refuse.result (λ r. Moves (IsStores g.S.Store.stands) w m (refused_in_place w.run.dialect w.run.opening w.run.made (entry_of c.args.entry.now) why m) (parts_of c.refuse.new.self) r c.args.told.now.items c.refuse.new.told.items [] [])) c.as_str.ensures
    (c.refuse.ensures w m (refused_fits (IsStores g.S.Store.stands) (mid g before) new w m (entry_of c.args.entry.now) c.own-own.result (at_mid g before w m at) (here_mid g before) c.in_ok-seat.ensures.seated c.own-own.ensures asks c.seat.new.self.stores.place (is_read g before w m at) refl refl refl (live_same (spans_of c.seat.new.self) _ c.in_ok-outcome.ensures.starts) _ found c.in-Err.why c.in-Err.is)
    (subst (λ (why : Text). IsRefused w m (entry_of c.args.entry.now) why) (sym c.as_str.ensures) (refused_here (IsStores g.S.Store.stands) (mid g before) new w m (entry_of c.args.entry.now) c.own-own.result (at_mid g before w m at) (here_mid g before) c.in_ok-seat.ensures.seated c.own-own.ensures asks c.seat.new.self.stores.place (is_read g before w m at) refl refl refl (live_same (spans_of c.seat.new.self) _ c.in_ok-outcome.ensures.starts) _ found c.in-Err.why c.in-Err.is))))
