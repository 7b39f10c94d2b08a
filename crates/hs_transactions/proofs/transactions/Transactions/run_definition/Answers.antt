use Rattle.std.proofs.Common.{◌≡◌, ◌∙◌, refl, sym, ap}
use Rattle.std.specs.Prelude.{Some, None}
use Rattle.std.proofs.lemmas.Result.{IfOk-weaker}
use Rattle.hs_controls.specs.Sights.{IsRead, refusal_at}
use Rattle.hs_controls.proofs.Seeing.{definition_by_refusal, definition_refused}
use Rattle.hs_holding.specs.declared.seat.Own.{Own}
use Rattle.hs_moves.specs.Fits.{IsHere, changes_of, kept_of}
use Rattle.hs_moves.specs.Moves.{Moves}
use Rattle.hs_moves.specs.Parts.{Parts}
use Rattle.hs_plan.specs.declared.change.Change.{Change}
use Rattle.hs_queue.specs.Entries.{entry_of}
use Rattle.hs_seams.specs.Stores.{seen}
use Rattle.hs_seams.specs.World.{World}
use Rattle.hs_sides.specs.Sides.{side_of}
use Rattle.std.proofs.Common.{List}
use Rattle.hs_turns.specs.Machine.{Machine}
use Rattle.hs_snapshots.specs.Places.{commits_at}
use Rattle.hs_snapshots.specs.Stores.{IsStores}
use Rattle.hs_snapshots.specs.declared.stores.Stores.{Stores}
use Rattle.hs_tied.specs.Kept.{set_in}
use Rattle.hs_transactions.specs.Parts.{parts_of}
use Rattle.hs_transactions.specs.Standing.{IsAt}
use Rattle.hs_transactions.proofs.Calling.{at_fits, at_texts}
use Rattle.hs_transactions.proofs.Seats.{here_same}
use Rattle.hs_transactions.proofs.transactions.Transactions.run_definition.Goals as goal
use Rattle.hs_transactions.proofs.transactions.Transactions.run_definition.Goals.{In_ok-seat, In_ok-why}

abbrev old : (g : _) (c : In_ok-seat g) → Parts (Stores g.row.S.Denot)
old g c = parts_of c.args.self.now

abbrev mid : (g : _) (c : In_ok-seat g) → Parts (Stores g.row.S.Denot)
mid g c = parts_of c.seat.new.self

at_mid : (g : _) (c : In_ok-seat g) (w : World) (m : Machine) → IsAt (IsStores g.S.Store.stands) (old g c) w m → IsAt (IsStores g.S.Store.stands) (mid g c) w m
at_mid g c w m at = at_fits (IsStores g.S.Store.stands) (old g c) (mid g c) w m at (c.in_ok-seat.ensures.fits w (kept_of (side_of m)) at.stands.fits)

here_mid : (g : _) (c : In_ok-seat g) → IsHere (mid g c) c.args.entry.now.session.0
here_mid g c = here_same (old g c) (mid g c) c.args.entry.now.session.0 c.in_ok-seat.ensures.holding c.requires.here

-- its statements read there
is_read : (g : _) (c : In_ok-seat g) (w : World) (m : Machine) → IsAt (IsStores g.S.Store.stands) (old g c) w m → IsRead w m (entry_of c.args.entry.now) (commits_at c.seat.new.self.stores.place m.history.commits)
is_read g c w m at = c.in_ok-seat.ensures.placed w (kept_of (side_of m)) at.stands.fits.rests (set_in m.settings c.args.entry.now.session.0).autocommit

-- why it is refused at once, if it is
asked : (g : _) (c : In_ok-why g) (w : World) (m : Machine)
    → refusal_at (parts_of c.seat.new.self) w (commits_at c.seat.new.self.stores.place m.history.commits) (entry_of c.args.entry.now) ≡ w.run.dialect.refusal c.own-own.result.read_only (seen w (commits_at c.seat.new.self.stores.place m.history.commits) (changes_of (parts_of c.seat.new.self) c.seat.new.self.seated.0)) (entry_of c.args.entry.now).text
asked g c w m =
    let t = parts_of c.seat.new.self in
    ap (λ (x : Own). w.run.dialect.refusal x.read_only (seen w (commits_at c.seat.new.self.stores.place m.history.commits) (changes_of t c.args.entry.now.session.0)) (entry_of c.args.entry.now).text) (sym c.own-own.ensures)
    ∙ ap (λ (cs : List Change). w.run.dialect.refusal c.own-own.result.read_only (seen w (commits_at c.seat.new.self.stores.place m.history.commits) cs) (entry_of c.args.entry.now).text) (ap (changes_of t) (sym c.in_ok-seat.ensures.seated))

pub refuse-requires-clause-fits : goal.refuse-requires-clause-fits
refuse-requires-clause-fits g c =
    let x = c.requires.at in
    (x.0, kept_of (side_of x.1), c.in_ok-seat.ensures.fits x.0 (kept_of (side_of x.1)) x.2.stands.fits)

pub bind-requires-clause-at : goal.bind-requires-clause-at
bind-requires-clause-at g c = let x = c.requires.at in (x.0, x.1, at_mid g (goal.at.bind-requires-clause-at g c).In_ok-seat x.0 x.1 x.2)

pub returns-in-None : goal.returns-in-None
returns-in-None g c = λ w m at names asks.
    let before = (goal.at.returns-in-None g c).In_ok-seat in
    let t = parts_of c.seat.new.self in
    let fits = c.in_ok-seat.ensures.fits w (kept_of (side_of m)) at.stands.fits in
    IfOk-weaker c.bind.result _ _
    (λ r h. definition_by_refusal w m (mid g before) (entry_of c.args.entry.now) (here_mid g before) fits.rests (commits_at c.seat.new.self.stores.place m.history.commits) (is_read g before w m at) (λ a. Moves (IsStores g.S.Store.stands) w m a (parts_of c.bind.new.self) r c.args.told.now.items c.bind.new.told.items c.args.made.now c.bind.new.made) c.args.is_first None
    (asked g (goal.at.returns-in-None g c).In_ok-why w m ∙ sym (c.in_ok-why.ensures w m.history.commits (changes_of t t.seated.0) fits.store) ∙ c.in-None.is) h)
    (c.bind.ensures w m (at_mid g before w m at) names asks)

pub returns-in-Some : goal.returns-in-Some
returns-in-Some g c = λ w m at names asks.
    let before = (goal.at.returns-in-Some g c).In_ok-seat in
    let t = parts_of c.seat.new.self in
    let fits = c.in_ok-seat.ensures.fits w (kept_of (side_of m)) at.stands.fits in
    let why : refusal_at (mid g before) w (commits_at c.seat.new.self.stores.place m.history.commits) (entry_of c.args.entry.now) ≡ Some c.as_str.result.now
    = asked g (goal.at.returns-in-Some g c).In_ok-why w m ∙ sym (c.in_ok-why.ensures w m.history.commits (changes_of t t.seated.0) fits.store) ∙ c.in-Some.is ∙ ap Some (sym c.as_str.ensures) in
    IfOk-weaker c.refuse.result _ _
    (λ r h. definition_by_refusal w m (mid g before) (entry_of c.args.entry.now) (here_mid g before) fits.rests (commits_at c.seat.new.self.stores.place m.history.commits) (is_read g before w m at) (λ a. Moves (IsStores g.S.Store.stands) w m a (parts_of c.refuse.new.self) r c.args.told.now.items c.refuse.new.told.items c.args.made.now c.args.made.now) c.args.is_first (Some c.as_str.result.now) why
    (at_texts (IsStores g.S.Store.stands) w m _ (parts_of c.refuse.new.self) r c.args.told.now.items c.refuse.new.told.items c.args.made.now c.args.made.now refl h))
    (c.refuse.ensures w m fits (definition_refused w m (mid g before) (entry_of c.args.entry.now) (here_mid g before) fits.rests (commits_at c.seat.new.self.stores.place m.history.commits) (is_read g before w m at) c.as_str.result.now asks why))
