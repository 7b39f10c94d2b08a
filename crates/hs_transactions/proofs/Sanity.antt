-- What an engine stands for behind its calls.
use Rattle.std.proofs.Common.{◌≡◌, ℕ, ◌≤◌, ◌==◌, not, Bool, true, false, List, [], ◌∷◌, length, refl, sym, ap, ◌∙◌, subst, arith}
use Rattle.std.specs.Prelude.{◌-◌, slice_index_or, if◌then◌else◌}
use Rattle.std.proofs.lemmas.Bool.{and_parts, not-true}
use Rattle.hs_claims.specs.Held.{held_by}
use Rattle.hs_turns.specs.Database.{Database}
use Rattle.hs_turns.specs.Events.{Event, begun, reached, step}
use Rattle.hs_turns.specs.Histories.{Commit, others}
use Rattle.hs_holding.specs.declared.holding.Holding.{Holding}
use Rattle.hs_holding.specs.declared.seat.Seat.{Seat}
use Rattle.hs_holding.specs.Held.{IsNumber, graph, seat_of}
use Rattle.hs_holding.specs.Seats.{is_open_seat, nobody_seat}
use Rattle.hs_plan.specs.declared.change.Change.{Change}
use Rattle.hs_schema.specs.Catalogue.{Text}
use Rattle.hs_seams.specs.Stores.{IsWorld}
use Rattle.hs_seams.specs.World.{World}
use Rattle.hs_sides.specs.Sides.{Side, alone, answered_by, attempted, behind_close, side_of, with_new}
use Rattle.hs_tied.specs.Holds.{Holds}
use Rattle.hs_tied.specs.Waiting.{Ways}
use Rattle.hs_tied.proofs.Waiting.{freed_ways}
use Rattle.hs_turns.specs.Attempts.{commits_event, left_own}
use Rattle.hs_turns.specs.Dialect.{Dialect, language_of}
use Rattle.hs_turns.specs.Laws.{IsHistory}
use Rattle.hs_turns.specs.Machine.{Machine, happens, is_open}
use Rattle.hs_turns.specs.Waiting.{Entry, nobody}
use Rattle.hs_turns.proofs.Follows.{attempts as follows, leaves as leaves_follow}
use Rattle.hs_turns.proofs.Opened.{has, has_others}
use Rattle.hs_futures.proofs.Grows.{attempts as grows}
use Rattle.hs_moves.specs.Fits.{kept_of}
use Rattle.hs_moves.specs.Parts.{Parts}
use Rattle.hs_moves.proofs.Behind.{sane_behind, ways_behind}
use Rattle.hs_moves.proofs.Spanned.{spanned_defined}
use Rattle.hs_controls.specs.Sights.{behind_own}
use Rattle.hs_controls.proofs.Admitting.{new_ways}
use Rattle.hs_controls.proofs.Sides.{behind_for, behind_ways, closed_for, closed_ways}
use Rattle.hs_transactions.specs.Standing.{IsSane, Stands, begun_side}

-- ---- behind an attempt

module _ (w : World) (names : List Text) (side : Side) (h : Holding) (holds : Holds h (kept_of side)) (named : length side.settings ≡ length names) (sane : IsSane w side) (is_first : Bool) (entry : Entry) (number : IsNumber (length side.settings) entry.session) where
  pub same_settings : length (attempted w.run names is_first entry side).next.settings ≡ length side.settings
  same_settings = (grows w.run.dialect w.run.opening w.run.made is_first entry (alone names side)).settings

  pub sane_next : IsSane w (side_of (attempted w.run names is_first entry side).next)
  sane_next = record {
    history = (follows w.run.dialect w.run.opening w.run.made is_first entry (alone names side)).history sane.history;
    ways = subst (λ (n : ℕ). Ways n (attempted w.run names is_first entry side).next.waits) (sym same_settings) (ways_behind w names side named h holds sane.ways sane.open_waits is_first entry number);
    open_waits = (sane_behind w names side named h holds sane.ways sane.open_waits is_first entry number).open_waits;
  }

pub sane_answered : (w : World) (is_first final : Bool) (s : ℕ) (side : Side) → IsSane w side → IsSane w (answered_by is_first final s side)
sane_answered w true final s side sane = sane
sane_answered w false true s side sane = record { history = sane.history; ways = behind_ways false true s (length side.settings) side sane.ways; open_waits = behind_for false true s side sane.open_waits }
sane_answered w false false s side sane = sane

-- ---- behind the end of a session's own transaction

happened : (d : Dialect) (opening : Database) (e : Event) (m : Machine) → IsHistory d opening m.history → IsHistory d opening (happens d opening e m).history
unfolding reached
happened d opening e m r = (e ∷ r.0, ap (step (language_of d) opening e) r.1)

pub sane_own : (w : World) (m : Machine) (s : ℕ) → (behind_own w m s).history.open_ ≡ others s m.history.open_ → IsSane w (side_of m) → IsSane w (side_of (behind_own w m s))
sane_own w m s open_is sane = record {
  history = happened w.run.dialect w.run.opening (commits_event w.run.dialect w.run.opening w.run.made m s) m sane.history;
  ways = freed_ways (length m.settings) s m.waits sane.ways;
  open_waits = λ a b e. let parts = and_parts (not (b == s)) (m.waits a b) e in ap (has b) open_is ∙ has_others b s (not-true (b == s) parts.0) m.history.open_ ∙ sane.open_waits a b parts.1;
}

-- ---- a session is closed, and one more

pub sane_closed : (w : World) (names : List Text) (s : ℕ) (side : Side) → IsSane w side → IsSane w (behind_close w.run names s side)
sane_closed w names s side sane = record { history = by (is_open (alone names side) s); ways = closed_ways w names side s sane.ways; open_waits = closed_for w names side s sane.open_waits }
  where
    by : (b : Bool) → IsHistory w.run.dialect w.run.opening (if b then side_of (left_own w.run.dialect w.run.opening w.run.made s (alone names side)) else side).history
    by true = (leaves_follow w.run.dialect w.run.opening w.run.made s (alone names side)).history sane.history
    by false = sane.history

pub sane_new : (w : World) (side : Side) → IsSane w side → IsSane w (with_new w.run side)
sane_new w side sane = record { history = sane.history; ways = new_ways w side sane.ways; open_waits = sane.open_waits }

-- ---- before any session

none_ranked : (n : ℕ) → Ways n nobody
none_ranked n = record {
  from = λ a b e. absurd (none e);
  to = λ a b e. absurd (none e);
  ranked = record { rank = λ a. 0; rises = λ a b e. absurd (none e); below = λ a b e. absurd (none e) };
}
  where
    none : false ≡ true → ⊥
    none e = cc

begun_history : (d : Dialect) (opening : Database) → IsHistory d opening (begun opening)
unfolding reached
begun_history d opening = ([], refl)

begun_sane : (w : World) → IsSane w (begun_side w)
begun_sane w = record { history = begun_history w.run.dialect w.run.opening; ways = none_ranked 0; open_waits = λ a b e. absurd (let none : false ≡ true = e in cc) }

empty_seat : (h : Holding) → h.seats.items ≡ [] → (b : ℕ) → seat_of h b ≡ nobody_seat
empty_seat h none b = ap (λ (xs : List Seat). slice_index_or xs (b - 1) nobody_seat) none

begun_holds : (w : World) (h : Holding) → IsWorld w → h.seats.items ≡ [] → ((s : ℕ) → held_by h.claims s ≡ []) → ((a b : ℕ) → graph h a b ≡ false) → Holds h (kept_of (begun_side w))
begun_holds w h world seats claims waits = record {
  len = ap length seats;
  most = omega arith;
  settings = λ b n. absurd (omega (arith, n.0, n.1));
  open_ = tt;
  known = λ b n. ap is_open_seat (sym (empty_seat h seats b));
  idle = λ b n none. record {
    changes = ap (λ (x : Seat). x.session.changes) (empty_seat h seats b);
    savepoints = ap (λ (x : Seat). x.session.savepoints) (empty_seat h seats b);
    claims_none = claims b;
  };
  waits = λ a b p q. sym (waits a b);
}

pub begun_stands : {S : Type 0} (At : S → World → List Commit → List Change → Type 0) (t : Parts S) (w : World) → IsWorld w → t.holding.seats.items ≡ [] → ((s : ℕ) → held_by t.holding.claims s ≡ []) → ((a b : ℕ) → graph t.holding a b ≡ false)
    → t.seated.0 ≡ 1 → t.commits ≡ w.run.made → t.spans.kind ≡ w.run.opening.control → t.spans.made ≡ w.run.made → t.spans.count ≡ 0 → t.spans.first ≡ 0 → t.spans.claims ≡ [] → w.run.made ≤ w.run.opening.count → At t.store w [] [] → Stands At t w (begun_side w)
begun_stands At t w world seats claims waits seated commits kind made count first none few at = record {
  world = world;
  fits = record {
    store = subst (λ (cs : List Change). At t.store w [] cs) (sym (ap (λ (x : Seat). x.session.changes) (empty_seat t.holding seats t.seated.0))) at;
    rests = record {
      holds = begun_holds w t.holding world seats claims waits;
      seat = (omega (arith, seated), omega (arith, seated));
      count = omega (arith, commits);
      few = omega (arith, few);
      spanned = spanned_defined t.spans w.run.made w.run.opening.control [] [] refl kind made count first none;
    };
  };
  sane = begun_sane w;
}
