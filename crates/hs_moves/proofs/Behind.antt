-- What a side comes to behind a call.
use Rattle.std.proofs.Common.{◌≡◌, ℕ, Bool, true, List, length, refl, sym, ap, ◌∙◌, subst, arith}
use Rattle.hs_schema.specs.Catalogue.{Text}
use Rattle.hs_seams.specs.World.{World}
use Rattle.hs_sides.specs.Sides.{Side, alone, attempted}
use Rattle.hs_sides.proofs.Alone.{its_own}
use Rattle.hs_turns.specs.Attempts.{Attempt}
use Rattle.hs_turns.specs.Machine.{Machine}
use Rattle.hs_turns.specs.Waiting.{Entry, ascending, is_among}
use Rattle.hs_turns.proofs.Opened.{has}
use Rattle.hs_turns.proofs.Ranks.{Ranked}
use Rattle.hs_turns.proofs.Sane.{Here, Sane, attempt_goes}
use Rattle.hs_holding.specs.Held.{IsNumber}
use Rattle.hs_holding.specs.declared.holding.Holding.{Holding}
use Rattle.hs_tied.specs.Holds.{Holds}
use Rattle.hs_tied.specs.Waiting.{Ways}
use Rattle.hs_tied.proofs.Blocking.{number_of}
use Rattle.hs_tied.proofs.Numbers.{among, among_is}
use Rattle.hs_moves.specs.Fits.{kept_of}

module _ (names : List Text) (side : Side) (named : length side.settings ≡ length names) where
  known : (a : ℕ) → IsNumber (length side.settings) a → IsNumber (length names) a
  known a n = subst (λ (k : ℕ). IsNumber k a) named n

  pub here : (a : ℕ) → IsNumber (length side.settings) a → Here (alone names side) a
  here a n = let k = known a n in record { known = among a (length names) 1 k.0 (omega (arith, k.1)); unclosed = refl }

  -- waits and open transactions are as runs have them
  pub sane : (h : Holding) → Holds h (kept_of side) → Ways (length side.settings) side.waits → ((a b : ℕ) → side.waits a b ≡ true → has b side.history.open_ ≡ true) → Sane (alone names side)
  sane h holds ways open_waits = record {
    open_waits = open_waits;
    from = λ a b e. (here a (ways.from a b e)).known;
    here = λ b e. here b (number_of h (kept_of side) holds b e);
    ranked = subst (λ (n : ℕ). Ranked n side.waits) named ways.ranked;
  }

-- so they are behind it
pub ways_of : (m : Machine) (n : ℕ) → length m.names ≡ n → Sane m → Ways n m.waits
ways_of m n same s = record {
  from = λ a b e. numbered a (s.from a b e);
  to = λ a b e. numbered b (s.here b (s.open_waits a b e)).known;
  ranked = subst (λ (k : ℕ). Ranked k m.waits) same s.ranked;
}
  where
    numbered : (a : ℕ) → is_among a (ascending 1 (length m.names)) ≡ true → IsNumber n a
    numbered a k = let at = among_is a (length m.names) 1 k in (at.0, omega (arith, at.1, same))

-- behind an attempt of an entry
module _ (w : World) (names : List Text) (side : Side) (named : length side.settings ≡ length names) (h : Holding) (holds : Holds h (kept_of side)) (ways : Ways (length side.settings) side.waits)
    (open_waits : (a b : ℕ) → side.waits a b ≡ true → has b side.history.open_ ≡ true) (is_first : Bool) (entry : Entry) (number : IsNumber (length side.settings) entry.session) where
  pub sane_behind : Sane (attempted w.run names is_first entry side).next
  sane_behind = (attempt_goes w.run.dialect w.run.opening w.run.made is_first entry (alone names side) (sane names side named h holds ways open_waits) (here names side named entry.session number)).next.sane

  pub ways_behind : Ways (length side.settings) (attempted w.run names is_first entry side).next.waits
  ways_behind = ways_of (attempted w.run names is_first entry side).next (length side.settings) (ap (λ (a : Attempt). length a.next.names) (its_own w.run is_first entry (alone names side)) ∙ sym named) sane_behind
