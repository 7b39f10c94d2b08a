-- Closed sessions, answered waiters, and attempts on machines of their own.
use Rattle.std.proofs.Common.{◌≡◌, ℕ, ◌==◌, ◌||◌, not, Bool, true, false, List, ◌++◌, length, refl, sym, ap, ◌∙◌, subst}
use Rattle.std.specs.Prelude.{if◌then◌else◌}
use Rattle.std.proofs.lemmas.Bool.{and_parts, not-true}
use Rattle.hs_claims.specs.Session.{IsSession}
use Rattle.hs_plan.specs.declared.change.Change.{Change}
use Rattle.hs_turns.specs.Histories.{Commit, Open, others}
use Rattle.hs_lines.specs.declared.words.Words.{Words as Said}
use Rattle.hs_schema.specs.Catalogue.{Text}
use Rattle.hs_seams.specs.declared.attempted.Attempted.{Attempted}
use Rattle.hs_seams.specs.Calls.{IsAttempted, MakesTexts, behind}
use Rattle.hs_seams.specs.World.{World, texts_since}
use Rattle.hs_sides.specs.Sides.{Side, alone, answered_by, attempted, behind_close, side_of}
use Rattle.hs_turns.specs.Attempts.{left_own}
use Rattle.hs_turns.specs.Machine.{is_open}
use Rattle.hs_turns.specs.Waiting.{Entry, Waits, answered, freed}
use Rattle.hs_turns.proofs.Opened.{found_is, has, has_others}
use Rattle.hs_holding.specs.Held.{is_open_at}
use Rattle.hs_tied.specs.Waiting.{Ways}
use Rattle.hs_tied.proofs.Waiting.{freed_ways}
use Rattle.hs_moves.specs.Fits.{Fits, Rests, kept_of}
use Rattle.hs_moves.specs.Moves.{Moves}
use Rattle.hs_moves.specs.Parts.{Parts}
use Rattle.hs_moves.proofs.Texts.{makes_since}

-- waits for open transactions alone
abbrev Awaits : Waits → List Open → Type 0
Awaits waits open_ = (a b : ℕ) → waits a b ≡ true → has b open_ ≡ true

-- ---- a session is closed

pub opens_alone : {S : Type 0} (w : World) (names : List Text) (side : Side) (old : Parts S) (s : ℕ) → Rests old w (kept_of side) → IsSession s → is_open_at old.holding s ≡ is_open (alone names side) s
opens_alone w names side old s rests at = sym (found_is s side.history.open_ ∙ rests.holds.known s at)

module _ (w : World) (names : List Text) (side : Side) (s : ℕ) where
  abbrev Closed : Bool → Side
  Closed b = if b then side_of (left_own w.run.dialect w.run.opening w.run.made s (alone names side)) else side

  freed_for : Awaits side.waits side.history.open_ → Awaits (freed s side.waits) (others s side.history.open_)
  freed_for open_waits a b e =
      let parts = and_parts (not (b == s)) (side.waits a b) e in
      has_others b s (not-true (b == s) parts.0) side.history.open_ ∙ open_waits a b parts.1

  pub closed_ways : Ways (length side.settings) side.waits → Ways (length (behind_close w.run names s side).settings) (behind_close w.run names s side).waits
  closed_ways ways = by (is_open (alone names side) s)
    where
      by : (b : Bool) → Ways (length (Closed b).settings) (Closed b).waits
      by true = freed_ways (length side.settings) s side.waits ways
      by false = ways

  pub closed_for : Awaits side.waits side.history.open_ → Awaits (behind_close w.run names s side).waits (behind_close w.run names s side).history.open_
  closed_for open_waits = by (is_open (alone names side) s)
    where
      by : (b : Bool) → Awaits (Closed b).waits (Closed b).history.open_
      by true = freed_for open_waits
      by false = open_waits

  module _ {S : Type 0} (At : S → World → List Commit → List Change → Type 0) (new : Parts S) where
    pub closed_fits : (b : Bool) → is_open (alone names side) s ≡ b → Fits At new w (kept_of (Closed b)) → Fits At new w (kept_of (behind_close w.run names s side))
    closed_fits b e fits = subst (λ (x : Bool). Fits At new w (kept_of (Closed x))) (sym e) fits

-- ---- a waiter is answered

answered_ways : (n s : ℕ) (waits : Waits) → Ways n waits → Ways n (answered s waits)
answered_ways n s waits ways = record {
  from = λ a b e. ways.from a b (and_parts (not (a == s)) (waits a b) e).1;
  to = λ a b e. ways.to a b (and_parts (not (a == s)) (waits a b) e).1;
  ranked = record {
    rank = ways.ranked.rank;
    rises = λ a b e. ways.ranked.rises a b (and_parts (not (a == s)) (waits a b) e).1;
    below = λ a b e. ways.ranked.below a b (and_parts (not (a == s)) (waits a b) e).1;
  };
}

pub behind_ways : (is_first final : Bool) (s n : ℕ) (side : Side) → Ways n side.waits → Ways n (answered_by is_first final s side).waits
behind_ways true final s n side ways = ways
behind_ways false true s n side ways = answered_ways n s side.waits ways
behind_ways false false s n side ways = ways

pub behind_for : (is_first final : Bool) (s : ℕ) (side : Side) → Awaits side.waits side.history.open_ → Awaits (answered_by is_first final s side).waits (answered_by is_first final s side).history.open_
behind_for true final s side open_waits = open_waits
behind_for false true s side open_waits = λ a b e. open_waits a b (and_parts (not (a == s)) (side.waits a b) e).1
behind_for false false s side open_waits = open_waits

pub unanswered_fits : {S : Type 0} (At : S → World → List Commit → List Change → Type 0) (w : World) (new : Parts S) (is_first : Bool) (s : ℕ) (side : Side) → Fits At new w (kept_of side) → Fits At new w (kept_of (answered_by is_first false s side))
unanswered_fits At w new true s side fits = fits
unanswered_fits At w new false s side fits = fits

same_commits : (is_first final : Bool) (s : ℕ) (side : Side) → (answered_by is_first final s side).history.commits ≡ side.history.commits
same_commits true final s side = refl
same_commits false true s side = refl
same_commits false false s side = refl

-- ---- an attempt

or_false : (b : Bool) → (b || false) ≡ b
or_false true = refl
or_false false = refl

module _ {S : Type 0} (At : S → World → List Commit → List Change → Type 0) (w : World) (names : List Text) (side : Side) (new : Parts S) (r : Attempted) (old told : List Said) (old_made made : List (List ℕ)) (is_first : Bool) (entry : Entry)
    (moves : Moves At w (alone names side) (attempted w.run names is_first entry side) new r old told old_made made) where
  pub is_attempted : IsAttempted w names is_first entry side r old told
  is_attempted = record { told = moves.words; final = moves.final; ended = sym (moves.ended ∙ or_false r.has_ended) }

  pub makes_texts : MakesTexts w side (behind w names is_first entry side) old_made made
  makes_texts =
      let a = attempted w.run names is_first entry side in
      makes_since w side.history.commits a.next.history.commits old_made made moves.makes
      ∙ ap (λ (c : List Commit). old_made ++ texts_since w side.history.commits c) (sym (same_commits is_first a.final entry.session (side_of a.next)))
