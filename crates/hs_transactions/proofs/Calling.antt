-- What the calls of an engine come to.
use Rattle.std.proofs.Common.{◌≡◌, ℕ, Bool, true, false, List, [], ◌++◌, length, sym, ap, ◌∙◌, subst}
use Rattle.hs_turns.specs.Histories.{Commit}
use Rattle.hs_holding.specs.Held.{IsNumber}
use Rattle.hs_lines.specs.Names.{IsKnown}
use Rattle.hs_lines.specs.declared.words.Words.{Words as Said}
use Rattle.hs_plan.specs.declared.change.Change.{Change}
use Rattle.hs_schema.specs.Catalogue.{Text}
use Rattle.hs_seams.specs.Calls.{AreNamed, MakesTexts, behind}
use Rattle.hs_seams.specs.declared.attempted.Attempted.{Attempted}
use Rattle.hs_seams.specs.World.{World}
use Rattle.hs_sides.specs.Sides.{Side, alone, answered_by, attempted, side_of}
use Rattle.hs_turns.specs.Attempts.{Attempt, attempt, attempt_by}
use Rattle.hs_turns.specs.Dialect.{Request}
use Rattle.hs_turns.specs.Machine.{Machine}
use Rattle.hs_turns.specs.Waiting.{Entry}
use Rattle.hs_moves.specs.Fits.{Fits, IsHere, changes_of, kept_of}
use Rattle.hs_moves.specs.Moves.{Moves}
use Rattle.hs_moves.specs.Parts.{Parts}
use Rattle.hs_moves.proofs.Texts.{makes_at}
use Rattle.hs_controls.specs.Called.{IsAnswered}
use Rattle.hs_controls.proofs.Sides.{makes_texts, unanswered_fits}
use Rattle.hs_controls.proofs.Waiting.{fits_answered}
use Rattle.hs_transactions.specs.Standing.{IsAt, Stands}
use Rattle.hs_transactions.proofs.Sanity.{same_settings, sane_answered, sane_next}
use Rattle.hs_transactions.proofs.Seats.{here_of}

-- what makes no texts makes none behind others
pub at_texts : {S : Type 0} (At : S → World → List Commit → List Change → Type 0) (w : World) (m : Machine) (a : Attempt) (new : Parts S) (r : Attempted) (told told' : List Said) (made made' : List (List ℕ)) → made' ≡ made → Moves At w m a new r told told' [] [] → Moves At w m a new r told told' made made'
at_texts At w m a new r told told' made made' same h = subst (λ (x : List (List ℕ)). Moves At w m a new r told told' made x) (sym same)
    (record { fits = h.fits; words = h.words; final = h.final; ended = h.ended; makes = makes_at w m.history.commits a.next.history.commits made h.makes })

-- what is asked for is attempted
pub by_request : {S : Type 0} (At : S → World → List Commit → List Change → Type 0) (w : World) (m : Machine) (new : Parts S) (r : Attempted) (told told' : List Said) (made made' : List (List ℕ)) (is_first : Bool) (entry : Entry) (q : Request) → q ≡ w.run.dialect.request entry.text
    → Moves At w m (attempt_by w.run.dialect w.run.opening w.run.made q is_first entry m) new r told told' made made' → Moves At w m (attempt w.run.dialect w.run.opening w.run.made is_first entry m) new r told told' made made'
by_request At w m new r told told' made made' is_first entry q e h = subst (λ (x : Request). Moves At w m (attempt_by w.run.dialect w.run.opening w.run.made x is_first entry m) new r told told' made made') e h

-- an engine still stands for a machine
pub at_fits : {S : Type 0} (At : S → World → List Commit → List Change → Type 0) (old new : Parts S) (w : World) (m : Machine) → IsAt At old w m → Fits At new w (kept_of (side_of m)) → IsAt At new w m
at_fits At old new w m at fits = record { stands = record { world = at.stands.world; fits = fits; sane = at.stands.sane }; named = at.named }

module _ {S : Type 0} (At : S → World → List Commit → List Change → Type 0) (old : Parts S) (w : World) (names : List Text) (side : Side) (stands : Stands At old w side) (named : AreNamed names side) where
  pub at_alone : IsAt At old w (alone names side)
  at_alone = record { stands = record { world = stands.world; fits = stands.fits; sane = stands.sane }; named = named }

  pub here_known : (s : ℕ) → IsKnown names s → IsHere old s
  here_known s known = here_of old w (kept_of side) s stands.fits.rests (subst (λ (n : ℕ). IsNumber n s) (sym named) known)

  module _ (is_first : Bool) (entry : Entry) (known : IsKnown names entry.session) where
    number : IsNumber (length side.settings) entry.session
    number = subst (λ (n : ℕ). IsNumber n entry.session) (sym named) known

    abbrev next : Side
    next = side_of (attempted w.run names is_first entry side).next

    pub number_next : IsNumber (length next.settings) entry.session
    number_next = subst (λ (n : ℕ). IsNumber n entry.session) (sym (same_settings w names side old.holding stands.fits.rests.holds named stands.sane is_first entry number)) number

    module _ (mid : Parts S) (r : Attempted) (told told' : List Said) (texts : List (List ℕ)) (moves : Moves At w (alone names side) (attempted w.run names is_first entry side) mid r told told' [] texts) where
      pub stands_behind : (new : Parts S) → Fits At new w (kept_of (answered_by is_first r.is_final entry.session next)) → Stands At new w (behind w names is_first entry side)
      stands_behind new fits = subst (λ (b : Bool). Stands At new w (answered_by is_first b entry.session next)) moves.final (record {
        world = stands.world;
        fits = fits;
        sane = sane_answered w is_first r.is_final entry.session next (sane_next w names side old.holding stands.fits.rests.holds named stands.sane is_first entry number);
      })

      pub texts_behind : (made made' : List (List ℕ)) → made' ≡ made ++ texts → MakesTexts w side (behind w names is_first entry side) made made'
      texts_behind made made' is = is ∙ ap (λ (l : List (List ℕ)). made ++ l) (makes_texts At w names side mid r told told' [] texts is_first entry moves)

-- ---- waiters

module _ {S : Type 0} (At : S → World → List Commit → List Change → Type 0) (t : Parts S) (w : World) (is_first final : Bool) (s : ℕ) (side : Side) where
  -- it is answered at its first attempt
  pub waits_first : is_first ≡ true → Fits At t w (kept_of side) → Fits At t w (kept_of (answered_by is_first final s side))
  waits_first is fits = subst (λ (b : Bool). Fits At t w (kept_of (answered_by b final s side))) (sym is) fits

  -- it waits on
  pub waits_on : final ≡ false → Fits At t w (kept_of side) → Fits At t w (kept_of (answered_by is_first final s side))
  waits_on is fits = subst (λ (b : Bool). Fits At t w (kept_of (answered_by is_first b s side))) (sym is) (unanswered_fits At w t is_first s side fits)

-- it is answered after it waited
pub waits_answered : {S : Type 0} (At : S → World → List Commit → List Change → Type 0) (old new : Parts S) (w : World) (is_first final : Bool) (s : ℕ) (side : Side) → IsNumber (length side.settings) s → is_first ≡ false → final ≡ true → Fits At old w (kept_of side)
    → IsAnswered old.holding new.holding s → new.seated ≡ old.seated → new.commits ≡ old.commits → new.spans ≡ old.spans → At new.store w side.history.commits (changes_of old old.seated.0) → Fits At new w (kept_of (answered_by is_first final s side))
waits_answered At old new w is_first final s side number first is fits i seated commits spans at =
    subst (λ (b : Bool). Fits At new w (kept_of (answered_by b final s side))) (sym first)
    (subst (λ (b : Bool). Fits At new w (kept_of (answered_by false b s side))) (sym is)
    (fits_answered At w (kept_of side) old new seated commits spans fits.rests at s (here_of old w (kept_of side) s fits.rests number) i))
