-- A definition behind the commit of its session's own transaction.
use Rattle.std.proofs.Common.{◌≡◌, ℕ, ◌+◌, true, false, List, [], ◌∷◌, ◌++◌, length, refl, sym, subst, codes}
use Rattle.std.specs.Prelude.{Some}
use Rattle.hs_base.specs.declared.numbers.CommitNo.{CommitNo}
use Rattle.hs_turns.specs.Histories.{Commit, Open, commit_of}
use Rattle.hs_lines.specs.declared.words.Words.{Words as Said}
use Rattle.hs_lines.specs.declared.words.Words.TheVariants as said
use Rattle.hs_plan.specs.declared.change.Change.{Change}
use Rattle.hs_seams.specs.declared.attempted.Attempted.{Attempted}
use Rattle.hs_seams.specs.World.{World}
use Rattle.hs_sides.specs.Sides.{side_of}
use Rattle.hs_turns.specs.Attempts.{Attempt, Empty, Fits as HasRoom, TooManyChanges, LogFull, bound_definition, defining}
use Rattle.hs_turns.specs.Machine.{Machine, open_of}
use Rattle.hs_turns.specs.Waiting.{Entry}
use Rattle.hs_tied.specs.Kept.{Kept, committed, left}
use Rattle.hs_moves.specs.Answers.{refusal_told}
use Rattle.hs_moves.specs.Fits.{Fits, kept_of}
use Rattle.hs_moves.specs.Moves.{Moves}
use Rattle.hs_moves.specs.Parts.{Parts}
use Rattle.hs_moves.proofs.Steps.{commit_done, commit_empty}
use Rattle.hs_controls.specs.Sights.{behind_own}
use Rattle.hs_controls.proofs.Committing.{own_done, own_empty, own_full, own_many}
use Rattle.hs_transactions.specs.Settled.{Settles}
use Rattle.hs_transactions.specs.Standing.{IsAt}
use Rattle.hs_transactions.proofs.Defining.{at_own}

module _ {S : Type 0} (At : S → World → List Commit → List Change → Type 0) (old mid : Parts S) (w : World) (m : Machine) (entry : Entry) (at : IsAt At old w m) (o : Open) (found : open_of m entry.session ≡ Some o) (made made' : List (List ℕ)) where
  abbrev k : Kept
  k = kept_of (side_of m)

  abbrev after : Machine
  after = behind_own w m entry.session

  abbrev rest : Attempt
  rest = defining w.run.dialect w.run.opening w.run.made after.history.open_ [] entry after

  -- it ended without changes
  pub at_left : (new : Parts S) → Settles At w k o mid Empty k made' made → Fits At new w (left entry.session k) → IsAt At new w after
  at_left new x fits = at_own At old new w m entry.session (left entry.session k) at (commit_empty w m entry.session o found x.ending) refl fits

  -- it was committed
  pub at_committed : o.session ≡ entry.session → Settles At w k o mid HasRoom (committed o.session (commit_of o) k) made' (made ++ w.text k.commits (commit_of o) ∷ []) → IsAt At mid w after
  at_committed mine x = at_own At old mid w m entry.session (committed entry.session (commit_of o) k) at (commit_done w m entry.session o found x.ending) refl (subst (λ (s : ℕ). Fits At mid w (committed s (commit_of o) k)) mine x.fits)

  module _ (new : Parts S) (r : Attempted) (told told' : List Said) where
    abbrev Bound : List (List ℕ) → Type 0
    Bound all = Moves At w m (bound_definition w.run.dialect w.run.opening w.run.made true entry m) new r told told' made all

    pub first_unchanged : (behind : Attempted) (all : List (List ℕ)) → Settles At w k o mid Empty k made' made → Moves At w after rest new behind told told' made' all → r.is_final ≡ behind.is_final → r.has_ended ≡ true → Bound all
    first_unchanged behind all x h final ended = own_empty At w m new r told told' entry o found behind made all x.ending (subst (λ (l : List (List ℕ)). Moves At w after rest new behind told told' l all) x.texts h) final ended

    pub first_committed : (behind : Attempted) (all : List (List ℕ)) (number : CommitNo) (first : List Said) → Settles At w k o mid HasRoom (committed o.session (commit_of o) k) made' (made ++ w.text k.commits (commit_of o) ∷ []) × (number.0 ≡ w.run.made + length k.commits + 1)
        → first ≡ told ++ said.First number ∷ [] → Moves At w after rest new behind first told' made' all → r.is_final ≡ behind.is_final → r.has_ended ≡ true → Bound all
    first_committed behind all number first x is h final ended = own_done At w m new r told told' entry o found behind number.0 made made' all x.0.ending x.1 x.0.texts
        (subst (λ (l : List Said). Moves At w after rest new behind l told' made' all) is h) final ended

    pub first_many : Settles At w k o new TooManyChanges k made' made → r.is_final ≡ true → r.has_ended ≡ false → told' ≡ refusal_told told (codes "changes") → Bound made'
    first_many x final ended is = subst Bound (sym x.texts) (own_many At w m new r told told' entry o found made x.ending (record { fits = x.fits; final_is = final; ended_is = ended; told_is = is }))

    pub first_full : Settles At w k o new LogFull k made' made → r.is_final ≡ true → r.has_ended ≡ false → told' ≡ refusal_told told (codes "log full") → Bound made'
    first_full x final ended is = subst Bound (sym x.texts) (own_full At w m new r told told' entry o found made x.ending (record { fits = x.fits; final_is = final; ended_is = ended; told_is = is }))
