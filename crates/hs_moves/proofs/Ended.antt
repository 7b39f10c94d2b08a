-- COMMIT and ROLLBACK.
use Rattle.std.proofs.Common.{◌≡◌, ℕ, ◌||◌, Bool, true, false, List, [], ◌∷◌, ◌++◌, refl, sym, ap, ◌∙◌, subst, codes}
use Rattle.std.specs.Prelude.{Option, None, Some}
use Rattle.hs_plan.specs.declared.change.Change.{Change}
use Rattle.hs_turns.specs.Histories.{Commit, Open, commit_of}
use Rattle.hs_lines.specs.Told.{words_of}
use Rattle.hs_lines.specs.declared.words.Words.{Words as Said}
use Rattle.hs_lines.specs.declared.words.Words.TheVariants as said
use Rattle.hs_seams.specs.declared.attempted.Attempted.{Attempted}
use Rattle.hs_seams.specs.World.{World}
use Rattle.hs_sides.specs.Sides.{side_of}
use Rattle.hs_turns.specs.Attempts.{Attempt, Ending, Empty, Fits as HasRoom, TooManyChanges, LogFull, attempt_commit, attempt_rollback, commit_by, committed_own, ending_of, left_own, next_number}
use Rattle.hs_turns.specs.Dialect.{refused_words}
use Rattle.hs_turns.specs.Lines.{Words, Replies}
use Rattle.hs_turns.specs.Machine.{Machine, is_open, open_of}
use Rattle.hs_tied.specs.Kept.{Kept, committed, left}
use Rattle.hs_moves.specs.Parts.{Parts}
use Rattle.hs_moves.specs.Fits.{Fits, kept_of}
use Rattle.hs_moves.specs.Moves.{Makes, Moves}
use Rattle.hs_moves.specs.Answers.{ok_told, refusal_told}
use Rattle.hs_moves.proofs.Steps.{commit_done, commit_empty}
use Rattle.hs_moves.proofs.Texts.{makes_none, makes_one, said_one}

module _ {S : Type 0} (At : S → World → List Commit → List Change → Type 0) (w : World) (m : Machine) (new : Parts S) (r : Attempted) (told told' : List Said) where
  abbrev M : Attempt → List (List ℕ) → List (List ℕ) → Type 0
  M a old made = Moves At w m a new r told told' old made

  abbrev Now : Kept → Type 0
  Now k = Fits At new w k

  -- a reply, where nothing else is changed
  pub stays : (word : Words) (x : Said) (made : List (List ℕ)) → Now (kept_of (side_of m)) → r.is_final ≡ true → r.has_ended ≡ false → told' ≡ told ++ x ∷ [] → words_of m.names x ≡ word → M (record { words = word ∷ []; final = true; next = m }) made made
  stays word x made fits final ended is e = record {
    fits = fits;
    words = said_one m.names told told' x word is e;
    final = final;
    ended = ap (λ (b : Bool). b || m.again) (sym ended);
    makes = makes_none w m.history.commits made;
  }

  -- a reply, where a transaction ended without a commit
  pub leaves : (word : Words) (x : Said) (next : Machine) (made : List (List ℕ)) → Now (kept_of (side_of next)) → next.again ≡ true → next.history.commits ≡ m.history.commits → r.is_final ≡ true → r.has_ended ≡ true → told' ≡ told ++ x ∷ [] → words_of m.names x ≡ word
      → M (record { words = word ∷ []; final = true; next = next }) made made
  leaves word x next made fits again same final ended is e = record {
    fits = fits;
    words = said_one m.names told told' x word is e;
    final = final;
    ended = again ∙ ap (λ (b : Bool). b || m.again) (sym ended);
    makes = subst (λ (c : List Commit). Makes w m.history.commits c made made) (sym same) (makes_none w m.history.commits made);
  }

  -- ---- ROLLBACK

  pub rollback_none : (s : ℕ) → is_open m s ≡ false → Now (kept_of (side_of m)) → r.is_final ≡ true → r.has_ended ≡ false → told' ≡ ok_told told None → M (attempt_rollback w.run.dialect w.run.opening w.run.made (is_open m s) s m) [] []
  rollback_none s shut fits final ended is = subst (λ (b : Bool). M (attempt_rollback w.run.dialect w.run.opening w.run.made b s m) [] []) (sym shut)
      (stays (Replies (codes "ok") None) (said.Reply (codes "ok") None) [] fits final ended is refl)

  pub rollback_some : (s : ℕ) → is_open m s ≡ true → Now (left s (kept_of (side_of m))) → r.is_final ≡ true → r.has_ended ≡ true → told' ≡ ok_told told None → M (attempt_rollback w.run.dialect w.run.opening w.run.made (is_open m s) s m) [] []
  rollback_some s opens fits final ended is = subst (λ (b : Bool). M (attempt_rollback w.run.dialect w.run.opening w.run.made b s m) [] []) (sym opens)
      (leaves (Replies (codes "ok") None) (said.Reply (codes "ok") None) (left_own w.run.dialect w.run.opening w.run.made s m) [] fits refl refl final ended is refl)

  -- ---- COMMIT

  pub commit_none : (s : ℕ) (made : List (List ℕ)) → open_of m s ≡ None → Now (kept_of (side_of m)) → r.is_final ≡ true → r.has_ended ≡ false → told' ≡ ok_told told None → M (attempt_commit w.run.dialect w.run.opening w.run.made (open_of m s) s m) made made
  commit_none s made shut fits final ended is = subst (λ (o : Option Open). M (attempt_commit w.run.dialect w.run.opening w.run.made o s m) made made) (sym shut)
      (stays (Replies (codes "ok") None) (said.Reply (codes "ok") None) made fits final ended is refl)

  module _ (s : ℕ) (o : Open) (found : open_of m s ≡ Some o) (old made : List (List ℕ)) where
    by_ending : (how : Ending) → ending_of w.run.dialect w.run.opening w.run.made m (commit_of o) ≡ how → M (commit_by w.run.dialect w.run.opening w.run.made how s m) old made → M (attempt_commit w.run.dialect w.run.opening w.run.made (open_of m s) s m) old made
    by_ending how e h = subst (λ (x : Option Open). M (attempt_commit w.run.dialect w.run.opening w.run.made x s m) old made) (sym found)
        (subst (λ (x : Ending). M (commit_by w.run.dialect w.run.opening w.run.made x s m) old made) (sym e) h)

    pub commit_left : ending_of w.run.dialect w.run.opening w.run.made m (commit_of o) ≡ Empty → Now (left s (kept_of (side_of m))) → made ≡ old → r.is_final ≡ true → r.has_ended ≡ true → told' ≡ ok_told told None → M (attempt_commit w.run.dialect w.run.opening w.run.made (open_of m s) s m) old made
    commit_left e fits same final ended is =
        let kept = commit_empty w m s o found e in
        by_ending Empty e (subst (λ (x : List (List ℕ)). M (commit_by w.run.dialect w.run.opening w.run.made Empty s m) old x) (sym same)
        (leaves (Replies (codes "ok") None) (said.Reply (codes "ok") None) (committed_own w.run.dialect w.run.opening w.run.made m s) old (subst Now (sym kept) fits) refl (ap (λ (k : Kept). k.commits) kept) final ended is refl))

    pub commit_made : (number : ℕ) → ending_of w.run.dialect w.run.opening w.run.made m (commit_of o) ≡ HasRoom → Now (committed s (commit_of o) (kept_of (side_of m))) → number ≡ next_number w.run.dialect w.run.opening w.run.made m → made ≡ old ++ w.text m.history.commits (commit_of o) ∷ []
        → r.is_final ≡ true → r.has_ended ≡ true → told' ≡ ok_told told (Some (record { 0 = number })) → M (attempt_commit w.run.dialect w.run.opening w.run.made (open_of m s) s m) old made
    commit_made number e fits is_next texts final ended is =
        let kept = commit_done w m s o found e in
        let next = committed_own w.run.dialect w.run.opening w.run.made m s in
        by_ending HasRoom e (record {
          fits = subst Now (sym kept) fits;
          words = said_one m.names told told' (said.Reply (codes "ok") (Some (record { 0 = number }))) (Replies (codes "ok") (Some (next_number w.run.dialect w.run.opening w.run.made m))) is (ap (λ (n : ℕ). Replies (codes "ok") (Some n)) is_next);
          final = final;
          ended = ap (λ (b : Bool). b || m.again) (sym ended);
          makes = subst (λ (c : List Commit). Makes w m.history.commits c old made) (sym (ap (λ (k : Kept). k.commits) kept)) (makes_one w m.history.commits (commit_of o) old made texts);
        })

    pub commit_many : ending_of w.run.dialect w.run.opening w.run.made m (commit_of o) ≡ TooManyChanges → Now (kept_of (side_of m)) → made ≡ old → r.is_final ≡ true → r.has_ended ≡ false → told' ≡ refusal_told told (codes "changes") → M (attempt_commit w.run.dialect w.run.opening w.run.made (open_of m s) s m) old made
    commit_many e fits same final ended is = by_ending TooManyChanges e (subst (λ (x : List (List ℕ)). M (commit_by w.run.dialect w.run.opening w.run.made TooManyChanges s m) old x) (sym same)
        (stays (Replies (refused_words (codes "changes")) None) (said.Reply (refused_words (codes "changes")) None) old fits final ended is refl))

    pub commit_full : ending_of w.run.dialect w.run.opening w.run.made m (commit_of o) ≡ LogFull → Now (kept_of (side_of m)) → made ≡ old → r.is_final ≡ true → r.has_ended ≡ false → told' ≡ refusal_told told (codes "log full") → M (attempt_commit w.run.dialect w.run.opening w.run.made (open_of m s) s m) old made
    commit_full e fits same final ended is = by_ending LogFull e (subst (λ (x : List (List ℕ)). M (commit_by w.run.dialect w.run.opening w.run.made LogFull s m) old x) (sym same)
        (stays (Replies (refused_words (codes "log full")) None) (said.Reply (refused_words (codes "log full")) None) old fits final ended is refl))
