-- A definition behind the commit of its session's own transaction.
use Rattle.std.proofs.Common.{◌≡◌, ℕ, ◌||◌, Bool, true, false, List, [], ◌∷◌, ◌++◌, map, refl, sym, ap, ◌∙◌, subst, append_assoc, codes}
use Rattle.std.specs.Prelude.{Option, None, Some, Result, Ok, Err}
use Rattle.std.proofs.lemmas.Bool.{or_right}
use Rattle.std.proofs.lemmas.List.{map-append}
use Rattle.hs_plan.specs.declared.change.Change.{Change}
use Rattle.hs_plan.specs.declared.definition.Definition.{Definition}
use Rattle.hs_turns.specs.Events.{definition_commit}
use Rattle.hs_turns.specs.Histories.{Commit, Open, commit_of}
use Rattle.hs_lines.specs.Told.{words_of}
use Rattle.hs_lines.specs.declared.words.Words.{Words as Said}
use Rattle.hs_lines.specs.declared.words.Words.TheVariants as said
use Rattle.hs_schema.specs.Catalogue.{Text}
use Rattle.hs_seams.specs.declared.attempted.Attempted.{Attempted}
use Rattle.hs_seams.specs.Stores.{present}
use Rattle.hs_seams.specs.World.{World}
use Rattle.hs_sides.specs.Sides.{side_of}
use Rattle.hs_turns.specs.Attempts.{Attempt, Ending, Empty, Fits as HasRoom, TooManyChanges, LogFull, bound_definition, defined, defined_by, defining, ending_of, held_up, leading_back, next_number, open_sessions, own_by, own_first}
use Rattle.hs_turns.specs.Dialect.{refused_words}
use Rattle.hs_turns.specs.Lines.{Words, First, Replies}
use Rattle.hs_turns.specs.Machine.{Machine, open_of}
use Rattle.hs_turns.specs.Waiting.{Entry}
use Rattle.hs_tied.specs.Kept.{Kept}
use Rattle.hs_moves.specs.Answers.{IsLeft, refusal_told}
use Rattle.hs_moves.specs.Fits.{kept_of}
use Rattle.hs_moves.specs.Moves.{Makes, Moves, ending_in}
use Rattle.hs_moves.specs.Parts.{Parts}
use Rattle.hs_moves.proofs.Ended.{stays}
use Rattle.hs_moves.proofs.Steps.{commit_done, commit_empty}
use Rattle.hs_moves.proofs.Texts.{makes_one, makes_then}
use Rattle.hs_controls.specs.Sights.{behind_own}

-- ---- words that were told before stand in front

abbrev in_front : List Words → Attempt → Attempt
in_front before a = record a { words = before ++ a.words }

module _ (w : World) (before : List Words) (entry : Entry) (m : Machine) where
  ending_front : (how : Ending) → defined_by w.run.dialect w.run.opening w.run.made how before entry m ≡ in_front before (defined_by w.run.dialect w.run.opening w.run.made how [] entry m)
  ending_front Empty = refl
  ending_front HasRoom = refl
  ending_front TooManyChanges = refl
  ending_front LogFull = refl

  defined_front : (found : Result Definition Text) → defined w.run.dialect w.run.opening w.run.made found before entry m ≡ in_front before (defined w.run.dialect w.run.opening w.run.made found [] entry m)
  defined_front (Err why) = refl
  defined_front (Ok definition) = ending_front (ending_of w.run.dialect w.run.opening w.run.made m (definition_commit entry.session definition))

  held_front : (back : Option ℕ) (list : List ℕ) → held_up w.run.dialect w.run.opening w.run.made back list before entry m ≡ in_front before (held_up w.run.dialect w.run.opening w.run.made back list [] entry m)
  held_front (Some back) list = refl
  held_front None list = refl

  defining_front : (os : List Open) → defining w.run.dialect w.run.opening w.run.made os before entry m ≡ in_front before (defining w.run.dialect w.run.opening w.run.made os [] entry m)
  defining_front [] = defined_front (w.run.dialect.definition (present w m.history.commits) entry.text)
  defining_front (o ∷ os) = held_front (leading_back m entry.session (open_sessions m)) (open_sessions m)

-- ---- the whole

module _ {S : Type 0} (At : S → World → List Commit → List Change → Type 0) (w : World) (m : Machine) (new : Parts S) (r : Attempted) (told told' : List Said) (entry : Entry) where
  abbrev M : Attempt → List (List ℕ) → List (List ℕ) → Type 0
  M a old made = Moves At w m a new r told told' old made

  abbrev after : Machine
  after = behind_own w m entry.session

  abbrev rest : Attempt
  rest = defining w.run.dialect w.run.opening w.run.made after.history.open_ [] entry after

  abbrev Own : Option Open → List (List ℕ) → List (List ℕ) → Type 0
  Own found old made = M (own_first w.run.dialect w.run.opening w.run.made found entry m) old made

  pub own_none : (old made : List (List ℕ)) → open_of m entry.session ≡ None → M (defining w.run.dialect w.run.opening w.run.made m.history.open_ [] entry m) old made
      → M (bound_definition w.run.dialect w.run.opening w.run.made true entry m) old made
  own_none old made none h = subst (λ (f : Option Open). Own f old made) (sym none) h

  module _ (o : Open) (found : open_of m entry.session ≡ Some o) where
    by_ending : (how : Ending) (old made : List (List ℕ)) → ending_in w m o ≡ how → M (own_by w.run.dialect w.run.opening w.run.made how entry m) old made → M (bound_definition w.run.dialect w.run.opening w.run.made true entry m) old made
    by_ending how old made e h = subst (λ (f : Option Open). Own f old made) (sym found) (subst (λ (x : Ending). M (own_by w.run.dialect w.run.opening w.run.made x entry m) old made) (sym e) h)

    ended_is : (behind : Attempted) → r.has_ended ≡ true → rest.next.again ≡ (behind.has_ended || true) → rest.next.again ≡ (r.has_ended || m.again)
    ended_is behind ended e = e ∙ or_right behind.has_ended true refl ∙ sym (ap (λ (b : Bool). b || m.again) ended)

    pub own_empty : (behind : Attempted) (old made : List (List ℕ)) → ending_in w m o ≡ Empty → Moves At w after rest new behind told told' old made → r.is_final ≡ behind.is_final → r.has_ended ≡ true
        → M (bound_definition w.run.dialect w.run.opening w.run.made true entry m) old made
    own_empty behind old made e h final ended = by_ending Empty old made e (record {
      fits = h.fits;
      words = h.words;
      final = final ∙ h.final;
      ended = ended_is behind ended h.ended;
      makes = subst (λ (c : List Commit). Makes w c rest.next.history.commits old made) (ap (λ (k : Kept). k.commits) (commit_empty w m entry.session o found e)) h.makes;
    })

    pub own_done : (behind : Attempted) (number : ℕ) (old own_made made : List (List ℕ)) → ending_in w m o ≡ HasRoom → number ≡ next_number w.run.dialect w.run.opening w.run.made m → own_made ≡ old ++ w.text m.history.commits (commit_of o) ∷ []
        → Moves At w after rest new behind (told ++ said.First (record { 0 = number }) ∷ []) told' own_made made → r.is_final ≡ behind.is_final → r.has_ended ≡ true → M (bound_definition w.run.dialect w.run.opening w.run.made true entry m) old made
    own_done behind number old own_made made e is_next texts h final ended =
        let first : List Words = First (next_number w.run.dialect w.run.opening w.run.made m) ∷ [] in
        let front = defining_front w first entry after after.history.open_ in
        by_ending HasRoom old made e (subst (λ (a : Attempt). M a old made) (sym front) (record {
          fits = h.fits;
          words = h.words
              ∙ ap (λ (l : List Words). l ++ rest.words) (map-append (words_of m.names) told (said.First (record { 0 = number }) ∷ []) ∙ ap (λ (n : ℕ). map (words_of m.names) told ++ First n ∷ []) is_next)
              ∙ append_assoc (map (words_of m.names) told) first rest.words;
          final = final ∙ h.final;
          ended = ended_is behind ended h.ended;
          makes = makes_then w m.history.commits after.history.commits rest.next.history.commits old own_made made
              (subst (λ (c : List Commit). Makes w m.history.commits c old own_made) (sym (ap (λ (k : Kept). k.commits) (commit_done w m entry.session o found e))) (makes_one w m.history.commits (commit_of o) old own_made texts)) h.makes;
        }))

    pub own_many : (made : List (List ℕ)) → ending_in w m o ≡ TooManyChanges → IsLeft At w (kept_of (side_of m)) new r true false told' (refusal_told told (codes "changes")) → M (bound_definition w.run.dialect w.run.opening w.run.made true entry m) made made
    own_many made e l = by_ending TooManyChanges made made e
        (stays At w m new r told told' (Replies (refused_words (codes "changes")) None) (said.Reply (refused_words (codes "changes")) None) made l.fits l.final_is l.ended_is l.told_is refl)

    pub own_full : (made : List (List ℕ)) → ending_in w m o ≡ LogFull → IsLeft At w (kept_of (side_of m)) new r true false told' (refusal_told told (codes "log full")) → M (bound_definition w.run.dialect w.run.opening w.run.made true entry m) made made
    own_full made e l = by_ending LogFull made made e
        (stays At w m new r told told' (Replies (refused_words (codes "log full")) None) (said.Reply (refused_words (codes "log full")) None) made l.fits l.final_is l.ended_is l.told_is refl)
