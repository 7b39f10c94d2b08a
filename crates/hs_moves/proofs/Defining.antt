-- What a definition comes to.
use Rattle.std.proofs.Common.{◌≡◌, ℕ, ◌||◌, Bool, true, false, List, [], ◌∷◌, ◌++◌, length, map, refl, sym, ap, ap₂, ◌∙◌, subst, codes}
use Rattle.std.specs.Prelude.{None, Some, Result, Ok, Err, filter}
use Rattle.hs_claims.specs.declared.blockers.Blockers.{Blockers}
use Rattle.hs_claims.specs.Blockers.{has}
use Rattle.hs_plan.specs.declared.change.Change.{Change}
use Rattle.hs_plan.specs.declared.change.Change.TheVariants as change
use Rattle.hs_plan.specs.declared.definition.Definition.{Definition}
use Rattle.hs_turns.specs.Database.{has_room}
use Rattle.hs_turns.specs.Definitions.{control_after}
use Rattle.hs_turns.specs.Events.{define, define_by, defines, definition_commit}
use Rattle.hs_turns.specs.Events.{Act as act}
use Rattle.hs_turns.specs.Histories.{Commit, History, Open}
use Rattle.hs_lines.specs.declared.words.Words.{Words as Said}
use Rattle.hs_lines.specs.declared.words.Words.TheVariants as said
use Rattle.hs_schema.specs.Catalogue.{Text}
use Rattle.hs_seams.specs.declared.attempted.Attempted.{Attempted}
use Rattle.hs_seams.specs.Stores.{present}
use Rattle.hs_seams.specs.World.{World}
use Rattle.hs_sides.specs.Sides.{side_of}
use Rattle.hs_turns.specs.Attempts.{Attempt, Ending, Fits as HasRoom, TooManyChanges, LogFull, deadlock_words, defined, defined_by, ending_by, ending_of, held_up, next_number}
use Rattle.hs_turns.specs.Dialect.{accepted, language_of, refused_words}
use Rattle.hs_turns.specs.Lines.{Replies, WaitsFor}
use Rattle.hs_turns.specs.Machine.{Machine, event, happens, name_of}
use Rattle.hs_turns.specs.Waiting.{Entry, ascending, waits_for}
use Rattle.hs_tied.specs.Kept.{with_waits}
use Rattle.hs_moves.specs.Parts.{Parts}
use Rattle.hs_moves.specs.Fits.{Fits, kept_of}
use Rattle.hs_moves.specs.Moves.{Makes, Moves}
use Rattle.hs_moves.specs.Answers.{ok_told, refusal_told}
use Rattle.hs_moves.proofs.Ended.{stays}
use Rattle.hs_moves.proofs.Texts.{makes_none, makes_one, said_one}

module _ {S : Type 0} (At : S → World → List Commit → List Change → Type 0) (w : World) (m : Machine) (new : Parts S) (r : Attempted) (told told' : List Said) (entry : Entry) where
  abbrev M : Attempt → List (List ℕ) → List (List ℕ) → Type 0
  M a old made = Moves At w m a new r told told' old made

  abbrev Defined : Result Definition Text → List (List ℕ) → List (List ℕ) → Type 0
  Defined found old made = M (defined w.run.dialect w.run.opening w.run.made found [] entry m) old made

  pub define_refused : (why : Text) (made : List (List ℕ)) → w.run.dialect.definition (present w m.history.commits) entry.text ≡ Err why → Fits At new w (kept_of (side_of m)) → r.is_final ≡ true → r.has_ended ≡ false → told' ≡ refusal_told told why
      → Defined (w.run.dialect.definition (present w m.history.commits) entry.text) made made
  define_refused why made found fits final ended is = subst (λ (x : Result Definition Text). Defined x made made) (sym found)
      (stays At w m new r told told' (Replies (refused_words why) None) (said.Reply (refused_words why) None) made fits final ended is refl)

  module _ (definition : Definition) (found : w.run.dialect.definition (present w m.history.commits) entry.text ≡ Ok definition) where
    by_ending : (how : Ending) (old made : List (List ℕ)) → ending_of w.run.dialect w.run.opening w.run.made m (definition_commit entry.session definition) ≡ how → M (defined_by w.run.dialect w.run.opening w.run.made how [] entry m) old made
        → Defined (w.run.dialect.definition (present w m.history.commits) entry.text) old made
    by_ending how old made e h = subst (λ (x : Result Definition Text). Defined x old made) (sym found) (subst (λ (x : Ending). M (defined_by w.run.dialect w.run.opening w.run.made x [] entry m) old made) (sym e) h)

    pub define_many : (made : List (List ℕ)) → has_room (present w m.history.commits) (change.Define definition ∷ []) ≡ false → Fits At new w (kept_of (side_of m)) → r.is_final ≡ true → r.has_ended ≡ false → told' ≡ refusal_told told (codes "changes")
        → Defined (w.run.dialect.definition (present w m.history.commits) entry.text) made made
    define_many made none fits final ended is = by_ending TooManyChanges made made (ap (λ (b : Bool). ending_by (change.Define definition ∷ []) b (w.run.dialect.has_log_room m.history.commits (definition_commit entry.session definition))) none)
        (stays At w m new r told told' (Replies (refused_words (codes "changes")) None) (said.Reply (refused_words (codes "changes")) None) made fits final ended is refl)

    pub define_full : (made : List (List ℕ)) → has_room (present w m.history.commits) (change.Define definition ∷ []) ≡ true → w.run.dialect.has_log_room m.history.commits (definition_commit entry.session definition) ≡ false
        → Fits At new w (kept_of (side_of m)) → r.is_final ≡ true → r.has_ended ≡ false → told' ≡ refusal_told told (codes "log full") → Defined (w.run.dialect.definition (present w m.history.commits) entry.text) made made
    define_full made room log fits final ended is = by_ending LogFull made made (ap₂ (λ (x y : Bool). ending_by (change.Define definition ∷ []) x y) room log)
        (stays At w m new r told told' (Replies (refused_words (codes "log full")) None) (said.Reply (refused_words (codes "log full")) None) made fits final ended is refl)

    pub define_done : (number : ℕ) (old made : List (List ℕ)) → m.history.open_ ≡ [] → has_room (present w m.history.commits) (change.Define definition ∷ []) ≡ true → w.run.dialect.has_log_room m.history.commits (definition_commit entry.session definition) ≡ true
        → Fits At new w (record (kept_of (side_of m)) { kind = control_after definition m.history.kind; commits = m.history.commits ++ definition_commit entry.session definition ∷ [] }) → number ≡ next_number w.run.dialect w.run.opening w.run.made m
        → made ≡ old ++ w.text m.history.commits (definition_commit entry.session definition) ∷ [] → r.is_final ≡ true → r.has_ended ≡ false → told' ≡ ok_told told (Some (record { 0 = number }))
        → Defined (w.run.dialect.definition (present w m.history.commits) entry.text) old made
    define_done number old made none room log fits is_next texts final ended is =
        let goes : (happens w.run.dialect w.run.opening (event m entry.session false false (act.Defines entry.text)) m).history ≡ define_by true entry.session definition m.history
        = ap (λ (os : List Open). defines (language_of w.run.dialect) w.run.opening entry.session entry.text os m.history) none
        ∙ ap (λ (x : Result Definition Text). define w.run.opening entry.session (accepted x) m.history) found
        ∙ ap (λ (b : Bool). define_by b entry.session definition m.history) room in
        by_ending HasRoom old made (ap₂ (λ (x y : Bool). ending_by (change.Define definition ∷ []) x y) room log)
        (record {
          fits = subst (λ (h : History). Fits At new w (kept_of (side_of (record m { history = h })))) (sym goes) fits;
          words = said_one m.names told told' (said.Reply (codes "ok") (Some (record { 0 = number }))) (Replies (codes "ok") (Some (next_number w.run.dialect w.run.opening w.run.made m))) is (ap (λ (n : ℕ). Replies (codes "ok") (Some n)) is_next);
          final = final;
          ended = ap (λ (b : Bool). b || m.again) (sym ended);
          makes = subst (λ (h : History). Makes w m.history.commits h.commits old made) (sym goes) (makes_one w m.history.commits (definition_commit entry.session definition) old made texts);
        })

  -- ---- it is held up

  pub held_deadlock : (back : ℕ) (list : List ℕ) → Fits At new w (kept_of (side_of m)) → r.is_final ≡ true → r.has_ended ≡ false → told' ≡ refusal_told told (deadlock_words m back) → M (held_up w.run.dialect w.run.opening w.run.made (Some back) list [] entry m) [] []
  held_deadlock back list fits final ended is = stays At w m new r told told' (Replies (refused_words (deadlock_words m back)) None) (said.Reply (refused_words (deadlock_words m back)) None) [] fits final ended is refl

  pub held_waits : (set : Blockers) (list : List ℕ) → Fits At new w (with_waits (waits_for entry.session list m.waits) (kept_of (side_of m))) → list ≡ filter (has set) (ascending 1 (length m.names)) → r.is_final ≡ false → r.has_ended ≡ false
      → told' ≡ told ++ said.WaitsFor set ∷ [] → M (held_up w.run.dialect w.run.opening w.run.made None list [] entry m) [] []
  held_waits set list fits are final ended is = record {
    fits = fits;
    words = said_one m.names told told' (said.WaitsFor set) (WaitsFor (map (name_of m) list)) is (ap (λ (l : List ℕ). WaitsFor (map (name_of m) l)) (sym are));
    final = final;
    ended = ap (λ (b : Bool). b || m.again) (sym ended);
    makes = makes_none w m.history.commits [];
  }
