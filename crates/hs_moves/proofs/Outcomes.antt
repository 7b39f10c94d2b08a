-- What a data statement comes to.
use Rattle.std.proofs.Common.{◌≡◌, ℕ, ◌||◌, Bool, true, false, List, [], ◌∷◌, ◌++◌, length, map, refl, sym, ap, ap₂, ◌∙◌, subst, codes}
use Rattle.std.specs.Prelude.{Option, None, Some, filter}
use Rattle.std.specs.Option.{option_map}
use Rattle.hs_base.specs.declared.numbers.CommitNo.{CommitNo}
use Rattle.hs_plan.specs.declared.change.Change.{Change}
use Rattle.hs_turns.specs.Events.{finish}
use Rattle.hs_turns.specs.Histories.{Commit, History, commit_of, is_free, others, put_open}
use Rattle.hs_lines.specs.Told.{words_of}
use Rattle.hs_lines.specs.declared.words.Words.{Words as Said}
use Rattle.hs_lines.specs.declared.words.Words.TheVariants as said
use Rattle.hs_claims.specs.declared.blockers.Blockers.{Blockers}
use Rattle.hs_claims.specs.Blockers.{has}
use Rattle.hs_schema.specs.Catalogue.{Text}
use Rattle.hs_seams.specs.declared.attempted.Attempted.{Attempted}
use Rattle.hs_seams.specs.World.{World}
use Rattle.hs_sides.specs.Sides.{side_of}
use Rattle.hs_turns.specs.Attempts.{Attempt, Ending, Empty, Fits as HasRoom, TooManyChanges, LogFull, auto_ended, data_event, deadlock_words, ending_of, held_up_data, newest, next_number, refuses, takes, went_on}
use Rattle.hs_turns.specs.Dialect.{refused_words}
use Rattle.hs_turns.specs.Lines.{Words, Replies, WaitsFor, told as told_by}
use Rattle.hs_turns.specs.Machine.{Machine, ends, name_of}
use Rattle.hs_turns.specs.Waiting.{Entry, ascending, freed, waits_for}
use Rattle.hs_tied.specs.Kept.{Kept, used, with_waits}
use Rattle.hs_moves.specs.Parts.{Parts}
use Rattle.hs_moves.specs.Answers.{outcome_told}
use Rattle.hs_moves.specs.Begun.{ended_with, kept_after}
use Rattle.hs_moves.specs.Evaluated.{IsUnblocked, data_after, data_outcome, data_own, is_clear}
use Rattle.hs_moves.specs.Fits.{Fits, kept_of}
use Rattle.hs_moves.specs.Moves.{Makes, Moves}
use Rattle.hs_moves.proofs.Going.{auto_done, auto_empty, auto_many, conflict_goes, goes_open, held_goes, leaves_full}
use Rattle.hs_moves.proofs.Texts.{makes_none, makes_one, rows_told, said_one}

module _ {S : Type 0} (At : S → World → List Commit → List Change → Type 0) (w : World) (m : Machine) (new : Parts S) (r : Attempted) (told told' : List Said) (entry : Entry) where
  abbrev M : Attempt → List (List ℕ) → List (List ℕ) → Type 0
  M a old made = Moves At w m a new r told told' old made

  abbrev behind : History → Machine
  behind x = record m { history = x; settings = used entry.session (kept_of (side_of m)) }

  -- ---- nobody is in its way

  module _ (clear : is_clear w m entry ≡ true) (free : IsUnblocked w m entry (data_outcome w m entry).foot) (rows : List Text) (reply : Text) (rows_are : rows ≡ (data_outcome w m entry).rows) (reply_is : reply ≡ (data_outcome w m entry).reply) where
    words_by : (commit : Option CommitNo) (number : Option ℕ) → option_map (λ c. c.0) commit ≡ number → told' ≡ outcome_told told rows reply commit
        → map (words_of m.names) told' ≡ map (words_of m.names) told ++ newest w.run.dialect w.run.opening w.run.made (data_after w m entry) number
    words_by commit number same is = rows_told m.names told told' rows reply commit is
        ∙ ap₂ (λ (x : List Text) (y : Text). map (words_of m.names) told ++ told_by x y (option_map (λ c. c.0) commit)) rows_are reply_is
        ∙ ap (λ (n : Option ℕ). map (words_of m.names) told ++ told_by (data_outcome w m entry).rows (data_outcome w m entry).reply n) same

    pub goes : (made : List (List ℕ)) → (data_own w m entry).auto ≡ false → Fits At new w (kept_after w m entry) → r.is_final ≡ true → r.has_ended ≡ false → told' ≡ outcome_told told rows reply None
        → M (went_on w.run.dialect w.run.opening w.run.made (data_own w m entry).auto entry (data_after w m entry) m) made made
    goes made off fits final ended is = subst (λ (b : Bool). M (went_on w.run.dialect w.run.opening w.run.made b entry (data_after w m entry) m) made made) (sym off)
        (subst (λ (n : Machine). M (record { words = newest w.run.dialect w.run.opening w.run.made (data_after w m entry) None; final = true; next = n }) made made) (sym (goes_open w m entry clear free off))
        (record {
          fits = fits;
          words = words_by None None refl is;
          final = final;
          ended = ap (λ (b : Bool). b || m.again) (sym ended);
          makes = makes_none w m.history.commits made;
        }))

    -- ---- it ends with its first statement

    module _ (on : (data_own w m entry).auto ≡ true) (final : r.is_final ≡ true) (ended : r.has_ended ≡ true) (old made : List (List ℕ)) where
      abbrev Auto : Ending → Type 0
      Auto how = M (auto_ended w.run.dialect w.run.opening w.run.made how entry (data_after w m entry) m) old made

      abbrev Ended : List Words → Machine → Type 0
      Ended words n = M (record { words = words; final = true; next = ends entry.session n }) old made

      without : (words : List Words) (h : History) → h.kind ≡ m.history.kind → h.commits ≡ m.history.commits → h.open_ ≡ others entry.session m.history.open_ → Fits At new w (ended_with w m entry m.history.commits) → made ≡ old
          → map (words_of m.names) told' ≡ map (words_of m.names) told ++ words → Ended words (behind h)
      without words h kind commits open_ fits same is = record {
        fits = subst (λ (k : Kept). Fits At new w k) (λ i. record { kind = sym kind i; commits = sym commits i; open_ = sym open_ i; settings = used entry.session (kept_of (side_of m)); waits = freed entry.session m.waits }) fits;
        words = is;
        final = final;
        ended = ap (λ (b : Bool). b || m.again) (sym ended);
        makes = subst (λ (c : List Commit). Makes w m.history.commits c old made) (sym commits) (subst (λ (x : List (List ℕ)). Makes w m.history.commits m.history.commits old x) (sym same) (makes_none w m.history.commits old));
      }

      pub ends_empty : ending_of w.run.dialect w.run.opening w.run.made m (commit_of (data_after w m entry)) ≡ Empty → Fits At new w (ended_with w m entry m.history.commits) → made ≡ old → told' ≡ outcome_told told rows reply None → Auto Empty
      ends_empty e fits same is = subst (Ended (newest w.run.dialect w.run.opening w.run.made (data_after w m entry) None)) (sym (auto_empty w m entry clear free on e))
          (without (newest w.run.dialect w.run.opening w.run.made (data_after w m entry) None) (finish false (data_after w m entry) entry.session m.history) refl refl refl fits same (words_by None None refl is))

      pub ends_done : (number : ℕ) → ending_of w.run.dialect w.run.opening w.run.made m (commit_of (data_after w m entry)) ≡ HasRoom → Fits At new w (ended_with w m entry (m.history.commits ++ commit_of (data_after w m entry) ∷ []))
          → number ≡ next_number w.run.dialect w.run.opening w.run.made m → made ≡ old ++ w.text m.history.commits (commit_of (data_after w m entry)) ∷ [] → told' ≡ outcome_told told rows reply (Some (record { 0 = number })) → Auto HasRoom
      ends_done number e fits is_next texts is = subst (Ended (newest w.run.dialect w.run.opening w.run.made (data_after w m entry) (Some (next_number w.run.dialect w.run.opening w.run.made m)))) (sym (auto_done w m entry clear free on e))
          (record {
            fits = fits;
            words = words_by (Some (record { 0 = number })) (Some (next_number w.run.dialect w.run.opening w.run.made m)) (ap Some is_next) is;
            final = final;
            ended = ap (λ (b : Bool). b || m.again) (sym ended);
            makes = makes_one w m.history.commits (commit_of (data_after w m entry)) old made texts;
          })

      pub ends_many : ending_of w.run.dialect w.run.opening w.run.made m (commit_of (data_after w m entry)) ≡ TooManyChanges → Fits At new w (ended_with w m entry m.history.commits) → made ≡ old → told' ≡ told ++ said.Reply (refused_words (codes "changes")) None ∷ [] → Auto TooManyChanges
      ends_many e fits same is = subst (Ended (Replies (refused_words (codes "changes")) None ∷ [])) (sym (auto_many w m entry clear free on e))
          (without (Replies (refused_words (codes "changes")) None ∷ []) (finish false (data_own w m entry) entry.session m.history) refl refl refl fits same
          (said_one m.names told told' (said.Reply (refused_words (codes "changes")) None) (Replies (refused_words (codes "changes")) None) is refl))

      pub ends_full : Fits At new w (ended_with w m entry m.history.commits) → made ≡ old → told' ≡ told ++ said.Reply (refused_words (codes "log full")) None ∷ [] → Auto LogFull
      ends_full fits same is = subst (Ended (Replies (refused_words (codes "log full")) None ∷ [])) (sym (leaves_full w m entry))
          (without (Replies (refused_words (codes "log full")) None ∷ []) (finish false (data_own w m entry) entry.session m.history) refl refl refl fits same
          (said_one m.names told told' (said.Reply (refused_words (codes "log full")) None) (Replies (refused_words (codes "log full")) None) is refl))

  -- ---- a commit conflicts

  pub conflicts : IsUnblocked w m entry (data_outcome w m entry).foot → is_clear w m entry ≡ false → (why : Text) → Fits At new w (ended_with w m entry m.history.commits) → r.is_final ≡ true → r.has_ended ≡ true → told' ≡ told ++ said.Reply (refused_words why) None ∷ []
      → M (refuses [] why (ends entry.session (takes w.run.dialect w.run.opening w.run.made (data_event w.run.dialect w.run.opening w.run.made m entry false) m))) [] []
  conflicts free none why fits final ended is =
      subst (λ (n : Machine). M (record { words = Replies (refused_words why) None ∷ []; final = true; next = ends entry.session n }) [] []) (sym (conflict_goes w m entry free none))
      (record {
        fits = fits;
        words = said_one m.names told told' (said.Reply (refused_words why) None) (Replies (refused_words why) None) is refl;
        final = final;
        ended = ap (λ (b : Bool). b || m.again) (sym ended);
        makes = makes_none w m.history.commits [];
      })

  -- ---- somebody is in its way

  module _ (blocked : is_free m.history.kind (data_own w m entry) (data_outcome w m entry).foot (others entry.session m.history.open_) ≡ false) (list : List ℕ) where
    pub deadlocks : (back : ℕ) → Fits At new w (ended_with w m entry m.history.commits) → r.is_final ≡ true → r.has_ended ≡ true → told' ≡ told ++ said.Reply (refused_words (deadlock_words m back)) None ∷ []
        → M (held_up_data w.run.dialect w.run.opening w.run.made (Some back) list entry m) [] []
    deadlocks back fits final ended is =
        subst (λ (n : Machine). M (record { words = Replies (refused_words (deadlock_words m back)) None ∷ []; final = true; next = ends entry.session n }) [] []) (sym (held_goes w m entry true blocked))
        (record {
          fits = fits;
          words = said_one m.names told told' (said.Reply (refused_words (deadlock_words m back)) None) (Replies (refused_words (deadlock_words m back)) None) is refl;
          final = final;
          ended = ap (λ (b : Bool). b || m.again) (sym ended);
          makes = makes_none w m.history.commits [];
        })

    pub waits : (set : Blockers) → Fits At new w (with_waits (waits_for entry.session list m.waits) (record (kept_of (side_of m)) { open_ = put_open entry.session (data_own w m entry) m.history.open_; settings = used entry.session (kept_of (side_of m)) }))
        → list ≡ filter (has set) (ascending 1 (length m.names)) → r.is_final ≡ false → r.has_ended ≡ false → told' ≡ told ++ said.WaitsFor set ∷ [] → M (held_up_data w.run.dialect w.run.opening w.run.made None list entry m) [] []
    waits set fits are final ended is =
        subst (λ (n : Machine). M (record { words = WaitsFor (map (name_of n) list) ∷ []; final = false; next = record n { waits = waits_for entry.session list n.waits } }) [] []) (sym (held_goes w m entry false blocked))
        (record {
          fits = fits;
          words = said_one m.names told told' (said.WaitsFor set) (WaitsFor (map (name_of m) list)) is (ap (λ (l : List ℕ). WaitsFor (map (name_of m) l)) (sym are));
          final = final;
          ended = ap (λ (b : Bool). b || m.again) (sym ended);
          makes = makes_none w m.history.commits [];
        })
