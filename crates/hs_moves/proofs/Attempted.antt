-- A data statement by who is in its way.
use Rattle.std.proofs.Common.{◌≡◌, ℕ, Bool, true, false, [], sym, subst}
use Rattle.std.specs.Prelude.{Option}
use Rattle.hs_turns.specs.Histories.{commit_of, is_free, others}
use Rattle.hs_schema.specs.Catalogue.{Text}
use Rattle.hs_seams.specs.World.{World}
use Rattle.hs_turns.specs.Attempts.{Attempt, Ending, attempt_data, auto_ended, blockers, conflict_words, data_by, data_event, ending_of, held_up_data, judged_data, leading_back, refuses, takes, went_on}
use Rattle.hs_turns.specs.Machine.{Machine, ends}
use Rattle.hs_turns.specs.Waiting.{Entry}
use Rattle.hs_moves.specs.Evaluated.{IsAccepted, IsUnblocked, data_after, data_outcome, data_own, data_wanted, is_clear}

module _ (w : World) (m : Machine) (entry : Entry) (P : Attempt → Type 0) (accepted : IsAccepted w m entry) where
  abbrev Judged : Bool → Bool → Type 0
  Judged f c = P (judged_data w.run.dialect w.run.opening w.run.made f c entry (data_own w m entry) (data_wanted w m entry) m)

  bound : Judged (is_free m.history.kind (data_own w m entry) (data_outcome w m entry).foot (others entry.session m.history.open_)) (is_clear w m entry) → P (attempt_data w.run.dialect w.run.opening w.run.made entry m)
  bound h = subst (λ (x : Option Text). P (data_by w.run.dialect w.run.opening w.run.made x entry (data_own w m entry) m)) (sym accepted) h

  -- nobody is, and no commit conflicts
  module _ (clear : is_clear w m entry ≡ true) where
    pub free_goes : IsUnblocked w m entry (data_outcome w m entry).foot → P (went_on w.run.dialect w.run.opening w.run.made (data_own w m entry).auto entry (data_after w m entry) m) → P (attempt_data w.run.dialect w.run.opening w.run.made entry m)
    free_goes free h = bound (subst (λ (f : Bool). Judged f (is_clear w m entry)) (sym free) (subst (λ (c : Bool). Judged true c) (sym clear) h))

    -- its transaction ends with it
    pub free_ends : IsUnblocked w m entry (data_outcome w m entry).foot → (data_own w m entry).auto ≡ true → (how : Ending) → ending_of w.run.dialect w.run.opening w.run.made m (commit_of (data_after w m entry)) ≡ how
        → P (auto_ended w.run.dialect w.run.opening w.run.made how entry (data_after w m entry) m) → P (attempt_data w.run.dialect w.run.opening w.run.made entry m)
    free_ends free on how e h = free_goes free (subst (λ (b : Bool). P (went_on w.run.dialect w.run.opening w.run.made b entry (data_after w m entry) m)) (sym on)
        (subst (λ (x : Ending). P (auto_ended w.run.dialect w.run.opening w.run.made x entry (data_after w m entry) m)) (sym e) h))

  -- a commit conflicts
  pub free_conflicts : IsUnblocked w m entry (data_outcome w m entry).foot → is_clear w m entry ≡ false
      → P (refuses [] (conflict_words w.run.dialect w.run.opening w.run.made m (data_own w m entry) (data_wanted w m entry)) (ends entry.session (takes w.run.dialect w.run.opening w.run.made (data_event w.run.dialect w.run.opening w.run.made m entry false) m)))
      → P (attempt_data w.run.dialect w.run.opening w.run.made entry m)
  free_conflicts free conflicts h = bound (subst (λ (f : Bool). Judged f (is_clear w m entry)) (sym free) (subst (λ (c : Bool). Judged true c) (sym conflicts) h))

  -- somebody is
  pub blocked_waits : is_free m.history.kind (data_own w m entry) (data_outcome w m entry).foot (others entry.session m.history.open_) ≡ false → (back : Option ℕ)
      → leading_back m entry.session (blockers m entry.session (data_wanted w m entry)) ≡ back → P (held_up_data w.run.dialect w.run.opening w.run.made back (blockers m entry.session (data_wanted w m entry)) entry m) → P (attempt_data w.run.dialect w.run.opening w.run.made entry m)
  blocked_waits blocked back e h = bound (subst (λ (f : Bool). Judged f (is_clear w m entry)) (sym blocked)
      (subst (λ (x : Option ℕ). P (held_up_data w.run.dialect w.run.opening w.run.made x (blockers m entry.session (data_wanted w m entry)) entry m)) (sym e) h))
