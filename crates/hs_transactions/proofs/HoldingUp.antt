-- Data statements that others are in the way of.
use Rattle.std.proofs.Common.{◌≡◌, ℕ, ◌≤◌, true, false, List, [], ◌∷◌, ◌++◌, length, refl, sym, ap, ◌∙◌, subst, eq-eqb, codes}
use Rattle.std.specs.Prelude.{Option, None, Some, filter}
use Rattle.std.specs.Option.{option_map}
use Rattle.hs_base.specs.declared.numbers.SessionNo.{SessionNo}
use Rattle.hs_claims.specs.declared.blockers.Blockers.{Blockers}
use Rattle.hs_claims.specs.Blockers.{has}
use Rattle.hs_claims.specs.Wants.{wants_of}
use Rattle.hs_claims.specs.Session.{IsSession}
use Rattle.hs_turns.specs.Histories.{Commit, Open}
use Rattle.hs_holding.specs.declared.seat.Own.{Own}
use Rattle.hs_lines.specs.Names.{name_in}
use Rattle.hs_lines.specs.declared.words.Words.{Words as Said}
use Rattle.hs_lines.specs.declared.words.Words.TheVariants as said
use Rattle.hs_plan.specs.declared.change.Change.{Change}
use Rattle.hs_schema.specs.Catalogue.{Text}
use Rattle.hs_seams.specs.declared.attempted.Attempted.{Attempted}
use Rattle.hs_seams.specs.declared.outcome.Outcome.{Outcome as Held}
use Rattle.hs_seams.specs.World.{World}
use Rattle.hs_sides.specs.Sides.{side_of}
use Rattle.hs_turns.specs.Attempts.{Attempt, attempt_data, blockers, leading_back}
use Rattle.hs_turns.specs.Machine.{Machine}
use Rattle.hs_turns.specs.Waiting.{Entry, ascending, first_leading, waits_for}
use Rattle.hs_turns.proofs.Opened.{own_session}
use Rattle.hs_waits.specs.Waits.{IsFirstLeading}
use Rattle.hs_tied.specs.Holds.{own_of}
use Rattle.hs_tied.specs.Kept.{Kept, left, opened, with_waits}
use Rattle.hs_tied.proofs.Blocking.{blockers_within}
use Rattle.hs_tied.proofs.Lists.{others_put}
use Rattle.hs_tied.proofs.Ways.{first_is}
use Rattle.hs_moves.specs.Answers.{refusal_told}
use Rattle.hs_moves.specs.Begun.{ended_with, kept_waiting}
use Rattle.hs_moves.specs.Evaluated.{IsBlocked, data_own, data_wanted}
use Rattle.hs_moves.specs.Fits.{Fits, IsHere, changes_of, kept_of}
use Rattle.hs_moves.specs.Moves.{Moves}
use Rattle.hs_moves.specs.Parts.{Parts}
use Rattle.hs_moves.proofs.Attempted.{blocked_waits}
use Rattle.hs_moves.proofs.Outcomes.{deadlocks, waits}
use Rattle.hs_controls.specs.Called.{IsHeldUp}
use Rattle.hs_controls.proofs.Waiting.{blockers_set, fits_held_up}
use Rattle.hs_transactions.specs.Judged.{AreBlockers, IsEvaluated}
use Rattle.hs_transactions.proofs.Judging.{opened_is, wanted_same}

-- its transaction ends
pub left_is : (w : World) (m : Machine) (entry : Entry) (own : Own) → own ≡ own_of (data_own w m entry) → left entry.session (opened entry.session own.auto (kept_of (side_of m))) ≡ ended_with w m entry m.history.commits
left_is w m entry own is = ap (left entry.session) (opened_is w m entry own is)
    ∙ ap (λ (os : List Open). let x : Kept = record (ended_with w m entry m.history.commits) { open_ = os } in x)
    (others_put entry.session (data_own w m entry) (own_session entry.session _ (eq-eqb entry.session entry.session refl) m.history.open_) m.history.open_)

module _ {S : Type 0} (At : S → World → List Commit → List Change → Type 0) (old mid new : Parts S) (w : World) (m : Machine) (entry : Entry) (own : Own) (o : Held) (e : IsEvaluated At old w m entry own o) (here : IsHere old entry.session)
    (set : Blockers) (are : AreBlockers old.spans.kind old.holding entry.session own o set) (blocked : IsBlocked w m entry) (fits : Fits At mid w (opened entry.session own.auto (kept_of (side_of m)))) (r : Attempted) (told told' : List Said) where
  abbrev s : ℕ
  s = entry.session

  abbrev k : Kept
  k = kept_of (side_of m)

  abbrev list : List ℕ
  list = blockers m s (data_wanted w m entry)

  abbrev M : Attempt → Type 0
  M a = Moves At w m a new r told told' [] []

  within : (b : ℕ) → IsSession b → has set b ≡ true → b ≤ length m.settings
  within = blockers_within old.holding k e.rests.holds s (wants_of old.spans.kind own.level own.read_only o.foot) set are

  list_is : list ≡ filter (has set) (ascending 1 (length m.names))
  list_is = ap (blockers m s) (wanted_same At old w m entry own o e) ∙ blockers_set m old.holding e.rests.holds e.named s (wants_of old.spans.kind own.level own.read_only o.foot) set are

  leading : (found : Option SessionNo) → IsFirstLeading mid.holding.waits s set found → leading_back m s list ≡ option_map (λ x. x.0) found
  leading found first = ap (leading_back m s) list_is
      ∙ subst (λ (n : ℕ). first_leading n m.waits s (filter (has set) (ascending 1 n)) ≡ option_map (λ x. x.0) found) e.named
      (first_is (length m.settings) e.rests.holds.most m.waits e.sane.ways mid.holding.waits fits.rests.holds.waits s set found within first)

  -- ---- waits lead back

  pub moves_deadlock : (names : List Text) (back : SessionNo) → m.names ≡ names → IsFirstLeading mid.holding.waits s set (Some back) → Fits At new w (left s (opened s own.auto k)) → r.is_final ≡ true → r.has_ended ≡ true
      → told' ≡ refusal_told told (codes "deadlock with " ++ name_in names back.0) → M (attempt_data w.run.dialect w.run.opening w.run.made entry m)
  moves_deadlock names back same first fits' final ended is = blocked_waits w m entry M e.accepted blocked (Some back.0) (leading (Some back) first)
      (deadlocks At w m new r told told' entry blocked list back.0 (subst (Fits At new w) (left_is w m entry own e.own) fits') final ended
      (is ∙ ap (λ (ns : List Text). refusal_told told (codes "deadlock with " ++ name_in ns back.0)) (sym same)))

  -- ---- they don't

  module _ (here_mid : IsHere mid s) (up : IsHeldUp mid.holding new.holding s set) (store : new.store ≡ mid.store) (seated : new.seated ≡ mid.seated) (commits : new.commits ≡ mid.commits) (spans : new.spans ≡ mid.spans) where
    within_names : (b : ℕ) → IsSession b → has set b ≡ true → b ≤ length m.names
    within_names b p is = subst (λ (n : ℕ). b ≤ n) e.named (within b p is)

    up_fits : Fits At new w (with_waits (waits_for s (filter (has set) (ascending 1 (length m.names))) m.waits) (opened s own.auto k))
    up_fits = fits_held_up At w (opened s own.auto k) mid new seated commits spans fits.rests (subst (λ (st : S). At st w m.history.commits (changes_of mid mid.seated.0)) (sym store) fits.store) s here_mid set (length m.names) within_names up

    waiting_fits : Fits At new w (kept_waiting w m entry list)
    waiting_fits = subst (λ (l : List ℕ). Fits At new w (kept_waiting w m entry l)) (sym list_is)
        (subst (λ (x : Kept). Fits At new w (with_waits (waits_for s (filter (has set) (ascending 1 (length m.names))) m.waits) x)) (opened_is w m entry own e.own) up_fits)

    pub moves_waiting : IsFirstLeading mid.holding.waits s set None → r.is_final ≡ false → r.has_ended ≡ false → told' ≡ told ++ said.WaitsFor set ∷ [] → M (attempt_data w.run.dialect w.run.opening w.run.made entry m)
    moves_waiting first final ended is = blocked_waits w m entry M e.accepted blocked None (leading None first)
        (waits At w m new r told told' entry blocked list set waiting_fits list_is final ended is)
