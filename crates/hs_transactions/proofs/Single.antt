-- Data statements that nobody is in the way of.
use Rattle.std.proofs.Common.{◌≡◌, ℕ, ◌+◌, ◌==◌, true, false, List, [], ◌∷◌, ◌++◌, length, refl, sym, ap, ◌∙◌, subst, eq-eqb, eqb-true, codes}
use Rattle.std.specs.Prelude.{None, Some}
use Rattle.hs_base.specs.declared.numbers.CommitNo.{CommitNo}
use Rattle.hs_turns.specs.Histories.{Commit, Open, commit_of}
use Rattle.hs_holding.specs.declared.holding.Holding.{Holding}
use Rattle.hs_holding.specs.Held.{seat_of}
use Rattle.hs_lines.specs.declared.words.Words.{Words as Said}
use Rattle.hs_plan.specs.declared.change.Change.{Change}
use Rattle.hs_schema.specs.Catalogue.{Text}
use Rattle.hs_seams.specs.declared.attempted.Attempted.{Attempted}
use Rattle.hs_seams.specs.World.{World}
use Rattle.hs_turns.specs.Attempts.{Attempt, Empty, Fits as HasRoom, TooManyChanges, LogFull, attempt_data}
use Rattle.hs_turns.specs.Machine.{Machine}
use Rattle.hs_turns.specs.Waiting.{Entry}
use Rattle.hs_turns.proofs.Opened.{own_session}
use Rattle.hs_tied.specs.Kept.{Kept, committed, left}
use Rattle.hs_tied.proofs.Lists.{others_put}
use Rattle.hs_moves.specs.Answers.{outcome_told, refusal_told}
use Rattle.hs_moves.specs.Begun.{ended_with, kept_after}
use Rattle.hs_moves.specs.Evaluated.{data_after, data_own}
use Rattle.hs_moves.specs.Fits.{Fits}
use Rattle.hs_moves.specs.Moves.{Moves}
use Rattle.hs_moves.specs.Parts.{Parts}
use Rattle.hs_moves.proofs.Attempted.{free_ends, free_goes}
use Rattle.hs_moves.proofs.Going.{left_after}
use Rattle.hs_moves.proofs.Outcomes.{ends_done, ends_empty, ends_full, ends_many, goes}
use Rattle.hs_claims.specs.Held.{held_by}
use Rattle.hs_tied.specs.Holds.{AreClaims, IsKept}
use Rattle.hs_transactions.specs.Judged.{HasGone}
use Rattle.hs_transactions.proofs.Opens.{put_each}
use Rattle.hs_transactions.specs.Settled.{IsOnStore, Settles}

module _ {S : Type 0} (At : S → World → List Commit → List Change → Type 0) (old : Parts S) (w : World) (m : Machine) (entry : Entry) (rows : List Text) (reply : Text) (g : HasGone At old w m entry rows reply) where
  abbrev after : Open
  after = data_after w m entry

  abbrev kept : Kept
  kept = kept_after w m entry

  mine : (after.session == entry.session) ≡ true
  mine = own_session entry.session _ (eq-eqb entry.session entry.session refl) m.history.open_

  pub gone_on_store : (now : Parts S) → Fits At now w kept → now.seated.0 ≡ entry.session → now.holding ≡ old.holding → IsOnStore At now w kept after entry.session
  gone_on_store now fits seated holding = record {
    fits = fits;
    seated = seated;
    session = eqb-true after.session entry.session mine;
    changes = ap (λ (h : Holding). (seat_of h entry.session).session.changes) holding ∙ g.changes;
    claims = subst (λ (x : ℕ). AreClaims kept.kind after (held_by now.holding.claims x)) (eqb-true after.session entry.session mine)
        (put_each (IsKept kept.kind now.holding (length kept.settings)) entry.session after m.history.open_ fits.rests.holds.open_).claims;
  }

  module _ (new : Parts S) (r : Attempted) (told told' : List Said) (made made' : List (List ℕ)) (final : r.is_final ≡ true) where
    abbrev M : Attempt → Type 0
    M a = Moves At w m a new r told told' made made'

    -- its transaction goes on
    pub moves_open : (data_own w m entry).auto ≡ false → Fits At new w kept → r.has_ended ≡ false → made' ≡ made → told' ≡ outcome_told told rows reply None → M (attempt_data w.run.dialect w.run.opening w.run.made entry m)
    moves_open off fits ended same is = subst (λ (x : List (List ℕ)). Moves At w m (attempt_data w.run.dialect w.run.opening w.run.made entry m) new r told told' made x) (sym same)
        (free_goes w m entry (λ a. Moves At w m a new r told told' made made) g.accepted g.clear g.free (goes At w m new r told told' entry g.clear g.free rows reply g.rows_are g.reply_is made off fits final ended is))

    module _ (on : (data_own w m entry).auto ≡ true) (ended : r.has_ended ≡ true) (mid : Parts S) where
      ends : Fits At new w (left entry.session kept) → Fits At new w (ended_with w m entry m.history.commits)
      ends fits = subst (Fits At new w) (left_after w m entry) fits

      pub moves_unchanged : Settles At w kept after mid Empty kept made' made → Fits At new w (left entry.session kept) → told' ≡ outcome_told told rows reply None → M (attempt_data w.run.dialect w.run.opening w.run.made entry m)
      moves_unchanged x fits is = free_ends w m entry M g.accepted g.clear g.free on Empty x.ending
          (ends_empty At w m new r told told' entry g.clear g.free rows reply g.rows_are g.reply_is on final ended made made' x.ending (ends fits) x.texts is)

      pub moves_many : Settles At w kept after mid TooManyChanges kept made' made → Fits At new w (left entry.session kept) → told' ≡ refusal_told told (codes "changes") → M (attempt_data w.run.dialect w.run.opening w.run.made entry m)
      moves_many x fits is = free_ends w m entry M g.accepted g.clear g.free on TooManyChanges x.ending
          (ends_many At w m new r told told' entry g.clear g.free rows reply g.rows_are g.reply_is on final ended made made' x.ending (ends fits) x.texts is)

      pub moves_full : Settles At w kept after mid LogFull kept made' made → Fits At new w (left entry.session kept) → told' ≡ refusal_told told (codes "log full") → M (attempt_data w.run.dialect w.run.opening w.run.made entry m)
      moves_full x fits is = free_ends w m entry M g.accepted g.clear g.free on LogFull x.ending
          (ends_full At w m new r told told' entry g.clear g.free rows reply g.rows_are g.reply_is on final ended made made' (ends fits) x.texts is)

    module _ (on : (data_own w m entry).auto ≡ true) (ended : r.has_ended ≡ true) where
      committed_after : committed after.session (commit_of after) kept ≡ ended_with w m entry (m.history.commits ++ commit_of after ∷ [])
      committed_after = ap (λ (x : ℕ). committed x (commit_of after) kept) (eqb-true after.session entry.session mine)
          ∙ ap (λ (os : List Open). let x : Kept = record (ended_with w m entry (m.history.commits ++ commit_of after ∷ [])) { open_ = os } in x) (others_put entry.session after mine m.history.open_)

      pub moves_committed : (number : CommitNo) → Settles At w kept after new HasRoom (committed after.session (commit_of after) kept) made' (made ++ w.text m.history.commits (commit_of after) ∷ []) × (number.0 ≡ w.run.made + length m.history.commits + 1)
          → told' ≡ outcome_told told rows reply (Some number) → M (attempt_data w.run.dialect w.run.opening w.run.made entry m)
      moves_committed number x is = free_ends w m entry M g.accepted g.clear g.free on HasRoom x.0.ending
          (ends_done At w m new r told told' entry g.clear g.free rows reply g.rows_are g.reply_is on final ended made made' number.0 x.0.ending (subst (Fits At new w) committed_after x.0.fits) x.1 x.0.texts is)
