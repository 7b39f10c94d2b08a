-- A statement on settings or savepoints, done.
use Rattle.std.proofs.Common.{◌≡◌, ℕ, ◌==◌, Bool, true, false, List, length, take, refl, sym, ap, ap₂, ◌∙◌, subst, eqb-true}
use Rattle.hs_turns.specs.Histories.{Commit}
use Rattle.hs_holding.specs.declared.holding.Holding.{Holding}
use Rattle.hs_holding.specs.Held.{seat_of}
use Rattle.hs_lines.specs.declared.words.Words.{Words as Said}
use Rattle.hs_plan.specs.declared.change.Change.{Change}
use Rattle.hs_seams.specs.declared.attempted.Attempted.{Attempted}
use Rattle.hs_seams.specs.World.{World}
use Rattle.hs_sessions.specs.declared.control.Control.{Control}
use Rattle.hs_sessions.specs.declared.control.ControlReply.{ControlReply}
use Rattle.hs_sessions.specs.Settings.{controlled}
use Rattle.hs_moves.specs.Fits.{changes_of}
use Rattle.hs_moves.specs.Parts.{Parts}
use Rattle.hs_controls.specs.Called.{IsControlled}
use Rattle.hs_controls.specs.Controls.{IsSet, control_told}

module _ {S : Type 0} (At : S → World → List Commit → List Change → Type 0) (w : World) (commits : List Commit) (control : Control) (s : ℕ) (before : Parts S) (begun : Holding) (mid new : Parts S) (r : Attempted) (told told' : List Said) (i : IsControlled control begun mid.holding s)
    (own : mid.seated.0 ≡ s → At new.store w commits (take (length (changes_of mid s)) (changes_of before before.seated.0))) (other : (mid.seated.0 == s) ≡ false → At new.store w commits (changes_of before before.seated.0))
    (holding : new.holding ≡ mid.holding) (seated : new.seated ≡ before.seated) (count : new.commits ≡ before.commits) (spans : new.spans ≡ before.spans) (same : before.seated ≡ mid.seated) (final : r.is_final ≡ true) (ended : r.has_ended ≡ false)
    (reply : ControlReply) (reply_is : reply ≡ (controlled control (seat_of begun s).session).0) (telling : (cs : List Change) → At new.store w commits cs → told' ≡ control_told w told reply control) where
  told_is : told' ≡ control_told w told reply control
  told_is = by (mid.seated.0 == s) refl
    where
      by : (t : Bool) → (mid.seated.0 == s) ≡ t → told' ≡ control_told w told reply control
      by true e = telling (take (length (changes_of mid s)) (changes_of before before.seated.0)) (own (eqb-true mid.seated.0 s e))
      by false e = telling (changes_of before before.seated.0) (other e)

  pub set_is : IsSet At w commits control s before begun new r told told'
  set_is = record {
    sessions = subst (λ (h : Holding). IsControlled control begun h s) (sym holding) i;
    store = record {
      own = λ is. subst (λ (cs : List Change). At new.store w commits cs)
          (ap₂ (λ (n : ℕ) (cs : List Change). take n cs) (ap (λ (h : Holding). length (seat_of h s).session.changes) (sym holding)) (ap (changes_of before) is)) (own (ap (λ x. x.0) (sym same) ∙ is));
      other = λ ne. other (ap (λ x. x.0 == s) (sym same) ∙ ne);
    };
    seated = seated;
    commits_same = count;
    spans = spans;
    final_is = final;
    ended_is = ended;
    told_is = told_is ∙ ap (λ (x : ControlReply). control_told w told x control) reply_is;
  }
