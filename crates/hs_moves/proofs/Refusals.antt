-- Entries that are refused where they stand.
use Rattle.std.proofs.Common.{◌≡◌, ◌||◌, Bool, true, false, List, [], ◌∷◌, ◌++◌, length, map, refl, sym, ap, ap₂, ◌∙◌, subst, append-nil}
use Rattle.std.specs.Prelude.{Option, None, Some, if◌then◌else◌}
use Rattle.hs_claims.specs.declared.footprint.Footprint.{Footprint}
use Rattle.hs_plan.specs.declared.change.Change.{Change}
use Rattle.hs_changes.specs.Changes.{count_all_inserted}
use Rattle.hs_turns.specs.Events.{commit, finish, fresh, goes_on, judged, said, stays_open}
use Rattle.hs_turns.specs.Events.{Act as act}
use Rattle.hs_turns.specs.Histories.{Commit, History, Open, base, is_free, newer, no_conflict, others, own}
use Rattle.hs_turns.specs.Language.{Outcome}
use Rattle.hs_turns.specs.Transactions.Statement.{Data}
use Rattle.hs_lines.specs.Told.{words_of}
use Rattle.hs_lines.specs.declared.words.Words.{Words as Said}
use Rattle.hs_lines.specs.declared.words.Words.TheVariants as said
use Rattle.hs_schema.specs.Catalogue.{Text}
use Rattle.hs_seams.specs.declared.attempted.Attempted.{Attempted}
use Rattle.hs_seams.specs.World.{World}
use Rattle.hs_sides.specs.Sides.{side_of}
use Rattle.hs_turns.specs.Attempts.{left_own, newest_by, noted_by, refusal_told, refused_in_place, seen_by}
use Rattle.hs_turns.specs.Dialect.{language_of, refused_words}
use Rattle.hs_turns.specs.Lines.{Words, Replies, told as told_by}
use Rattle.hs_turns.specs.Machine.{Machine, event, happens, open_of}
use Rattle.hs_turns.specs.Waiting.{Entry}
use Rattle.hs_turns.proofs.Opened.{nothing_conflicts, nothing_free, own_found}
use Rattle.hs_holding.specs.Held.{IsNumber}
use Rattle.hs_tied.specs.Holds.{IsKept}
use Rattle.hs_tied.specs.Kept.{left, put}
use Rattle.hs_tied.proofs.Lists.{found_each}
use Rattle.hs_tied.proofs.Moving.{noted_holds}
use Rattle.hs_moves.specs.Parts.{Parts}
use Rattle.hs_moves.specs.Fits.{Fits, kept_of}
use Rattle.hs_moves.specs.Moves.{Makes, Moves}
use Rattle.hs_moves.specs.Refused.{IsRefused}
use Rattle.hs_moves.specs.Spanned.{IsLent, IsSince}
use Rattle.hs_moves.proofs.Ended.{stays, leaves}
use Rattle.hs_moves.proofs.Spanned.{spanned_put}
use Rattle.hs_moves.proofs.Texts.{makes_none, said_one}

module _ {S : Type 0} (At : S → World → List Commit → List Change → Type 0) (w : World) (m : Machine) (new : Parts S) (r : Attempted) (told told' : List Said) (entry : Entry) (why : Text) (is_refused : IsRefused w m entry why)
    (final : r.is_final ≡ true) (is : told' ≡ told ++ said.Reply (refused_words why) None ∷ []) where
  abbrev InPlace : Type 0
  InPlace = Moves At w m (refused_in_place w.run.dialect w.run.opening w.run.made entry why m) new r told told' [] []

  abbrev Found : Option Open → Type 0
  Found found = Moves At w m (record { words = refusal_told w.run.dialect w.run.opening w.run.made found entry why m; final = true; next = noted_by w.run.dialect w.run.opening w.run.made found entry m }) new r told told' [] []

  -- no transaction is open
  pub refused_none : open_of m entry.session ≡ None → r.has_ended ≡ false → Fits At new w (kept_of (side_of m)) → InPlace
  refused_none shut ended fits = subst Found (sym shut) (stays At w m new r told told' (Replies (refused_words why) None) (said.Reply (refused_words why) None) [] fits final ended is refl)

  module _ (o : Open) (found : open_of m entry.session ≡ Some o) where
    -- one that began with the entry ends
    pub refused_auto : o.auto ≡ true → r.has_ended ≡ true → Fits At new w (left entry.session (kept_of (side_of m))) → InPlace
    refused_auto on ended fits = subst Found (sym found)
        (subst (λ (b : Bool). Moves At w m (record {
          words = if b then Replies (refused_words why) None ∷ [] else newest_by w.run.dialect w.run.opening w.run.made (said (language_of w.run.dialect) (base m.history.kind w.run.opening m.history.commits o) (Data entry.text) o).statements (said (language_of w.run.dialect) (base m.history.kind w.run.opening m.history.commits o) (Data entry.text) o).trace.replies None;
          final = true;
          next = if b then left_own w.run.dialect w.run.opening w.run.made entry.session m else happens w.run.dialect w.run.opening (event m entry.session false false (act.Says (Data entry.text))) m;
        }) new r told told' [] []) (sym on)
        (leaves At w m new r told told' (Replies (refused_words why) None) (said.Reply (refused_words why) None) (left_own w.run.dialect w.run.opening w.run.made entry.session m) [] fits refl refl final ended is refl))

    abbrev after : Open
    after = said (language_of w.run.dialect) (base m.history.kind w.run.opening m.history.commits o) (Data entry.text) o

    abbrev out : Outcome
    out = (language_of w.run.dialect).outcome o.read_only (count_all_inserted o.trace.changes) (seen_by w.run.dialect w.run.opening w.run.made m o) entry.text

    words_are : told_by out.rows out.reply None ≡ Replies (refused_words why) None ∷ []
    words_are = ap (λ (x : Outcome). told_by x.rows x.reply None) (is_refused o found)

    -- the statement as its transaction has it
    abbrev step_now : Open → Footprint → History
    step_now x f = judged (is_free m.history.kind x f (others entry.session m.history.open_)) (no_conflict m.history.kind x f (newer m.history.commits x)) false w.run.opening x (said (language_of w.run.dialect) (base m.history.kind w.run.opening m.history.commits x) (Data entry.text) x) entry.session m.history

    own_is : own entry.session (fresh m.history.kind (event m entry.session false false (act.Says (Data entry.text))) (length m.history.commits)) m.history.open_ ≡ o
    own_is = own_found entry.session (fresh m.history.kind (event m entry.session false false (act.Says (Data entry.text))) (length m.history.commits)) o m.history.open_ found

    abbrev foot_of : Open → Footprint
    foot_of x = ((language_of w.run.dialect).outcome x.read_only (count_all_inserted x.trace.changes) (seen_by w.run.dialect w.run.opening w.run.made m x) entry.text).foot

    stepped : (happens w.run.dialect w.run.opening (event m entry.session false false (act.Says (Data entry.text))) m).history ≡ goes_on w.run.opening o after entry.session m.history
    stepped = ap (λ (x : Open). step_now x (foot_of x)) own_is
        ∙ ap (λ (x : Outcome). step_now o x.foot) (is_refused o found)
        ∙ ap₂ (λ (f c : Bool). judged f c false w.run.opening o after entry.session m.history) (nothing_free m.history.kind o (others entry.session m.history.open_)) (nothing_conflicts m.history.kind o (newer m.history.commits o))

    stays_open_now : o.auto ≡ false → (happens w.run.dialect w.run.opening (event m entry.session false false (act.Says (Data entry.text))) m).history ≡ stays_open after entry.session m.history
    stays_open_now off = stepped ∙ ap (λ (b : Bool). if b then commit w.run.opening after entry.session m.history (finish false o entry.session m.history) else stays_open after entry.session m.history) off

    -- one that goes on has the refused statement among its own
    pub refused_open : o.auto ≡ false → r.has_ended ≡ false → IsNumber (length m.settings) entry.session → Fits At new w (kept_of (side_of m)) → InPlace
    refused_open off ended number fits =
        let holds = fits.rests.holds in
        let it = found_each (IsKept m.history.kind new.holding (length m.settings)) entry.session o m.history.open_ found holds.open_ in
        let spanned = fits.rests.spanned in
        let lent = found_each (IsLent new.spans.live m.history.kind (length m.history.commits)) entry.session o m.history.open_ found spanned.lent in
        let since = found_each (IsSince new.spans.first) entry.session o m.history.open_ found spanned.since in
        let noted = noted_holds new.holding (kept_of (side_of m)) holds entry.session number o after it.0 it.1 it.1 refl refl
        (ap (λ (x : Outcome). o.trace.changes ++ x.changes) (is_refused o found) ∙ append-nil o.trace.changes) refl (ap (λ (x : Outcome). x.foot ∷ o.trace.feet) (is_refused o found)) in
        let now : Fits At new w (put entry.session after (kept_of (side_of m))) = record {
          store = fits.store;
          rests = record {
            holds = noted;
            seat = fits.rests.seat;
            count = fits.rests.count;
            few = fits.rests.few;
            spanned = spanned_put new.spans w.run.made m.history.kind m.history.commits m.history.open_ spanned entry.session after (record { begun = lent.0.begun; lent = lent.0.lent }) since.0;
          };
        } in
        subst Found (sym found)
        (subst (λ (b : Bool). Moves At w m (record {
          words = if b then Replies (refused_words why) None ∷ [] else newest_by w.run.dialect w.run.opening w.run.made after.statements after.trace.replies None;
          final = true;
          next = if b then left_own w.run.dialect w.run.opening w.run.made entry.session m else happens w.run.dialect w.run.opening (event m entry.session false false (act.Says (Data entry.text))) m;
        }) new r told told' [] []) (sym off)
        (record {
          fits = subst (λ (h : History). Fits At new w (kept_of (side_of (record m { history = h })))) (sym (stays_open_now off)) now;
          words = said_one m.names told told' (said.Reply (refused_words why) None) (Replies (refused_words why) None) is refl ∙ ap (λ (l : List Words). map (words_of m.names) told ++ l) (sym words_are);
          final = final;
          ended = ap (λ (b : Bool). b || m.again) (sym ended);
          makes = subst (λ (h : History). Makes w m.history.commits h.commits [] []) (sym (stays_open_now off)) (makes_none w m.history.commits []);
        }))
