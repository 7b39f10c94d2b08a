-- Data statements that were evaluated, and who is in their way.
use Rattle.std.proofs.Common.{◌≡◌, ℕ, ◌-◌, ◌==◌, Bool, true, false, List, ◌++◌, length, refl, sym, ap, ap₂, ◌∙◌, subst, eq-eqb, eqb-true}
use Rattle.std.specs.Prelude.{Option, Result, Ok, Err, slice_set, if◌then◌else◌}
use Rattle.std.specs.List.{list_all}
use Rattle.hs_changes.specs.Changes.{count_all_inserted}
use Rattle.hs_claims.specs.declared.blockers.Blockers.{Blockers}
use Rattle.hs_claims.specs.declared.claim.Claim.{Claim}
use Rattle.hs_claims.specs.declared.model.ControlKind.{ControlKind}
use Rattle.hs_claims.specs.Blockers.{has}
use Rattle.hs_claims.specs.Compatible.{fits}
use Rattle.hs_claims.specs.Held.{held_by}
use Rattle.hs_claims.specs.Session.{IsSession}
use Rattle.hs_claims.specs.Wants.{keeps_of, wants_of}
use Rattle.hs_turns.specs.Database.{Database}
use Rattle.hs_turns.specs.Histories.{Commit, Open, held, is_free, others, put_open}
use Rattle.hs_turns.specs.Language.{Outcome}
use Rattle.hs_holding.specs.declared.holding.Holding.{Holding}
use Rattle.hs_holding.specs.declared.seat.Own.{Own}
use Rattle.hs_holding.specs.declared.seat.Seat.{Seat}
use Rattle.hs_holding.specs.Held.{IsNumber, graph, seat_of}
use Rattle.hs_holding.specs.Seats.{added, own_in}
use Rattle.hs_plan.specs.declared.change.Change.{Change}
use Rattle.hs_schema.specs.Catalogue.{Text}
use Rattle.hs_seams.specs.declared.outcome.Outcome.{Outcome as Held}
use Rattle.hs_seams.specs.Stores.{seen}
use Rattle.hs_snapshots.specs.Places.{commits_at}
use Rattle.hs_snapshots.specs.Stores.{EvaluatesAt}
use Rattle.hs_seams.specs.World.{World}
use Rattle.hs_sides.specs.Sides.{side_of}
use Rattle.hs_waits.specs.Waits.{waits_of}
use Rattle.hs_turns.specs.Attempts.{Attempt, attempt_data, data_by, refused_in_place, seen_by}
use Rattle.hs_turns.specs.Dialect.{Request, unless_refused}
use Rattle.hs_turns.specs.Dialect.{Request as request, outcome_of as outcome_by}
use Rattle.hs_turns.specs.Machine.{Machine}
use Rattle.hs_turns.specs.Waiting.{Entry}
use Rattle.hs_turns.proofs.Opened.{own_session}
use Rattle.hs_tied.specs.Holds.{Holds, IsKept, own_of}
use Rattle.hs_tied.specs.Kept.{Kept, opened, own_for, set_in, used}
use Rattle.hs_tied.proofs.Blocking.{free_is, free_none}
use Rattle.hs_tied.proofs.Calls.{add_holds, changed}
use Rattle.hs_tied.proofs.Lists.{put_put}
use Rattle.hs_moves.specs.Begun.{kept_after}
use Rattle.hs_moves.specs.Evaluated.{IsAccepted, IsBlocked, IsUnblocked, data_after, data_outcome, data_own, data_wanted, is_clear}
use Rattle.hs_moves.specs.Fits.{Fits, IsHere, Rests, changes_of, kept_of}
use Rattle.hs_moves.specs.Parts.{Parts, Spans}
use Rattle.hs_moves.specs.Spanned.{IsLent, IsSince, IsSpanned}
use Rattle.hs_moves.proofs.Spanned.{spanned_put}
use Rattle.hs_moves.proofs.Seating.{number_of}
use Rattle.hs_moves.specs.Refused.{IsRefused}
use Rattle.hs_controls.proofs.Seeing.{data_refused, its_own, its_sight}
use Rattle.hs_transactions.specs.Judged.{AreBlockers, HasGone, IsEvaluated}
use Rattle.hs_controls.specs.Sights.{IsRead}
use Rattle.hs_transactions.specs.Standing.{IsAt}
use Rattle.hs_transactions.proofs.Defining.{seated_valid}
use Rattle.hs_transactions.proofs.Opens.{own_again, put_each}
use Rattle.hs_transactions.proofs.Seats.{rests_same}

-- ---- evaluated

module _ {S : Type 0} (At : S → World → List Commit → List Change → Type 0) (old new : Parts S) (w : World) (m : Machine) (entry : Entry) (own : Own) (rests : Rests old w (kept_of (side_of m))) (here : IsHere old entry.session) (seated : old.seated.0 ≡ entry.session)
    (own_is : own ≡ own_in old.spans.kind (seat_of old.holding entry.session)) (asks : w.run.dialect.request entry.text ≡ request.OfData) (place : Option ℕ) (is_read : IsRead w m entry (commits_at place m.history.commits)) where
  abbrev changes : List Change
  changes = changes_of old entry.session

  own_same : own ≡ own_of (data_own w m entry)
  own_same = own_is ∙ ap (λ (kind : ControlKind). own_in kind (seat_of old.holding entry.session)) rests.spanned.kind_is ∙ (its_own w m old entry here rests).own

  sight : seen w (commits_at place m.history.commits) changes ≡ seen_by w.run.dialect w.run.opening w.run.made m (data_own w m entry)
  sight = sym (its_sight w m old entry here rests (commits_at place m.history.commits) is_read)

  at_seat : changes_of old old.seated.0 ≡ changes
  at_seat = ap (changes_of old) seated

  -- why it is refused, as its transaction has it
  pub refusal_same : w.run.dialect.refusal own.read_only (seen w (commits_at place m.history.commits) (changes_of old old.seated.0)) entry.text
      ≡ w.run.dialect.refusal (data_own w m entry).read_only (seen_by w.run.dialect w.run.opening w.run.made m (data_own w m entry)) entry.text
  refusal_same = ap (λ (cs : List Change). w.run.dialect.refusal own.read_only (seen w (commits_at place m.history.commits) cs) entry.text) at_seat
      ∙ ap₂ (λ (x : Own) (db : Database). w.run.dialect.refusal x.read_only db entry.text) own_same sight

  -- what it comes to there
  outcome_same : w.run.dialect.outcome own.read_only (count_all_inserted (changes_of old old.seated.0)) (seen w (commits_at place m.history.commits) (changes_of old old.seated.0)) entry.text
      ≡ w.run.dialect.outcome (data_own w m entry).read_only (count_all_inserted (data_own w m entry).trace.changes) (seen_by w.run.dialect w.run.opening w.run.made m (data_own w m entry)) entry.text
  outcome_same = ap (λ (cs : List Change). w.run.dialect.outcome own.read_only (count_all_inserted cs) (seen w (commits_at place m.history.commits) cs) entry.text) at_seat
      ∙ ap₂ (λ (x : Own) (db : Database). w.run.dialect.outcome x.read_only (count_all_inserted changes) db entry.text) own_same sight
      ∙ ap (λ (cs : List Change). w.run.dialect.outcome (data_own w m entry).read_only (count_all_inserted cs) (seen_by w.run.dialect w.run.opening w.run.made m (data_own w m entry)) entry.text) (its_own w m old entry here rests).changes

  accepted_outcome : IsAccepted w m entry
      → data_outcome w m entry ≡ w.run.dialect.outcome (data_own w m entry).read_only (count_all_inserted (data_own w m entry).trace.changes) (seen_by w.run.dialect w.run.opening w.run.made m (data_own w m entry)) entry.text
  accepted_outcome accepted =
      let o = data_own w m entry in
      let db = seen_by w.run.dialect w.run.opening w.run.made m o in
      ap (λ (q : Request). outcome_by w.run.dialect o.read_only (count_all_inserted o.trace.changes) db entry.text q) asks
      ∙ ap (λ (x : Option Text). unless_refused x (w.run.dialect.outcome o.read_only (count_all_inserted o.trace.changes) db entry.text)) accepted

  pub evaluated : (o : Held) → IsAt At old w m → new.holding ≡ old.holding → new.seated ≡ old.seated → new.commits ≡ old.commits → new.spans ≡ old.spans → EvaluatesAt (At new.store) place w m.history.commits (changes_of old old.seated.0) own.read_only entry.text (Ok o)
      → IsEvaluated At new w m entry own o
  evaluated o at holding seated' commits spans is =
      let accepted = sym refusal_same ∙ is.0 in
      record {
        world = at.stands.world;
        rests = rests_same old new w (kept_of (side_of m)) holding seated' commits spans rests;
        store = subst (λ (cs : List Change). At new.store w m.history.commits (cs ++ o.changes)) (at_seat ∙ ap (λ (h : Holding). (seat_of h entry.session).session.changes) (sym holding)) is.1.1;
        seated = ap (λ x. x.0) seated' ∙ seated;
        sane = at.stands.sane;
        named = at.named;
        own = own_same;
        accepted = accepted;
        outcome = is.1.0 ∙ outcome_same ∙ sym (accepted_outcome accepted);
      }

-- what `evaluate` answers of it
module _ {S : Type 0} (At : S → World → List Commit → List Change → Type 0) (old new : Parts S) (w : World) (m : Machine) (entry : Entry) (own : Own) (at : IsAt At old w m) (here : IsHere old entry.session) (seated : old.seated.0 ≡ entry.session)
    (own_is : own ≡ own_in old.spans.kind (seat_of old.holding entry.session)) (asks : w.run.dialect.request entry.text ≡ request.OfData) (place : Option ℕ) (is_read : IsRead w m entry (commits_at place m.history.commits)) (holding : new.holding ≡ old.holding) (seated' : new.seated ≡ old.seated) (commits : new.commits ≡ old.commits) (spans : new.spans ≡ old.spans) (found : Result Held Text)
    (evaluates : At old.store w m.history.commits (changes_of old old.seated.0) → w.run.dialect.is_valid (seen w (commits_at place m.history.commits) (changes_of old old.seated.0)) ≡ true
    → EvaluatesAt (At new.store) place w m.history.commits (changes_of old old.seated.0) own.read_only entry.text found) where
  its_answer : EvaluatesAt (At new.store) place w m.history.commits (changes_of old old.seated.0) own.read_only entry.text found
  its_answer = evaluates at.stands.fits.store (seated_valid At old w m at entry here seated (commits_at place m.history.commits) is_read)

  pub data_evaluated : (o : Held) → found ≡ Ok o → IsEvaluated At new w m entry own o
  data_evaluated o is = evaluated At old new w m entry own at.stands.fits.rests here seated own_is asks place is_read o at holding seated' commits spans
      (subst (EvaluatesAt (At new.store) place w m.history.commits (changes_of old old.seated.0) own.read_only entry.text) is its_answer)

  -- it is refused at once
  module _ (why : Text) (is : found ≡ Err why) where
    answered : EvaluatesAt (At new.store) place w m.history.commits (changes_of old old.seated.0) own.read_only entry.text (Err why)
    answered = subst (EvaluatesAt (At new.store) place w m.history.commits (changes_of old old.seated.0) own.read_only entry.text) is its_answer

    pub refused_fits : Fits At new w (kept_of (side_of m))
    refused_fits = record {
      store = subst (λ (cs : List Change). At new.store w m.history.commits cs) (ap (changes_of old) (ap (λ x. x.0) (sym seated')) ∙ ap (λ (h : Holding). (seat_of h new.seated.0).session.changes) (sym holding)) answered.1;
      rests = rests_same old new w (kept_of (side_of m)) holding seated' commits spans at.stands.fits.rests;
    }

    pub refused_here : IsRefused w m entry why
    refused_here = data_refused w m old entry here at.stands.fits.rests (commits_at place m.history.commits) is_read why asks
        (ap (λ (x : Own). w.run.dialect.refusal x.read_only (seen w (commits_at place m.history.commits) (changes_of old entry.session)) entry.text) (sym own_is)
        ∙ ap (λ (cs : List Change). w.run.dialect.refusal own.read_only (seen w (commits_at place m.history.commits) cs) entry.text) (ap (changes_of old) (sym seated)) ∙ answered.0)

    pub refused_attempt : (P : Attempt → Type 0) → P (refused_in_place w.run.dialect w.run.opening w.run.made entry why m) → P (attempt_data w.run.dialect w.run.opening w.run.made entry m)
    refused_attempt P h = subst (λ (x : Option Text). P (data_by w.run.dialect w.run.opening w.run.made x entry (data_own w m entry) m))
        (sym (sym (refusal_same At old new w m entry own at.stands.fits.rests here seated own_is asks place is_read) ∙ answered.0)) h

-- ---- who is in its way

module _ {S : Type 0} (At : S → World → List Commit → List Change → Type 0) (t : Parts S) (w : World) (m : Machine) (entry : Entry) (own : Own) (o : Held) (e : IsEvaluated At t w m entry own o) where
  abbrev k : Kept
  k = kept_of (side_of m)

  abbrev wanted : List Claim
  wanted = wants_of t.spans.kind own.level own.read_only o.foot

  abbrev free_wanted : List Claim → Bool
  free_wanted claims = list_all (λ u. fits claims (held m.history.kind u.level u.read_only u.trace.feet)) (others entry.session m.history.open_)

  pub wanted_same : data_wanted w m entry ≡ wanted
  wanted_same = ap (λ (kind : ControlKind). wants_of kind (data_own w m entry).level (data_own w m entry).read_only (data_outcome w m entry).foot) (sym e.rests.spanned.kind_is)
      ∙ ap₂ (λ (x : Own) (out : Outcome). wants_of t.spans.kind x.level x.read_only out.foot) (sym e.own) (sym e.outcome)

  free_kept : is_free m.history.kind (data_own w m entry) (data_outcome w m entry).foot (others entry.session m.history.open_) ≡ free_wanted wanted
  free_kept = ap free_wanted wanted_same

  module _ (set : Blockers) (are : AreBlockers t.spans.kind t.holding entry.session own o set) where
    -- nobody is
    pub unblocked : ((b : ℕ) → IsSession b → has set b ≡ false) → IsUnblocked w m entry (data_outcome w m entry).foot
    unblocked none = free_kept ∙ free_is t.holding k e.rests.holds entry.session wanted (λ b n. sym (are b n) ∙ none b n)

    -- somebody is
    pub blocked : (((b : ℕ) → IsSession b → has set b ≡ false) → ⊥) → IsBlocked w m entry
    blocked some = by (is_free m.history.kind (data_own w m entry) (data_outcome w m entry).foot (others entry.session m.history.open_)) refl
      where
        by : (b : Bool) → is_free m.history.kind (data_own w m entry) (data_outcome w m entry).foot (others entry.session m.history.open_) ≡ b → IsBlocked w m entry
        by true is = absurd (some (λ b n. are b n ∙ free_none t.holding k e.rests.holds entry.session wanted (sym free_kept ∙ is) b n))
        by false is = is

-- ---- its transaction is open

-- what is kept where it is, and has nothing of the statement
abbrev pub with_own : World → Machine → Entry → Kept
with_own w m entry = record (kept_of (side_of m)) { open_ = put_open entry.session (data_own w m entry) m.history.open_; settings = used entry.session (kept_of (side_of m)) }

pub opened_is : (w : World) (m : Machine) (entry : Entry) (own : Own) → own ≡ own_of (data_own w m entry) → opened entry.session own.auto (kept_of (side_of m)) ≡ with_own w m entry
opened_is w m entry own is =
    let k = kept_of (side_of m) in
    ap (λ (x : Open). let y : Kept = record k { open_ = put_open entry.session x m.history.open_; settings = used entry.session k } in y)
    (ap (λ (x : Own). own_for entry.session x.auto k) is ∙ own_again entry.session (set_in m.settings entry.session).autocommit k)

-- ---- it goes on

module _ {S : Type 0} (At : S → World → List Commit → List Change → Type 0) (old mid new : Parts S) (w : World) (m : Machine) (entry : Entry) (own : Own) (o : Held) (e : IsEvaluated At old w m entry own o) (here : IsHere old entry.session)
    (begun : Rests mid w (opened entry.session own.auto (kept_of (side_of m)))) (same : (b : ℕ) → IsSession b → changes_of mid b ≡ changes_of old b) (here_mid : IsHere mid entry.session) (keeps : List Claim) (keeps_are : keeps ≡ keeps_of old.spans.kind own.level own.read_only o.foot)
    (seats : new.holding.seats.items ≡ slice_set mid.holding.seats.items (entry.session - 1) (added o.changes (seat_of mid.holding entry.session)))
    (claims : (b : ℕ) → IsSession b → held_by new.holding.claims b ≡ (if b == entry.session then held_by mid.holding.claims b ++ keeps else held_by mid.holding.claims b)) (waits : new.holding.waits ≡ mid.holding.waits)
    (seated : new.seated ≡ old.seated) (commits : new.commits ≡ mid.commits) (spans : new.spans ≡ mid.spans) (store : At new.store w m.history.commits (changes_of old entry.session ++ o.changes)) where
  abbrev s : ℕ
  s = entry.session

  abbrev was : Kept
  was = kept_of (side_of m)

  abbrev its : Open
  its = data_own w m entry

  mine : (its.session == s) ≡ true
  mine = own_session s _ (eq-eqb s s refl) m.history.open_

  abbrev mid_kept : Kept
  mid_kept = with_own w m entry

  mid_holds : Holds mid.holding mid_kept
  mid_holds = subst (Holds mid.holding) (opened_is w m entry own e.own) begun.holds

  number : IsNumber (length mid_kept.settings) s
  number = number_of mid mid_kept s mid_holds here_mid

  its_kept : IsKept m.history.kind mid.holding (length mid_kept.settings) its
  its_kept = put_each (IsKept m.history.kind mid.holding (length mid_kept.settings)) s its m.history.open_ mid_holds.open_

  put_holds : Holds new.holding (record mid_kept { open_ = put_open s (data_after w m entry) mid_kept.open_ })
  put_holds = add_holds mid.holding new.holding mid_kept mid_holds s number o.changes (data_outcome w m entry).foot keeps its (data_after w m entry) its_kept (eqb-true its.session s mine) (eqb-true its.session s mine) refl refl
      (ap (λ (out : Outcome). its.trace.changes ++ out.changes) (sym e.outcome)) refl refl
      (keeps_are ∙ ap (λ (kind : ControlKind). keeps_of kind own.level own.read_only o.foot) e.rests.spanned.kind_is ∙ ap₂ (λ (x : Own) (out : Outcome). keeps_of m.history.kind x.level x.read_only out.foot) e.own e.outcome) seats claims waits

  after_holds : Holds new.holding (kept_after w m entry)
  after_holds = subst (λ (os : List Open). Holds new.holding (let y : Kept = record was { open_ = os; settings = used s was } in y)) (put_put s its (data_after w m entry) mine m.history.open_) put_holds

  more_changes : changes_of new s ≡ changes_of old s ++ o.changes
  more_changes =
      let c = changed mid.holding new.holding mid_kept mid_holds s number (added o.changes (seat_of mid.holding s)) (λ b. held_by mid.holding.claims b ++ keeps) (graph mid.holding) seats claims
      (λ a b p q. ap (λ (r : List ℕ). has (waits_of r a) b) waits) in
      ap (λ (x : Seat). x.session.changes) c.its ∙ ap (λ (cs : List Change). cs ++ o.changes) (same s here.session)

  -- its transaction has the start, the level and the access that it had
  after_spanned : IsSpanned new.spans w.run.made m.history.kind m.history.commits (put_open s (data_after w m entry) m.history.open_)
  after_spanned =
      let spanned : IsSpanned mid.spans w.run.made m.history.kind m.history.commits mid_kept.open_ = subst (λ (x : Kept). IsSpanned mid.spans w.run.made x.kind x.commits x.open_) (opened_is w m entry own e.own) begun.spanned in
      let lent = put_each (IsLent mid.spans.live m.history.kind (length m.history.commits)) s its m.history.open_ spanned.lent in
      let since = put_each (IsSince mid.spans.first) s its m.history.open_ spanned.since in
      subst (λ (x : Spans). IsSpanned x w.run.made m.history.kind m.history.commits (put_open s (data_after w m entry) m.history.open_)) (sym spans)
      (subst (λ (os : List Open). IsSpanned mid.spans w.run.made m.history.kind m.history.commits os) (put_put s its (data_after w m entry) mine m.history.open_)
      (spanned_put mid.spans w.run.made m.history.kind m.history.commits mid_kept.open_ spanned s (data_after w m entry) (record { begun = lent.begun; lent = lent.lent }) since))

  pub gone_fits : Fits At new w (kept_after w m entry)
  gone_fits = record {
    store = subst (λ (cs : List Change). At new.store w m.history.commits cs) (sym more_changes ∙ ap (changes_of new) (sym e.seated) ∙ ap (λ x. changes_of new x.0) (sym seated)) store;
    rests = record {
      holds = after_holds;
      seat = subst (λ x. IsSession x.0) (sym seated) e.rests.seat;
      count = commits ∙ begun.count;
      few = e.rests.few;
      spanned = after_spanned;
    };
  }

  pub has_gone : (rows : List Text) (reply : Text) → rows ≡ o.rows.items → reply ≡ o.reply → IsUnblocked w m entry (data_outcome w m entry).foot → is_clear w m entry ≡ true → HasGone At new w m entry rows reply
  has_gone rows reply rows_are reply_is free clear =
      let kept = put_each (IsKept m.history.kind new.holding (length (used s was))) s (data_after w m entry) m.history.open_ after_holds.open_ in
      record {
        fits = gone_fits;
        seated = ap (λ x. x.0) seated ∙ e.seated;
        changes = ap (changes_of new) (sym (eqb-true its.session s mine)) ∙ kept.own.changes;
        accepted = e.accepted;
        clear = clear;
        free = free;
        rows_are = rows_are ∙ ap (λ (out : Outcome). out.rows) e.outcome;
        reply_is = reply_is ∙ ap (λ (out : Outcome). out.reply) e.outcome;
      }
