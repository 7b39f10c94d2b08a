-- COMMIT, ROLLBACK, START TRANSACTION, and entries that are refused in their place.
use Rattle.std.proofs.Common.{◌≡◌, ℕ, ◌+◌, ◌==◌, ◌&&◌, Bool, true, false, List, [], ◌∷◌, ◌++◌, length, refl, sym, ap, ◌∙◌, subst, codes, eqb-true}
use Rattle.std.specs.Prelude.{None, Some, is_some, if◌then◌else◌}
use Rattle.std.proofs.lemmas.Bool.{and_parts}
use Rattle.hs_ast.specs.declared.session.Modes.{Modes as NewModes}
use Rattle.hs_base.specs.declared.numbers.CommitNo.{CommitNo}
use Rattle.hs_claims.specs.declared.model.ControlKind.{ControlKind}
use Rattle.hs_claims.specs.Held.{held_by}
use Rattle.hs_claims.specs.Session.{IsSession}
use Rattle.hs_turns.specs.Histories.{Commit, Open, commit_of}
use Rattle.hs_holding.specs.declared.seat.Own.{Own}
use Rattle.hs_holding.specs.declared.seat.Seat.{Seat}
use Rattle.hs_holding.specs.Held.{IsNumber, graph, is_open_at, seat_of}
use Rattle.hs_holding.specs.Seats.{own_in}
use Rattle.hs_lines.specs.declared.words.Words.{Words as Said}
use Rattle.hs_plan.specs.declared.change.Change.{Change}
use Rattle.hs_schema.specs.Catalogue.{Text}
use Rattle.hs_seams.specs.declared.attempted.Attempted.{Attempted}
use Rattle.hs_seams.specs.World.{World}
use Rattle.hs_sessions.specs.declared.control.Control.TheVariants as control
use Rattle.hs_sessions.specs.declared.control.ControlReply.{ControlReply}
use Rattle.hs_sessions.specs.declared.control.ControlReply.TheVariants as reply
use Rattle.hs_sessions.specs.declared.session.Session.{Session}
use Rattle.hs_sessions.specs.Modes.{joined}
use Rattle.hs_sessions.specs.Settings.{controlled}
use Rattle.hs_sides.specs.Sides.{side_of}
use Rattle.hs_turns.specs.Attempts.{Empty, Fits as HasRoom, TooManyChanges, LogFull, attempt_commit, named, refused_in_place}
use Rattle.hs_turns.specs.Machine.{Machine, is_open, open_of}
use Rattle.hs_turns.specs.Waiting.{Entry}
use Rattle.hs_turns.proofs.Opened.{found_is}
use Rattle.hs_tied.specs.Kept.{Kept, committed, left, opened}
use Rattle.hs_tied.proofs.Calls.{name_holds}
use Rattle.hs_tied.proofs.Changed.{IsChanged}
use Rattle.hs_moves.specs.Answers.{ok_told, refusal_told}
use Rattle.hs_moves.specs.Fits.{Fits, IsHere, Rests, changes_of, kept_of}
use Rattle.hs_moves.specs.Moves.{Moves}
use Rattle.hs_moves.specs.Parts.{Parts, Spans}
use Rattle.hs_moves.specs.Spanned.{IsSpanned}
use Rattle.hs_moves.specs.Refused.{IsRefused}
use Rattle.hs_moves.proofs.Ended.{commit_full, commit_left, commit_made, commit_many}
use Rattle.hs_moves.proofs.Refusals.{refused_auto, refused_none, refused_open}
use Rattle.hs_moves.proofs.Seating.{number_of}
use Rattle.hs_controls.specs.Called.{IsControlled}
use Rattle.hs_controls.proofs.Setting.{control_changed}
use Rattle.hs_transactions.specs.Settled.{IsOnStore, Settles}
use Rattle.hs_transactions.proofs.Opens.{IsFound, found_open, found_shut}

-- ---- COMMIT

module _ {S : Type 0} (At : S → World → List Commit → List Change → Type 0) (old new : Parts S) (w : World) (m : Machine) (s : ℕ) (r : Attempted) (told told' : List Said) (made made' : List (List ℕ)) (o : Open) (f : IsFound old.holding (kept_of (side_of m)) s o) where
  abbrev k : Kept
  k = kept_of (side_of m)

  abbrev Committed : Type 0
  Committed = Moves At w m (attempt_commit w.run.dialect w.run.opening w.run.made (open_of m s) s m) new r told told' made made'

  pub found_on_store : Fits At old w k → old.seated.0 ≡ s → IsOnStore At old w k o s
  found_on_store fits seated = record { fits = fits; seated = seated; session = f.session; changes = f.its.changes; claims = f.claims }

  pub commit_unchanged : (mid : Parts S) → Settles At w k o mid Empty k made' made → Fits At new w (left s k) → r.is_final ≡ true → r.has_ended ≡ true → told' ≡ ok_told told None → Committed
  commit_unchanged mid x fits final ended is = commit_left At w m new r told told' s o f.found made made' x.ending fits x.texts final ended is

  pub commit_done : (number : CommitNo) → Settles At w k o new HasRoom (committed o.session (commit_of o) k) made' (made ++ w.text k.commits (commit_of o) ∷ []) × (number.0 ≡ w.run.made + length k.commits + 1)
      → r.is_final ≡ true → r.has_ended ≡ true → told' ≡ ok_told told (Some number) → Committed
  commit_done number x final ended is = commit_made At w m new r told told' s o f.found made made' number.0 x.0.ending
      (subst (λ (b : ℕ). Fits At new w (committed b (commit_of o) k)) f.session x.0.fits) x.1 x.0.texts final ended is

  pub commit_over : Settles At w k o new TooManyChanges k made' made → r.is_final ≡ true → r.has_ended ≡ false → told' ≡ refusal_told told (codes "changes") → Committed
  commit_over x final ended is = commit_many At w m new r told told' s o f.found made made' x.ending x.fits x.texts final ended is

  pub commit_long : Settles At w k o new LogFull k made' made → r.is_final ≡ true → r.has_ended ≡ false → told' ≡ refusal_told told (codes "log full") → Committed
  commit_long x final ended is = commit_full At w m new r told told' s o f.found made made' x.ending x.fits x.texts final ended is

-- ---- whether a transaction is open

module _ {S : Type 0} (t : Parts S) (w : World) (m : Machine) (rests : Rests t w (kept_of (side_of m))) (s : ℕ) (at : IsSession s) where
  pub open_is : is_open m s ≡ is_open_at t.holding s
  open_is = found_is s m.history.open_ ∙ rests.holds.known s at

-- ---- an entry that is refused

module _ {S : Type 0} (At : S → World → List Commit → List Change → Type 0) (old new : Parts S) (w : World) (m : Machine) (entry : Entry) (why : Text) (r : Attempted) (told told' : List Said) (here : IsHere old entry.session) (fits : Fits At old w (kept_of (side_of m)))
    (is_refused : IsRefused w m entry why) (final : r.is_final ≡ true) (is : told' ≡ refusal_told told why) where
  abbrev was : Kept
  was = kept_of (side_of m)

  abbrev Refused : Type 0
  Refused = Moves At w m (refused_in_place w.run.dialect w.run.opening w.run.made entry why m) new r told told' [] []

  -- whether its transaction ends with it
  abbrev single : Bool
  single = is_open_at old.holding entry.session && (own_in old.spans.kind (seat_of old.holding entry.session)).auto

  auto_is : (o : Open) → IsFound old.holding was entry.session o → (own_in old.spans.kind (seat_of old.holding entry.session)).auto ≡ o.auto
  auto_is o f = ap (λ (x : ControlKind). (own_in x (seat_of old.holding entry.session)).auto) fits.rests.spanned.kind_is ∙ ap (λ (x : Own). x.auto) f.its.own

  pub refuse_ends : single ≡ true → r.has_ended ≡ true → Fits At new w (left entry.session was) → Refused
  refuse_ends one_is ended fits' =
      let parts = and_parts (is_open_at old.holding entry.session) (own_in old.spans.kind (seat_of old.holding entry.session)).auto one_is in
      let one = found_open old.holding was fits.rests.holds entry.session here.session parts.0 in
      refused_auto At w m new r told told' entry why is_refused final is one.0 one.1.found (sym (auto_is one.0 one.1) ∙ parts.1) ended fits'

  stays_by : (t : Bool) → is_open_at old.holding entry.session ≡ t → (t && (own_in old.spans.kind (seat_of old.holding entry.session)).auto) ≡ false → r.has_ended ≡ false → Fits At new w was → Refused
  stays_by false shut isnt ended fits' = refused_none At w m new r told told' entry why is_refused final is (found_shut old.holding was fits.rests.holds entry.session here.session shut) ended fits'
  stays_by true opens isnt ended fits' =
      let one = found_open old.holding was fits.rests.holds entry.session here.session opens in
      refused_open At w m new r told told' entry why is_refused final is one.0 one.1.found (sym (auto_is one.0 one.1) ∙ isnt) ended (number_of old was entry.session fits.rests.holds here) fits'

  pub refuse_stays : single ≡ false → r.has_ended ≡ false → Fits At new w was → Refused
  refuse_stays isnt ended fits' = stays_by (is_open_at old.holding entry.session) refl isnt ended fits'

-- ---- what is named for the next transaction

-- the changes stay
named_changes : (modes : NewModes) (s : Session) → is_some s.transaction ≡ false → (controlled (control.Transaction modes) s).1.changes ≡ s.changes
named_changes modes s shut =
    let changed : Session = record s { next = joined modes s.next } in
    ap (λ (b : Bool). (let x : ControlReply × Session = if b then (reply.OpenTransaction, s) else (reply.Ok, changed) in x).1.changes) shut

module _ {S : Type 0} (At : S → World → List Commit → List Change → Type 0) (old mid new : Parts S) (w : World) (m : Machine) (modes : NewModes) (s : ℕ) (here : IsHere old s) (shut : is_open_at old.holding s ≡ false) (fits : Fits At old w (kept_of (side_of m)))
    (i : IsControlled (control.Transaction modes) old.holding mid.holding s) (store : mid.store ≡ old.store) (seated : mid.seated ≡ old.seated) (commits : mid.commits ≡ old.commits) (spans : mid.spans ≡ old.spans) where
  abbrev before : Kept
  before = kept_of (side_of m)

  abbrev k1 : Kept
  k1 = kept_of (side_of (named w.run.dialect w.run.opening w.run.made modes s m))

  number : IsNumber (length m.settings) s
  number = number_of old before s fits.rests.holds here

  pub named_rests : Rests mid w k1
  named_rests = record {
    holds = name_holds old.holding mid.holding before fits.rests.holds s number modes shut i.seats i.claims i.waits;
    seat = subst (λ x. IsSession x.0) (sym seated) fits.rests.seat;
    count = commits ∙ fits.rests.count;
    few = fits.rests.few;
    spanned = subst (λ (x : Spans). IsSpanned x w.run.made m.history.kind m.history.commits m.history.open_) (sym spans) fits.rests.spanned;
  }

  mid_changes : (b : ℕ) → IsSession b → changes_of mid b ≡ changes_of old b
  mid_changes b at = by (b == s) refl
    where
      c : IsChanged old.holding mid.holding s (record (seat_of old.holding s) { session = (controlled (control.Transaction modes) (seat_of old.holding s).session).1 }) (held_by old.holding.claims s) (graph old.holding)
      c = control_changed old.holding mid.holding before fits.rests.holds s number (control.Transaction modes) i

      by : (t : Bool) → (b == s) ≡ t → changes_of mid b ≡ changes_of old b
      by true e = let is = eqb-true b s e in ap (changes_of mid) is ∙ ap (λ (x : Seat). x.session.changes) c.its ∙ named_changes modes (seat_of old.holding s).session shut ∙ ap (changes_of old) (sym is)
      by false e = ap (λ (x : Seat). x.session.changes) (c.others b at e)

  pub begun_with : Rests new w (opened s false k1) → ((b : ℕ) → IsSession b → changes_of new b ≡ changes_of mid b) → new.store ≡ mid.store → new.seated ≡ mid.seated → Fits At new w (opened s false k1)
  begun_with rests same store' seated' = record {
    store = subst (λ (cs : List Change). At new.store w m.history.commits cs) (sym (ap (λ x. changes_of new x.0) (seated' ∙ seated) ∙ same old.seated.0 fits.rests.seat ∙ mid_changes old.seated.0 fits.rests.seat))
        (subst (λ (st : S). At st w m.history.commits (changes_of old old.seated.0)) (sym (store' ∙ store)) fits.store);
    rests = rests;
  }
