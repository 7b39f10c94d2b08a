-- Definitions that are held up, and waits.
use Rattle.std.proofs.Common.{◌≡◌, ◌≤◌, ◌+◌, ◌-◌, ℕ, Bool, true, false, List, [], ◌∷◌, ◌++◌, length, get_or, refl, sym, ap, ◌∙◌, subst, arith, length-append}
use Rattle.std.specs.Prelude.{Option, None, Some, filter}
use Rattle.std.specs.Option.{option_map}
use Rattle.hs_base.specs.declared.numbers.SessionNo.{SessionNo}
use Rattle.hs_claims.specs.declared.blockers.Blockers.{Blockers}
use Rattle.hs_claims.specs.declared.claim.Claim.{Claim}
use Rattle.hs_claims.specs.Blockers.{has as has_set}
use Rattle.hs_claims.specs.Held.{blocks as claims_block}
use Rattle.hs_claims.specs.Session.{IsSession}
use Rattle.hs_plan.specs.declared.change.Change.{Change}
use Rattle.hs_plan.specs.declared.definition.Definition.{Definition}
use Rattle.hs_turns.specs.Definitions.{control_after}
use Rattle.hs_turns.specs.Each.{Each}
use Rattle.hs_turns.specs.Events.{definition_commit}
use Rattle.hs_turns.specs.Histories.{Commit, Open}
use Rattle.hs_lines.specs.declared.words.Words.{Words as Said}
use Rattle.hs_lines.specs.declared.words.Words.TheVariants as said
use Rattle.hs_seams.specs.declared.attempted.Attempted.{Attempted}
use Rattle.hs_seams.specs.Stores.{present}
use Rattle.hs_seams.specs.World.{World}
use Rattle.hs_sides.specs.Sides.{side_of}
use Rattle.hs_turns.specs.Attempts.{Attempt, blockers, deadlock_words, defined, defining, held_up, leading_back, open_sessions}
use Rattle.hs_turns.specs.Machine.{Machine}
use Rattle.hs_turns.specs.Waiting.{Entry, answered, ascending, first_leading, waits_for}
use Rattle.hs_turns.proofs.Opened.{has}
use Rattle.hs_waits.specs.Waits.{IsFirstLeading}
use Rattle.hs_holding.specs.declared.holding.Holding.{Holding}
use Rattle.hs_holding.specs.Held.{is_open_at, seat_of}
use Rattle.hs_holding.specs.Seats.{nobody_seat}
use Rattle.hs_tied.specs.Holds.{Holds, IsKept}
use Rattle.hs_tied.specs.Kept.{Kept, with_waits}
use Rattle.hs_tied.specs.Waiting.{Ways}
use Rattle.hs_tied.proofs.Blocking.{blockers_are, open_are, open_within, session_of}
use Rattle.hs_tied.proofs.Calls.{answer_holds, wait_holds}
use Rattle.hs_tied.proofs.Moving.{kind_holds}
use Rattle.hs_tied.proofs.Ways.{first_is}
use Rattle.hs_moves.specs.Answers.{IsLeft, refusal_told}
use Rattle.hs_moves.specs.Fits.{Fits, IsHere, Rests, changes_of, kept_of}
use Rattle.hs_moves.specs.Moves.{Moves}
use Rattle.hs_moves.specs.Parts.{Parts, Spans}
use Rattle.hs_moves.specs.Spanned.{IsSpanned}
use Rattle.hs_moves.proofs.Defining.{held_deadlock, held_waits}
use Rattle.hs_moves.proofs.Seating.{number_of}
use Rattle.hs_moves.proofs.Spanned.{spanned_defined}
use Rattle.hs_moves.proofs.Texts.{makes_at}
use Rattle.hs_moves.proofs.Worlds.{count_more}
use Rattle.hs_controls.specs.Called.{IsAnswered, IsHeldUp}
use Rattle.hs_controls.specs.Sights.{IsQuiet}

-- ---- no session has an open transaction

quiet_by : (h : Holding) (k : Kept) → Holds h k → IsQuiet h → (os : List Open) → Each (IsKept k.kind h (length k.settings)) os → os ≡ []
quiet_by h k holds quiet [] each = refl
quiet_by h k holds quiet (o ∷ os) each = absurd (let clash : true ≡ false = sym each.0.opens ∙ quiet o.session (session_of h k holds o.session each.0.number) in cc)

pub quiet_none : (h : Holding) (k : Kept) → Holds h k → IsQuiet h → k.open_ ≡ []
quiet_none h k holds quiet = quiet_by h k holds quiet k.open_ holds.open_

none_quiet : (h : Holding) (k : Kept) → Holds h k → k.open_ ≡ [] → IsQuiet h
none_quiet h k holds none b at = sym (holds.known b at) ∙ ap (has b) none

-- ---- who is in the way, by the machine and by what sessions hold

module _ (m : Machine) (h : Holding) (holds : Holds h (kept_of (side_of m))) (named : length m.settings ≡ length m.names) where
  most : length m.names ≤ 64
  most = subst (λ (n : ℕ). n ≤ 64) named holds.most

  pub blockers_set : (s : ℕ) (wanted : List Claim) (set : Blockers) → ((b : ℕ) → IsSession b → has_set set b ≡ claims_block h.claims s wanted b) → blockers m s wanted ≡ filter (has_set set) (ascending 1 (length m.names))
  blockers_set s wanted set is = blockers_are h (kept_of (side_of m)) holds s wanted set (length m.names) most is

  pub open_set : (set : Blockers) → ((b : ℕ) → IsSession b → has_set set b ≡ is_open_at h b) → open_sessions m ≡ filter (has_set set) (ascending 1 (length m.names))
  open_set set is = open_are h (kept_of (side_of m)) holds set (length m.names) most is

  pub leading_set : Ways (length m.settings) m.waits → (s : ℕ) (set : Blockers) (found : Option SessionNo) → ((b : ℕ) → IsSession b → has_set set b ≡ true → b ≤ length m.settings) → IsFirstLeading h.waits s set found
      → leading_back m s (filter (has_set set) (ascending 1 (length m.names))) ≡ option_map (λ x. x.0) found
  leading_set ways s set found within first = subst (λ (n : ℕ). first_leading n m.waits s (filter (has_set set) (ascending 1 n)) ≡ option_map (λ x. x.0) found) named
      (first_is (length m.settings) holds.most m.waits ways h.waits holds.waits s set found within first)

-- ---- waits, and nothing else

module _ {S : Type 0} (At : S → World → List Commit → List Change → Type 0) (w : World) (k : Kept) (old new : Parts S) (seated : new.seated ≡ old.seated) (commits : new.commits ≡ old.commits) (spans : new.spans ≡ old.spans) (rests : Rests old w k)
    (at : At new.store w k.commits (changes_of old old.seated.0)) where
  same_changes : new.holding.seats ≡ old.holding.seats → changes_of old old.seated.0 ≡ changes_of new new.seated.0
  same_changes seats = sym (ap (λ x. changes_of new x.0) seated ∙ ap (λ x. (get_or x.items (old.seated.0 - 1) nobody_seat).session.changes) seats)

  fits_waiting : (waits : ℕ → ℕ → Bool) → new.holding.seats ≡ old.holding.seats → Holds new.holding (with_waits waits k) → Fits At new w (with_waits waits k)
  fits_waiting waits seats holds = record {
    store = subst (λ (cs : List Change). At new.store w k.commits cs) (same_changes seats) at;
    rests = record {
      holds = holds;
      seat = subst (λ x. IsSession x.0) (sym seated) rests.seat;
      count = commits ∙ rests.count;
      few = rests.few;
      spanned = subst (λ (x : Spans). IsSpanned x w.run.made k.kind k.commits k.open_) (sym spans) rests.spanned;
    };
  }

  module _ (s : ℕ) (here : IsHere old s) where
    pub fits_held_up : (set : Blockers) (n : ℕ) → ((b : ℕ) → IsSession b → has_set set b ≡ true → b ≤ n) → IsHeldUp old.holding new.holding s set
        → Fits At new w (with_waits (waits_for s (filter (has_set set) (ascending 1 n)) k.waits) k)
    fits_held_up set n within i = fits_waiting (waits_for s (filter (has_set set) (ascending 1 n)) k.waits) i.seats
        (wait_holds old.holding new.holding k rests.holds s (number_of old k s rests.holds here) set n within i.seats i.claims i.waits)

    pub fits_answered : IsAnswered old.holding new.holding s → Fits At new w (with_waits (answered s k.waits) k)
    fits_answered i = fits_waiting (answered s k.waits) i.seats (answer_holds old.holding new.holding k rests.holds s (number_of old k s rests.holds here) i.seats i.claims i.waits)

-- ---- a definition

module _ {S : Type 0} (At : S → World → List Commit → List Change → Type 0) (w : World) (m : Machine) (new : Parts S) (r : Attempted) (told told' : List Said) (entry : Entry) where
  abbrev M : Attempt → List (List ℕ) → List (List ℕ) → Type 0
  M a old made = Moves At w m a new r told told' old made

  abbrev Defining : List Open → List (List ℕ) → List (List ℕ) → Type 0
  Defining os old made = M (defining w.run.dialect w.run.opening w.run.made os [] entry m) old made

  abbrev HeldUp : Option ℕ → List ℕ → List (List ℕ) → List (List ℕ) → Type 0
  HeldUp back list old made = M (held_up w.run.dialect w.run.opening w.run.made back list [] entry m) old made

  pub goes : (old made : List (List ℕ)) → m.history.open_ ≡ [] → M (defined w.run.dialect w.run.opening w.run.made (w.run.dialect.definition (present w m.history.commits) entry.text) [] entry m) old made → Defining m.history.open_ old made
  goes old made none h = subst (λ (os : List Open). Defining os old made) (sym none) h

  at_any : (a : Attempt) (made : List (List ℕ)) → M a [] [] → M a made made
  at_any a made h = record { fits = h.fits; words = h.words; final = h.final; ended = h.ended; makes = makes_at w m.history.commits a.next.history.commits made h.makes }

  module _ (h : Holding) (holds : Holds h (kept_of (side_of m))) (named : length m.settings ≡ length m.names) (ways : Ways (length m.settings) m.waits) (set : Blockers) (are : (b : ℕ) → IsSession b → has_set set b ≡ is_open_at h b)
      (made : List (List ℕ)) where
    abbrev list : List ℕ
    list = filter (has_set set) (ascending 1 (length m.names))

    within : (b : ℕ) → IsSession b → has_set set b ≡ true → b ≤ length m.settings
    within = open_within h (kept_of (side_of m)) holds set are

    held_by_some : (IsQuiet h → ⊥) → HeldUp (leading_back m entry.session (open_sessions m)) (open_sessions m) made made → Defining m.history.open_ made made
    held_by_some some held = by m.history.open_ refl
      where
        by : (os : List Open) → m.history.open_ ≡ os → Defining os made made
        by [] e = absurd (some (none_quiet h (kept_of (side_of m)) holds e))
        by (o ∷ os) e = held

    by_first : (found : Option SessionNo) → (IsQuiet h → ⊥) → IsFirstLeading h.waits entry.session set found → HeldUp (option_map (λ x. x.0) found) list made made → Defining m.history.open_ made made
    by_first found some first held = held_by_some some
        (subst (λ (l : List ℕ). HeldUp (leading_back m entry.session l) l made made) (sym (open_set m h holds named set are))
        (subst (λ (back : Option ℕ). HeldUp back list made made) (sym (leading_set m h holds named ways entry.session set found within first)) held))

    pub deadlocked : (back : SessionNo) → IsFirstLeading h.waits entry.session set (Some back) → IsLeft At w (kept_of (side_of m)) new r true false told' (refusal_told told (deadlock_words m back.0)) → Defining m.history.open_ made made
    deadlocked back first l = by_first (Some back) (λ quiet. let clash : true ≡ false = sym first.1 ∙ are back.0 first.0 ∙ quiet back.0 first.0 in absurd cc) first
        (at_any (held_up w.run.dialect w.run.opening w.run.made (Some back.0) list [] entry m) made (held_deadlock At w m new r told told' entry back.0 list l.fits l.final_is l.ended_is l.told_is))

    pub waiting : (IsQuiet h → ⊥) → IsFirstLeading h.waits entry.session set None → Fits At new w (with_waits (waits_for entry.session list m.waits) (kept_of (side_of m))) → r.is_final ≡ false → r.has_ended ≡ false
        → told' ≡ told ++ said.WaitsFor set ∷ [] → Defining m.history.open_ made made
    waiting some first fits final ended is = by_first None some first
        (at_any (held_up w.run.dialect w.run.opening w.run.made None list [] entry m) made (held_waits At w m new r told told' entry set list fits refl final ended is))

-- it begins to wait
pub waits_by : {S : Type 0} (At : S → World → List Commit → List Change → Type 0) (w : World) (m : Machine) (old new : Parts S) (r : Attempted) (told told' : List Said) (made : List (List ℕ)) (entry : Entry) (set : Blockers) → IsHere old entry.session
    → Rests old w (kept_of (side_of m)) → Ways (length m.settings) m.waits → length m.settings ≡ length m.names → ((b : ℕ) → IsSession b → has_set set b ≡ is_open_at old.holding b) → (IsQuiet old.holding → ⊥)
    → IsFirstLeading old.holding.waits entry.session set None → IsHeldUp old.holding new.holding entry.session set → new.seated ≡ old.seated → new.commits ≡ old.commits → new.spans ≡ old.spans → At new.store w m.history.commits (changes_of old old.seated.0)
    → r.is_final ≡ false → r.has_ended ≡ false → told' ≡ told ++ said.WaitsFor set ∷ [] → Moves At w m (defining w.run.dialect w.run.opening w.run.made m.history.open_ [] entry m) new r told told' made made
waits_by At w m old new r told told' made entry set here rests ways named are some first up seated commits spans at final ended is =
    let k = kept_of (side_of m) in
    let within : (b : ℕ) → IsSession b → has_set set b ≡ true → b ≤ length m.names = λ b p e. subst (λ (n : ℕ). b ≤ n) named (open_within old.holding k rests.holds set are b p e) in
    waiting At w m new r told told' entry old.holding rests.holds named ways set are made some first
    (fits_held_up At w k old new seated commits spans rests at entry.session here set (length m.names) within up) final ended is

-- ---- a definition is committed

module _ {S : Type 0} (At : S → World → List Commit → List Change → Type 0) (w : World) (k : Kept) (old new : Parts S) (session : ℕ) (definition : Definition) where
  pub fits_defined : Rests old w k → IsQuiet old.holding → new.holding ≡ old.holding → new.seated ≡ old.seated → new.commits ≡ old.commits + 1 → new.spans.kind ≡ control_after definition k.kind → new.spans.made ≡ old.spans.made → new.spans.count ≡ old.spans.count + 1 → new.spans.first ≡ new.spans.count → new.spans.claims ≡ []
      → At new.store w (k.commits ++ definition_commit session definition ∷ []) [] → Fits At new w (record k { kind = control_after definition k.kind; commits = k.commits ++ definition_commit session definition ∷ [] })
  fits_defined rests quiet same seated more kind made one_more first claims at =
      let holds = rests.holds in
      let idle = holds.idle old.seated.0 rests.seat (holds.known old.seated.0 rests.seat ∙ quiet old.seated.0 rests.seat) in
      let next : Kept = record k { kind = control_after definition k.kind; commits = k.commits ++ definition_commit session definition ∷ [] } in
      let none = quiet_none old.holding k holds quiet in
      let still : Holds old.holding next = kind_holds old.holding k holds none next.kind next.commits in
      let len = length-append k.commits (definition_commit session definition ∷ []) in
      let before = rests.count in
      let counted = rests.spanned.count_is in
      record {
        store = subst (λ (cs : List Change). At new.store w (k.commits ++ definition_commit session definition ∷ []) cs)
            (sym (ap (λ x. changes_of new x.0) seated ∙ ap (λ (x : Holding). (seat_of x old.seated.0).session.changes) same ∙ idle.changes)) at;
        rests = record {
          holds = subst (λ (x : Holding). Holds x next) (sym same) still;
          seat = subst (λ x. IsSession x.0) (sym seated) rests.seat;
          count = omega (arith, more, before, len);
          few = count_more w k.commits (definition_commit session definition) (omega arith) rests.few;
          spanned = spanned_defined new.spans w.run.made next.kind next.commits k.open_ none kind (made ∙ rests.spanned.made_is) (omega (arith, one_more, counted, len)) (omega (arith, first, one_more, counted, len)) claims;
        };
      }
