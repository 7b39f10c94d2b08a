-- Statements on settings and savepoints, as attempts.
use Rattle.std.proofs.Common.{◌≡◌, ℕ, ◌+◌, ◌≤◌, ◌-◌, ◌==◌, ◌&&◌, ◌||◌, not, Bool, true, false, List, ◌++◌, length, take, map, refl, sym, ap, ap₂, ◌∙◌, subst, codes, eqb-true}
use Rattle.std.specs.Prelude.{Option, None, Some, is_some, slice_set, if◌then◌else◌}
use Rattle.std.proofs.lemmas.List.{length-set}
use Rattle.hs_base.specs.declared.numbers.CommitNo.{CommitNo}
use Rattle.hs_claims.specs.Session.{IsSession}
use Rattle.hs_plan.specs.declared.change.Change.{Change}
use Rattle.hs_sessions.specs.declared.control.Control.{Control}
use Rattle.hs_sessions.specs.declared.control.ControlReply.{ControlReply}
use Rattle.hs_sessions.specs.declared.control.ControlReply.TheVariants as reply
use Rattle.hs_sessions.specs.declared.session.Session.{Session}
use Rattle.hs_sessions.specs.Settings.{controlled}
use Rattle.hs_turns.specs.Events.{fresh, said, stays_open}
use Rattle.hs_turns.specs.Events.{Act as act}
use Rattle.hs_turns.specs.Histories.{Commit, History, Open, base, put_open}
use Rattle.hs_turns.specs.Transactions.{session_in}
use Rattle.hs_turns.specs.Transactions.Statement.{OnSession}
use Rattle.hs_lines.specs.Told.{words_of}
use Rattle.hs_lines.specs.declared.words.Words.{Words as Said}
use Rattle.hs_lines.specs.declared.words.Words.TheVariants as said_words
use Rattle.hs_schema.specs.Catalogue.{Text}
use Rattle.hs_seams.specs.declared.attempted.Attempted.{Attempted}
use Rattle.hs_seams.specs.Stores.{present}
use Rattle.hs_seams.specs.World.{World}
use Rattle.hs_sides.specs.Sides.{side_of}
use Rattle.hs_turns.specs.Attempts.{Attempt, answers, attempt_control, begins_event, control_told, control_words, in_transaction, is_savepoint, ready, savepoint_of, takes}
use Rattle.hs_turns.specs.Dialect.{language_of, open_transaction, refused_words}
use Rattle.hs_turns.specs.Lines.{Replies}
use Rattle.hs_turns.specs.Machine.{Machine, Settings, event, happens, is_open, open_of, session_seen, settings_in, settings_of, with_settings}
use Rattle.hs_turns.proofs.Opened.{found_is, own_found}
use Rattle.hs_holding.specs.declared.holding.Holding.{Holding}
use Rattle.hs_holding.specs.declared.seat.Seat.{Seat}
use Rattle.hs_holding.specs.Held.{IsNumber, is_open_at, seat_of}
use Rattle.hs_holding.specs.Seats.{begun as begun_seat}
use Rattle.hs_tied.specs.Holds.{Holds, IsKept}
use Rattle.hs_tied.specs.Kept.{Kept, opened, own_for, used}
use Rattle.hs_tied.proofs.Blocking.{session_of}
use Rattle.hs_tied.proofs.Lists.{found_each}
use Rattle.hs_moves.specs.Called.{IsBegun}
use Rattle.hs_moves.specs.Fits.{Fits, IsHere, Rests, changes_of, kept_of}
use Rattle.hs_moves.specs.Moves.{Makes, Moves}
use Rattle.hs_moves.specs.Parts.{Parts, Spans}
use Rattle.hs_moves.specs.Spanned.{IsLent, IsSince, IsSpanned}
use Rattle.hs_moves.proofs.Spanned.{spanned_put}
use Rattle.hs_moves.proofs.Seating.{begun_changes, begun_rests, number_of}
use Rattle.hs_moves.proofs.Steps.{takes_is}
use Rattle.hs_moves.proofs.Texts.{makes_none, said_one}
use Rattle.hs_controls.specs.Called.{IsControlled}
use Rattle.hs_controls.specs.Controls.{IsSet, IsTakenBack, begins_first}
use Rattle.hs_controls.specs.Controls.{control_told as told_of}
use Rattle.hs_controls.proofs.Sessions.{first_left}
use Rattle.hs_controls.proofs.Setting.{control_changed, open_holds, same_reply, shut_holds, shut_is}

-- the reply is told
words_by : (w : World) (names : List Text) (old new : List Said) (control : Control) (r : ControlReply) → new ≡ told_of w old r control
    → map (words_of names) new ≡ map (words_of names) old ++ control_words w.run.dialect w.run.opening w.run.made r control
words_by w names old new control reply.Ok is = said_one names old new (said_words.Reply (codes "ok") None) (Replies (codes "ok") None) is refl
words_by w names old new control reply.OpenTransaction is = said_one names old new (said_words.Reply (refused_words open_transaction) None) (Replies (refused_words open_transaction) None) is refl
words_by w names old new control reply.NoSavepoint is =
    let why : Text = codes "no savepoint " ++ w.run.dialect.printed_name (savepoint_of control) in
    said_one names old new (said_words.Reply (refused_words why) None) (Replies (refused_words why) None) is refl

-- ---- the statement itself, over what sessions hold

module _ {S : Type 0} (At : S → World → List Commit → List Change → Type 0) (w : World) (m : Machine) (new : Parts S) (r : Attempted) (told told' : List Said) (control : Control) (s : ℕ) (made : List (List ℕ)) (h : Holding)
    (rests : Rests (record new { holding = h }) w (kept_of (side_of m))) (number : IsNumber (length m.settings) s) (i : IsControlled control h new.holding s) (at : At new.store w m.history.commits (changes_of new new.seated.0))
    (final : r.is_final ≡ true) (ended : r.has_ended ≡ false) (is : told' ≡ told_of w told (controlled control (seat_of h s).session).0 control) where
  abbrev M : Attempt → Type 0
  M a = Moves At w m a new r told told' made made

  abbrev done : Option Open → ControlReply × Session
  done f = controlled control (session_seen (settings_of m s) f)

  abbrev by_found : Option Open → Attempt
  by_found f = answers (control_told w.run.dialect w.run.opening w.run.made f (done f).0 control m)
      (with_settings s (settings_in (done f).1) (if is_some f then happens w.run.dialect w.run.opening (event m s false false (act.Says (OnSession control))) m else m))

  fits_by : (k : Kept) → k.commits ≡ m.history.commits → Holds new.holding k → IsSpanned new.spans w.run.made k.kind k.commits k.open_ → Fits At new w k
  fits_by k same holds spanned = record {
    store = subst (λ (c : List Commit). At new.store w c (changes_of new new.seated.0)) (sym same) at;
    rests = record {
      holds = holds;
      seat = rests.seat;
      count = rests.count ∙ ap (λ (c : List Commit). w.run.made + length c) (sym same);
      few = subst (λ (c : List Commit). w.run.made + length c ≤ (present w c).count) (sym same) rests.few;
      spanned = spanned;
    };
  }

  ended_is : m.again ≡ (r.has_ended || m.again)
  ended_is = ap (λ (b : Bool). b || m.again) (sym ended)

  -- no transaction is open
  set_shut : open_of m s ≡ None → is_open_at h s ≡ false → M (in_transaction w.run.dialect w.run.opening w.run.made control s m)
  set_shut none shut =
      let k : Kept = record (kept_of (side_of m)) { settings = slice_set m.settings (s - 1) (settings_in (done None).1) } in
      subst (λ (f : Option Open). M (by_found f)) (sym none) (record {
        fits = fits_by k refl (shut_holds h new.holding (kept_of (side_of m)) rests.holds s number control i shut) rests.spanned;
        words = words_by w m.names told told' control (done None).0 (is ∙ ap (λ (x : ControlReply × Session). told_of w told x.0 control) (shut_is h new.holding (kept_of (side_of m)) rests.holds s number control i shut));
        final = final;
        ended = ended_is;
        makes = makes_none w m.history.commits made;
      })

  -- one is
  module _ (o : Open) (found : open_of m s ≡ Some o) where
    abbrev after : Open
    after = said (language_of w.run.dialect) (base m.history.kind w.run.opening m.history.commits o) (OnSession control) o

    stepped : (happens w.run.dialect w.run.opening (event m s false false (act.Says (OnSession control))) m).history ≡ stays_open after s m.history
    stepped = ap (λ (x : Open). stays_open (said (language_of w.run.dialect) (base m.history.kind w.run.opening m.history.commits x) (OnSession control) x) s m.history)
        (own_found s (fresh m.history.kind (event m s false false (act.Says (OnSession control))) (length m.history.commits)) o m.history.open_ found)

    set_open : M (in_transaction w.run.dialect w.run.opening w.run.made control s m)
    set_open =
        let k = kept_of (side_of m) in
        let it = found_each (IsKept m.history.kind h (length m.settings)) s o m.history.open_ found rests.holds.open_ in
        let lent = found_each (IsLent new.spans.live m.history.kind (length m.history.commits)) s o m.history.open_ found rests.spanned.lent in
        let since = found_each (IsSince new.spans.first) s o m.history.open_ found rests.spanned.since in
        let spanned = spanned_put new.spans w.run.made m.history.kind m.history.commits m.history.open_ rests.spanned s after (record { begun = lent.0.begun; lent = lent.0.lent }) since.0 in
        let holds = open_holds h new.holding k rests.holds s number control i o it.0 it.1 in
        let same = same_reply h new.holding k rests.holds s number control i o it.0 it.1 in
        let set : Settings = settings_in (done (Some o)).1 in
        let behind : History → Kept = λ x. kept_of (side_of (with_settings s set (record m { history = x }))) in
        subst (λ (f : Option Open). M (by_found f)) (sym found) (record {
          fits = subst (λ (x : History). Fits At new w (behind x)) (sym stepped) (fits_by (behind (stays_open after s m.history)) refl holds spanned);
          words = words_by w m.names told told' control (controlled control (session_in o.trace)).0 (is ∙ ap (λ (x : ControlReply). told_of w told x control) same);
          final = final;
          ended = ended_is;
          makes = subst (λ (x : History). Makes w m.history.commits x.commits made made) (sym stepped) (makes_none w m.history.commits made);
        })

  is_open_by : (f : Option Open) → open_of m s ≡ f → is_open_at h s ≡ is_some f
  is_open_by f e = sym (rests.holds.known s (session_of h (kept_of (side_of m)) rests.holds s number)) ∙ sym (found_is s m.history.open_) ∙ ap is_some e

  pub set_now : M (in_transaction w.run.dialect w.run.opening w.run.made control s m)
  set_now = by (open_of m s) refl
    where
      by : (f : Option Open) → open_of m s ≡ f → M (in_transaction w.run.dialect w.run.opening w.run.made control s m)
      by None e = set_shut e (is_open_by None e)
      by (Some o) e = set_open o e

-- ---- the changes that are left

module _ {S : Type 0} (At : S → World → List Commit → List Change → Type 0) (w : World) (commits : List Commit) (k : Kept) (old new : Parts S) (begun : Holding) (control : Control) (s : ℕ) (holds : Holds begun k)
    (number : IsNumber (length k.settings) s) (seat : IsSession old.seated.0) (same : (b : ℕ) → IsSession b → (seat_of begun b).session.changes ≡ changes_of old b) (i : IsControlled control begun new.holding s) (seated : new.seated ≡ old.seated)
    (back : IsTakenBack At w commits old new s) where
  its_number : IsSession s
  its_number = session_of begun k holds s number

  left : changes_of new s ≡ (controlled control (seat_of begun s).session).1.changes
  left = ap (λ (x : Seat). x.session.changes) (control_changed begun new.holding k holds s number control i).its

  first : take (length (changes_of new s)) (changes_of old s) ≡ changes_of new s
  first = ap₂ (λ (cs ds : List Change). take (length cs) ds) left (sym (same s its_number)) ∙ first_left control (seat_of begun s).session ∙ sym left

  now_seated : changes_of new old.seated.0 ≡ changes_of new new.seated.0
  now_seated = ap (λ x. changes_of new x.0) (sym seated)

  pub taken_back : At new.store w commits (changes_of new new.seated.0)
  taken_back = by (old.seated.0 == s) refl
    where
      by : (t : Bool) → (old.seated.0 == s) ≡ t → At new.store w commits (changes_of new new.seated.0)
      by true e =
          let its = eqb-true old.seated.0 s e in
          subst (λ (cs : List Change). At new.store w commits cs) (first ∙ ap (changes_of new) (sym its) ∙ now_seated) (back.own its)
      by false e = subst (λ (cs : List Change). At new.store w commits cs)
          (sym (ap (λ (x : Seat). x.session.changes) ((control_changed begun new.holding k holds s number control i).others old.seated.0 seat e) ∙ same old.seated.0 seat) ∙ now_seated) (back.other e)

-- ---- the whole

last_false : (a b c : Bool) → (a && not b && not c) ≡ true → c ≡ false
last_false true false false e = refl
last_false true false true e = absurd cc
last_false true true c e = absurd cc
last_false false b c e = absurd cc

module _ {S : Type 0} (At : S → World → List Commit → List Change → Type 0) (w : World) (m : Machine) (old new : Parts S) (r : Attempted) (told told' : List Said) (control : Control) (s : ℕ) (made : List (List ℕ))
    (here : IsHere old s) (rests : Rests old w (kept_of (side_of m))) where
  abbrev k : Kept
  k = kept_of (side_of m)

  number : IsNumber (length m.settings) s
  number = number_of old k s rests.holds here

  abbrev Ready : Bool → Machine
  Ready b = if b then takes w.run.dialect w.run.opening w.run.made (begins_event w.run.dialect w.run.opening w.run.made m s) m else m

  is_ready : (is_savepoint control && not (settings_of m s).autocommit && not (is_open m s)) ≡ begins_first control (seat_of old.holding s)
  is_ready = ap₂ (λ (a o : Bool). is_savepoint control && not a && not o) (ap (λ (x : Settings). x.autocommit) (rests.holds.settings s number)) (found_is s m.history.open_ ∙ rests.holds.known s here.session)

  ready_by : (b : Bool) → begins_first control (seat_of old.holding s) ≡ b → ready w.run.dialect w.run.opening w.run.made control s m ≡ Ready b
  ready_by b e = ap Ready (is_ready ∙ e)

  pub at_once : begins_first control (seat_of old.holding s) ≡ false → IsSet At w m.history.commits control s old old.holding new r told told'
      → Moves At w m (attempt_control w.run.dialect w.run.opening w.run.made control s m) new r told told' made made
  at_once none i =
      let now : Rests (record new { holding = old.holding }) w k = record { holds = rests.holds; seat = subst (λ x. IsSession x.0) (sym i.seated) rests.seat; count = i.commits_same ∙ rests.count; few = rests.few; spanned = subst (λ (x : Spans). IsSpanned x w.run.made m.history.kind m.history.commits m.history.open_) (sym i.spans) rests.spanned } in
      let at = taken_back At w m.history.commits k old new old.holding control s rests.holds number rests.seat (λ b p. refl) i.sessions i.seated i.store in
      subst (λ (x : Machine). Moves At w m (in_transaction w.run.dialect w.run.opening w.run.made control s x) new r told told' made made) (sym (ready_by false none))
      (set_now At w m new r told told' control s made old.holding now number i.sessions at i.final_is i.ended_is i.told_is)

  pub begins_before : (begun : Holding) (start : CommitNo) → begins_first control (seat_of old.holding s) ≡ true → IsBegun old.holding begun s false start → start.0 ≡ length m.history.commits → IsSet At w m.history.commits control s old begun new r told told'
      → Moves At w m (attempt_control w.run.dialect w.run.opening w.run.made control s m) new r told told' made made
  begins_before begun start some b first i =
      let shut = last_false (is_savepoint control) (seat_of old.holding s).session.autocommit (is_open_at old.holding s) some in
      let mid : Parts S = record old { holding = begun } in
      let at_mid = begun_rests old mid w k s here false start shut b rests first refl refl refl in
      let next : Machine = record (happens w.run.dialect w.run.opening (begins_event w.run.dialect w.run.opening w.run.made m s) m) { settings = used s k } in
      let now : Rests (record new { holding = begun }) w (opened s false k) = record { holds = at_mid.holds; seat = subst (λ x. IsSession x.0) (sym i.seated) rests.seat; count = i.commits_same ∙ rests.count; few = rests.few; spanned = subst (λ (x : Spans). IsSpanned x w.run.made m.history.kind m.history.commits (put_open s (own_for s false k) m.history.open_)) (sym i.spans) at_mid.spanned } in
      let its = number_of mid (opened s false k) s at_mid.holds (begun_here begun start shut b) in
      let at = taken_back At w m.history.commits (opened s false k) old new begun control s at_mid.holds its rests.seat (λ x p. begun_changes old mid w k s here false start shut b rests.holds first x p) i.sessions i.seated i.store in
      let moves = set_now At w next new r told told' control s made begun now its i.sessions at i.final_is i.ended_is i.told_is in
      subst (λ (x : Machine). Moves At w m (in_transaction w.run.dialect w.run.opening w.run.made control s x) new r told told' made made)
      (sym (ready_by true some ∙ takes_is w m (begins_event w.run.dialect w.run.opening w.run.made m s)))
      (record { fits = moves.fits; words = moves.words; final = moves.final; ended = moves.ended; makes = moves.makes })
    where
      begun_here : (begun : Holding) (start : CommitNo) → is_open_at old.holding s ≡ false → IsBegun old.holding begun s false start → IsHere (record old { holding = begun }) s
      begun_here begun start shut b = record { seat = subst (λ (n : ℕ). IsNumber n s) (sym (ap length b.seats ∙ length-set old.holding.seats.items (s - 1) (begun_seat false start (seat_of old.holding s)))) here.seat; session = here.session }
