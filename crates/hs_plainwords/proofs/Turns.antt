-- What turns tell is plain, and tells of no commit that isn't made.
use Rattle.std.proofs.Common.{◌≡◌, ℕ, zero, suc, ◌+◌, ◌<◌, ◌≤◌, Bool, true, false, List, [], ◌∷◌, ◌++◌, length, codes, refl, sym, ap, ◌∙◌, subst, arith, append-nil}
use Rattle.std.specs.Prelude.{Option, None, Some, if◌then◌else◌, nat_lt, slice_index_or}
use Rattle.std.specs.Str.{is_utf8}
use Rattle.std.proofs.lemmas.Bool.{and_parts}
use Rattle.hs_entries.specs.declared.item.Item.{Item}
use Rattle.hs_entries.specs.declared.item.Item.TheVariants as item
use Rattle.hs_entries.specs.Entry.{is_session}
use Rattle.hs_entries.specs.Parts.{lacks}
use Rattle.hs_machine.specs.Acknowledged.{AcknowledgesLines}
use Rattle.hs_schema.specs.Catalogue.{Text, Things}
use Rattle.hs_sessions.specs.Book.{number_from}
use Rattle.hs_turns.specs.Database.{Database}
use Rattle.hs_turns.specs.Each.{Each}
use Rattle.hs_turns.proofs.Lists.{each_append}
use Rattle.hs_turns.specs.Dialect.{Dialect, refused_words}
use Rattle.hs_turns.specs.Lines.{Words, Line, OfItem, Replies, no_session, printed}
use Rattle.hs_turns.specs.Waiting.{Entry, ascending, is_waiting}
use Rattle.hs_turns.specs.Machine.{Machine, is_open, name_of, start, with_session}
use Rattle.hs_turns.specs.Attempts.{Attempt, attempt, left_own, present}
use Rattle.hs_turns.specs.Turns.{Turned, admits, after, after_pass, begins, begun_by, closes, closes_next, closing, from_input, from_queue, in_pass, lines, lines_of, of_session, reads, ready_among, retried_by, retries, turn, whole_text, with_closed}
use Rattle.hs_turns.specs.Laws.{commits_told}
use Rattle.hs_turns.proofs.Follows.{Follows, attempts, leaves}
use Rattle.hs_turns.proofs.Numbered.{run_tells}
use Rattle.hs_plainwords.specs.Dialects.{IsPlainDialect}
use Rattle.hs_plainwords.specs.Plain.{IsPlainLine, IsPlainReason, IsUpTo, are_called, is_called}
use Rattle.hs_plainwords.proofs.Attempts.{ArePlain, attempt_plain, named_called, told_why}
use Rattle.hs_plainwords.proofs.Keeps as keeps
use Rattle.hs_plainwords.proofs.Named.{Named, begun_named}
use Rattle.hs_plainwords.proofs.Printed.{whole_lines}
use Rattle.hs_plainwords.proofs.Silent.{IsCalled, plain, plain_end, plain_item, plain_items, session_called, unnumbered}

-- one of a list of which each is so
each_at : (P : ℕ → Type 0) (xs : List ℕ) (x : ℕ) → Each P xs → (k : ℕ) → k < length xs → slice_index_or xs k x ≡ x → P x
each_at P [] x all k within is = absurd (omega (arith, within))
each_at P (y ∷ xs) x all zero within is = subst P is all.0
each_at P (y ∷ xs) x all (suc k) within is = each_at P xs x all.1 k (omega (arith, within)) is

-- each of these entries is text
abbrev AreRead : List Entry → Type 0
AreRead entries = Each (λ (e : Entry). is_utf8 e.text ≡ true) entries

abbrev FoundRead : Option (Entry × List Entry) → Type 0
FoundRead None = Unit {0}
FoundRead (Some found) = (is_utf8 found.0.text ≡ true) × AreRead found.1

ready_later : (q : Entry) (found : Option (Entry × List Entry)) → is_utf8 q.text ≡ true → FoundRead found → FoundRead (elim found as (λ _. Option (Entry × List Entry)) [ None ↦ None | Some f ↦ Some (f.0, q ∷ f.1) ])
ready_later q None good all = tt
ready_later q (Some f) good all = (all.0, (good, all.1))

ready_by : (b : Bool) (q : Entry) (queue : List Entry) (found : Option (Entry × List Entry)) → is_utf8 q.text ≡ true → AreRead queue → FoundRead found
    → FoundRead (if b then (elim found as (λ _. Option (Entry × List Entry)) [ None ↦ None | Some f ↦ Some (f.0, q ∷ f.1) ]) else Some (q, queue))
ready_by true q queue found good all later = ready_later q found good later
ready_by false q queue found good all later = (good, all)

ready_read : (waiters queue : List Entry) → AreRead queue → FoundRead (ready_among waiters queue)
ready_read waiters [] all = tt
ready_read waiters (q ∷ queue) all = ready_by (is_waiting q.session waiters) q queue (ready_among waiters queue) all.0 all.1 (ready_read waiters queue all.1)

module _ (is_named : Things → Bool) (d : Dialect) (its : IsPlainDialect is_named d) (opening : Database) (made : ℕ) where
  -- what is behind the words of a turn: catalogues that pass the test, names of sessions, and entries and items that are text
  record Fit (m : Machine) : Type 0 where
    history : Named is_named d its opening m.history
    names : Each IsCalled m.names
    seen : AreRead m.seen
    pass : AreRead m.pass
    queue : AreRead m.queue
    items : are_called m.unread ≡ true

  followed : (m n : Machine) → Follows d opening m n → Fit m → Named is_named d its opening n.history → Fit n
  followed m n f fit history = record {
    history = history;
    names = subst (Each IsCalled) (sym f.names) fit.names;
    seen = subst AreRead (sym f.seen) fit.seen;
    pass = subst AreRead (sym f.pass) fit.pass;
    queue = subst AreRead (sym f.queue) fit.queue;
    items = ap are_called f.unread ∙ fit.items;
  }

  record Tells (t : Turned) : Type 0 where
    fit : Fit t.next
    plain_ : Each IsPlainLine t.lines

  quiet : (m : Machine) → Fit m → Tells (record { lines = []; next = m })
  quiet m fit = record { fit = fit; plain_ = tt }

  -- ---- entries

  module _ (entry : Entry) (good : is_utf8 entry.text ≡ true) where
    told_lines : (m : Machine) → Fit m → (words : List Words) → ArePlain words → Each IsPlainLine (lines_of entry m words)
    told_lines m fit words all = plain_items entry.number (name_of m entry.session) (named_called m fit.names entry.session).single words all

    still_seen : (m : Machine) → Fit m → Fit (record m { seen = m.seen ++ entry ∷ [] })
    still_seen m fit = record {
      history = fit.history;
      names = fit.names;
      seen = each_append (λ (e : Entry). is_utf8 e.text ≡ true) m.seen (entry ∷ []) fit.seen (good, tt);
      pass = fit.pass;
      queue = fit.queue;
      items = fit.items;
    }

    begun_tells : (b : Bool) (a : Attempt) → Fit a.next → ArePlain a.words → Tells (begun_by b entry a)
    begun_tells true a fit words = record { fit = fit; plain_ = told_lines a.next fit a.words words }
    begun_tells false a fit words = record { fit = still_seen a.next fit; plain_ = told_lines a.next fit a.words words }

    retried_tells : (b : Bool) (a : Attempt) → Fit a.next → ArePlain a.words → Tells (retried_by b entry a)
    retried_tells true a fit words = record {
      fit = record { history = fit.history; names = fit.names; seen = fit.seen; pass = fit.pass; queue = fit.queue; items = fit.items };
      plain_ = told_lines a.next fit a.words words;
    }
    retried_tells false a fit words = record { fit = still_seen a.next fit; plain_ = tt }

    tried_fit : (is_first : Bool) (m : Machine) → Fit m → Fit (attempt d opening made is_first entry m).next
    tried_fit is_first m fit = followed m (attempt d opening made is_first entry m).next (attempts d opening made is_first entry m) fit (keeps.attempts is_named d its opening made entry good is_first m fit.history)

    tried_words : (is_first : Bool) (m : Machine) → Fit m → ArePlain (attempt d opening made is_first entry m).words
    tried_words is_first m fit = attempt_plain is_named d its opening made is_first entry good m fit.history fit.names

    begins_tells : (m : Machine) → Fit m → Tells (begins d opening made entry m)
    begins_tells m fit = let a = attempt d opening made true entry m in begun_tells a.final a (tried_fit true m fit) (tried_words true m fit)

    retries_tells : (m : Machine) → Fit m → Tells (retries d opening made entry m)
    retries_tells m fit = let a = attempt d opening made false entry m in retried_tells a.final a (tried_fit false m fit) (tried_words false m fit)

    admits_tells : (b : Bool) (m : Machine) → Fit m → Tells (admits d opening made b entry m)
    admits_tells true m fit = quiet (record m { queue = m.queue ++ entry ∷ [] }) (record {
      history = fit.history;
      names = fit.names;
      seen = fit.seen;
      pass = fit.pass;
      queue = each_append (λ (e : Entry). is_utf8 e.text ≡ true) m.queue (entry ∷ []) fit.queue (good, tt);
      items = fit.items;
    })
    admits_tells false m fit = begins_tells m fit

  either_tells : (b : Bool) (x y : Turned) → Tells x → Tells y → Tells (if b then x else y)
  either_tells true x y p q = p
  either_tells false x y p q = q

  -- ---- items

  more_names : (name : Text) (m : Machine) → IsCalled name → Fit m → Fit (with_session name (present d opening made m).level m)
  more_names name m called fit = record { history = fit.history; names = each_append IsCalled m.names (name ∷ []) fit.names (called, tt); seen = fit.seen; pass = fit.pass; queue = fit.queue; items = fit.items }

  refused_tells : (number : ℕ) (name why : Text) (m : Machine) → lacks 10 name ≡ true → IsPlainReason why → Fit m → Tells (record { lines = OfItem number name (Replies (refused_words why) None) ∷ []; next = m })
  refused_tells number name why m single reason fit = record { fit = fit; plain_ = (plain_item number name single (Replies (refused_words why) None) (told_why why reason), tt) }

  session_tells : (found : Option ℕ) (number : ℕ) (name statement : Text) (m : Machine) → is_session name ≡ true → is_utf8 (whole_text name statement) ≡ true → Fit m → Tells (of_session d opening made found number name statement m)
  session_tells (Some s) number name statement m called good fit = admits_tells (record { number = number; session = s; text = whole_text name statement }) good (is_waiting s m.seen) m fit
  session_tells None number name statement m called good fit =
      let is = session_called name called in
      either_tells (nat_lt (length m.names) 64) _ _
      (begins_tells (record { number = number; session = length m.names + 1; text = whole_text name statement }) good (with_session name (present d opening made m).level m) (more_names name m is fit))
      (refused_tells number name (codes "sessions") m is.single (plain (codes "refused sessions") (unnumbered (codes "refused sessions") refl refl)) fit)

  reads_tells : (i : Item) (m : Machine) → is_called i ≡ true → Fit m → Tells (reads d opening made i m)
  reads_tells (item.Entry number name statement at) m called fit =
      let parts = and_parts (is_session name) (is_utf8 (whole_text name statement)) called in session_tells (number_from 1 name m.names) number name statement m parts.0 parts.1 fit
  reads_tells (item.Bad number) m called fit = refused_tells number no_session (codes "entry") m refl (plain (codes "refused entry") (unnumbered (codes "refused entry") refl refl)) fit
  reads_tells (item.TooLong number) m called fit = refused_tells number no_session (codes "too long") m refl (plain (codes "refused too long") (unnumbered (codes "refused too long") refl refl)) fit
  reads_tells item.End m called fit = quiet m fit

  closed_fit : (s : ℕ) (m : Machine) → Fit m → Fit (with_closed s m)
  closed_fit s m fit = record { history = fit.history; names = fit.names; seen = fit.seen; pass = fit.pass; queue = fit.queue; items = fit.items }

  closes_tells : (b : Bool) (s : ℕ) (m : Machine) → Fit m → Tells (closes d opening made b s m)
  closes_tells true s m fit =
      let n = left_own d opening made s m in record {
        fit = closed_fit s n (followed m n (leaves d opening made s m) fit (keeps.left is_named d its opening made s m fit.history));
        plain_ = (plain_end (name_of m s) (named_called m fit.names s).single, tt);
      }
  closes_tells false s m fit = quiet (with_closed s m) (closed_fit s m fit)

  -- ---- turns

  abbrev TellsSome : Option Turned → Type 0
  TellsSome None = Unit {0}
  TellsSome (Some t) = Tells t

  closing_tells : (found : Option ℕ) (m : Machine) → Fit m → TellsSome (closing d opening made found m)
  closing_tells None m fit = tt
  closing_tells (Some s) m fit = closes_tells (is_open m s) s m fit

  input_tells : (items : List Item) (m : Machine) → m.unread ≡ items → Fit m → TellsSome (from_input d opening made items m)
  input_tells (i ∷ items) m is fit =
      let parts = and_parts (is_called i) (are_called items) (ap are_called (sym is) ∙ fit.items) in
      reads_tells i (record m { unread = items }) parts.0 (record { history = fit.history; names = fit.names; seen = fit.seen; pass = fit.pass; queue = fit.queue; items = parts.1 })
  input_tells [] m is fit = closing_tells (closes_next m) m fit

  queue_tells : (found : Option (Entry × List Entry)) (m : Machine) → FoundRead found → Fit m → TellsSome (from_queue d opening made found m)
  queue_tells (Some found) m all fit = begins_tells found.0 all.0 (record m { queue = found.1 }) (record { history = fit.history; names = fit.names; seen = fit.seen; pass = fit.pass; queue = all.1; items = fit.items })
  queue_tells None m all fit = input_tells m.unread m refl fit

  pass_tells : (again : Bool) (m : Machine) → Fit m → TellsSome (after_pass d opening made again m)
  pass_tells true m fit = quiet (record m { seen = []; pass = m.seen; again = false }) (record { history = fit.history; names = fit.names; seen = tt; pass = fit.seen; queue = fit.queue; items = fit.items })
  pass_tells false m fit = queue_tells (ready_among m.seen m.queue) m (ready_read m.seen m.queue fit.queue) fit

  in_pass_tells : (ws : List Entry) (m : Machine) → m.pass ≡ ws → Fit m → TellsSome (in_pass d opening made ws m)
  in_pass_tells (w ∷ ws) m is fit =
      let all : AreRead (w ∷ ws) = subst AreRead is fit.pass in
      retries_tells w all.0 (record m { pass = ws }) (record { history = fit.history; names = fit.names; seen = fit.seen; pass = all.1; queue = fit.queue; items = fit.items })
  in_pass_tells [] m is fit = pass_tells m.again m fit

  turn_tells : (m : Machine) → Fit m → TellsSome (turn d opening made m)
  turn_tells m fit = in_pass_tells m.pass m refl fit

  -- ---- runs

  next_by : (n : ℕ) (t : Option Turned) (m : Machine) → ((k : Machine) → Fit k → Fit (after d opening made n k)) → Fit m → TellsSome t → Fit (elim t [ None ↦ m | Some u ↦ after d opening made n u.next ])
  next_by n None m goes fit o = fit
  next_by n (Some t) m goes fit o = goes t.next o.fit

  after_fit : (n : ℕ) (m : Machine) → Fit m → Fit (after d opening made n m)
  unfolding after
  after_fit zero m fit = fit
  after_fit (suc n) m fit = next_by n (turn d opening made m) m (after_fit n) fit (turn_tells m fit)

  lines_by : (n : ℕ) (t : Option Turned) (m : Machine) → ((k : Machine) → Fit k → Each IsPlainLine (lines d opening made n k)) → TellsSome t → Each IsPlainLine (elim t as (λ _. List Line) [ None ↦ [] | Some u ↦ u.lines ++ lines d opening made n u.next ])
  lines_by n None m goes o = tt
  lines_by n (Some t) m goes o = each_append IsPlainLine t.lines (lines d opening made n t.next) o.plain_ (goes t.next o.fit)

  lines_plain : (n : ℕ) (m : Machine) → Fit m → Each IsPlainLine (lines d opening made n m)
  unfolding lines
  lines_plain zero m fit = tt
  lines_plain (suc n) m fit = lines_by n (turn d opening made m) m (lines_plain n) (turn_tells m fit)

  start_fit : is_named opening.things ≡ true → (items : List Item) → are_called items ≡ true → Fit (start opening items)
  start_fit named items called = record { history = begun_named is_named d its opening named; names = tt; seen = tt; pass = tt; queue = tt; items = called }

  pub one_plain : is_named opening.things ≡ true → (items : List Item) (n : ℕ) (t : Turned) → are_called items ≡ true → turn d opening made (after d opening made n (start opening items)) ≡ Some t → Each IsPlainLine t.lines
  one_plain named items n t called is = let m = after d opening made n (start opening items) in (subst TellsSome is (turn_tells m (after_fit n (start opening items) (start_fit named items called)))).plain_

  pub all_plain : is_named opening.things ≡ true → (items : List Item) (n : ℕ) → are_called items ≡ true → Each IsPlainLine (lines d opening made n (start opening items))
  all_plain named items n called = lines_plain n (start opening items) (start_fit named items called)

  -- ---- commits

  up_to : (most n : ℕ) (commits : List ℕ) → Each (λ k. k ≤ most) commits → IsUpTo commits n → n ≤ most
  up_to most n commits all found = omega (arith, each_at (λ k. k ≤ most) commits found.0 all found.1.0 found.1.1 found.1.2, found.2)

  ascending_least : (first n most : ℕ) → first + n ≤ most + 1 → Each (λ k. k ≤ most) (ascending first n)
  ascending_least first zero most small = tt
  ascending_least first (suc n) most small = (omega (arith, small), ascending_least (first + 1) n most (omega (arith, small)))

  told_least : (before more after_ : ℕ) (commits : List ℕ) → after_ ≡ before + more → commits ≡ ascending (made + before + 1) more → (n : ℕ) → IsUpTo commits n → n ≤ made + after_
  told_least before more after_ commits grown are n found =
      up_to (made + after_) n commits (subst (Each (λ k. k ≤ made + after_)) (sym are) (ascending_least (made + before + 1) more (made + after_) (omega (arith, grown)))) found

  -- a turn, where there is one
  abbrev TurnTells : Machine → Option Turned → Type 0
  TurnTells m found = (more : ℕ) × ((length (elim found as (λ _. Machine) [ None ↦ m | Some t ↦ t.next ]).history.commits ≡ length m.history.commits + more)
      × (commits_told (elim found as (λ _. List Line) [ None ↦ [] | Some t ↦ t.lines ++ [] ]) ≡ ascending (made + length m.history.commits + 1) more))

  tells_one : (m : Machine) → TurnTells m (turn d opening made m)
  unfolding after lines
  tells_one m = run_tells d opening made 1 m

  pub one_told : is_named opening.things ≡ true → (items : List Item) (n : ℕ) (t : Turned) → are_called items ≡ true → turn d opening made (after d opening made n (start opening items)) ≡ Some t → AcknowledgesLines (printed t.lines) (made + length t.next.history.commits)
  one_told named items n t called is =
      let m = after d opening made n (start opening items) in
      let r = subst (TurnTells m) is (tells_one m) in
      whole_lines t.lines (made + length t.next.history.commits) (one_plain named items n t called is)
      (told_least (length m.history.commits) r.0 (length t.next.history.commits) (commits_told t.lines) r.1.0 (ap commits_told (sym (append-nil t.lines)) ∙ r.1.1))

  pub all_told : is_named opening.things ≡ true → (items : List Item) (n : ℕ) → are_called items ≡ true → AcknowledgesLines (printed (lines d opening made n (start opening items))) (made + length (after d opening made n (start opening items)).history.commits)
  all_told named items n called =
      let r = run_tells d opening made n (start opening items) in
      whole_lines (lines d opening made n (start opening items)) (made + length (after d opening made n (start opening items)).history.commits) (all_plain named items n called)
      (told_least 0 r.0 (length (after d opening made n (start opening items)).history.commits) (commits_told (lines d opening made n (start opening items))) r.1.0 r.1.1)
