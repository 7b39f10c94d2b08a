-- Each commit is told once, in order, by the turn that makes it.
use Rattle.std.proofs.Common.{◌≡◌, ℕ, zero, suc, ◌+◌, ◌&&◌, not, Bool, true, false, List, [], ◌∷◌, ◌++◌, map, length, refl, sym, ap, ap₂, ◌∙◌, subst, arith, append_assoc, append-nil, length-append}
use Rattle.std.specs.Prelude.{Option, None, Some, Result, Ok, Err, if◌then◌else◌, nat_lt, codes}
use Rattle.hs_ast.specs.declared.session.Modes.{Modes as NewModes}
use Rattle.hs_claims.specs.declared.footprint.Footprint.{Footprint}
use Rattle.hs_claims.specs.Wants.{wants_of}
use Rattle.hs_entries.specs.declared.item.Item.{Item}
use Rattle.hs_entries.specs.declared.item.Item.TheVariants as item
use Rattle.hs_plan.specs.declared.change.Change.{Change}
use Rattle.hs_plan.specs.declared.change.Change.TheVariants as change
use Rattle.hs_plan.specs.declared.definition.Definition.{Definition}
use Rattle.hs_changes.specs.Changes.{count_all_inserted}
use Rattle.hs_schema.specs.Catalogue.{Text}
use Rattle.hs_sessions.specs.declared.control.Control.{Control}
use Rattle.hs_sessions.specs.declared.control.ControlReply.{ControlReply}
use Rattle.hs_sessions.specs.declared.control.ControlReply.TheVariants as reply
use Rattle.hs_sessions.specs.Book.{number_from}
use Rattle.hs_sessions.specs.Settings.{controlled}
use Rattle.hs_turns.specs.Database.{Database, has_room, view}
use Rattle.hs_turns.specs.Language.{Language}
use Rattle.hs_turns.specs.Transactions.{session_in}
use Rattle.hs_turns.specs.Transactions.Statement.{Data, OnSession}
use Rattle.hs_turns.specs.Histories.{Open, History, base, commit_of, is_free, newer, no_conflict, now, others}
use Rattle.hs_turns.specs.Events.{Event, commit_by as by_changes, commit, define, define_by, definition_commit, defines, finish, fresh, goes_on, judged, said, stays_open}
use Rattle.hs_turns.specs.Events.{Act as act}
use Rattle.hs_turns.specs.Dialect.{Dialect, Request, accepted, language_of, open_transaction}
use Rattle.hs_turns.specs.Dialect.{Request as request}
use Rattle.hs_turns.specs.Lines.{Words, RowOf, Replies, First, WaitsFor, Line, OfItem, told}
use Rattle.hs_turns.specs.Waiting.{Entry, is_waiting, ascending}
use Rattle.hs_turns.specs.Machine.{Machine, settings_of, open_of, is_open, session_seen, name_of, event, happens, with_modes_used, with_session}
use Rattle.hs_turns.specs.Attempts.{Attempt, Ending, Empty, Fits, TooManyChanges, LogFull, ending_by, blockers, open_sessions, leading_back, ending_of, own_of, seen_by, takes, noted_by, newest, refusal_told, refused_in_place, control_words, control_told, data_event, auto_ended, went_on, held_up_data, judged_data, data_by, defined_by, defined, held_up, defining, commits_event, committed_own, own_by, own_first, bound_definition, definition_by, begins_event, named, attempt_start, commit_by, attempt_commit, left_own, attempt_rollback, is_savepoint, ready, in_transaction, attempt_by, attempt, present, next_number}
use Rattle.hs_turns.specs.Turns.{Turned, begun_by, retried_by, ready_among, whole_text, closes_next, begins, retries, admits, of_session, reads, closes, closing, from_input, from_queue, after_pass, in_pass, turn, after, lines}
use Rattle.hs_turns.specs.Laws.{commit_in, commits_in, commit_told, commits_told}
use Rattle.hs_turns.proofs.Follows.{quiet}
use Rattle.hs_turns.proofs.Opened.{own_found}

abbrev count : History → ℕ
count h = length h.commits

-- ---- what events commit

module _ (lang : Language) (opening : Database) where
  finish_none : (o : Open) (who : ℕ) (h : History) → count (finish false o who h) ≡ count h
  finish_none o who h = refl

  changes_none : (changes : List Change) (room log : Bool) (o : Open) (who : ℕ) (h refused : History) → (ending_by changes room log ≡ Empty) → count (by_changes changes room o who h refused) ≡ count h
  changes_none [] room log o who h refused is = refl
  changes_none (c ∷ cs) true true o who h refused is = absurd cc
  changes_none (c ∷ cs) true false o who h refused is = absurd cc
  changes_none (c ∷ cs) false log o who h refused is = absurd cc

  changes_one : (changes : List Change) (room log : Bool) (o : Open) (who : ℕ) (h refused : History) → (ending_by changes room log ≡ Fits) → count (by_changes changes room o who h refused) ≡ count h + 1
  changes_one [] room log o who h refused is = absurd cc
  changes_one (c ∷ cs) true true o who h refused is = length-append h.commits (commit_of o ∷ [])
  changes_one (c ∷ cs) true false o who h refused is = absurd cc
  changes_one (c ∷ cs) false log o who h refused is = absurd cc

  changes_many : (changes : List Change) (room log : Bool) (o : Open) (who : ℕ) (h refused : History) → (ending_by changes room log ≡ TooManyChanges) → count refused ≡ count h → count (by_changes changes room o who h refused) ≡ count h
  changes_many [] room log o who h refused is e = absurd cc
  changes_many (c ∷ cs) true true o who h refused is e = absurd cc
  changes_many (c ∷ cs) true false o who h refused is e = absurd cc
  changes_many (c ∷ cs) false log o who h refused is e = e

  -- an attempt that goes on, by whether it ends its transaction
  goes_by : (auto : Bool) (before after : Open) (who : ℕ) (h : History) (n : ℕ) → (auto ≡ true → count (commit opening after who h (finish false before who h)) ≡ n) → (auto ≡ false → count h ≡ n)
      → count (if auto then commit opening after who h (finish false before who h) else stays_open after who h) ≡ n
  goes_by true before after who h n f g = f refl
  goes_by false before after who h n f g = g refl

  judged_goes : (free clear back : Bool) (before after : Open) (who : ℕ) (h : History) (n : ℕ) → free ≡ true → clear ≡ true → count (goes_on opening before after who h) ≡ n → count (judged free clear back opening before after who h) ≡ n
  judged_goes true true back before after who h n e f k = k
  judged_goes true false back before after who h n e f k = absurd cc
  judged_goes false clear back before after who h n e f k = absurd cc

  judged_none : (free clear back : Bool) (before after : Open) (who : ℕ) (h : History) → (free && clear) ≡ false → count (judged free clear back opening before after who h) ≡ count h
  judged_none true true back before after who h e = absurd cc
  judged_none true false back before after who h e = refl
  judged_none false clear true before after who h e = refl
  judged_none false clear false before after who h e = refl

  judged_kept : (free clear back : Bool) (before after : Open) (who : ℕ) (h : History) → after.auto ≡ false → count (judged free clear back opening before after who h) ≡ count h
  judged_kept true true back before after who h e = goes_by after.auto before after who h (count h) (λ f. absurd (both after.auto e f)) (λ f. refl) where
    both : (b : Bool) → b ≡ false → b ≡ true → ⊥
    both true e f = absurd cc
    both false e f = absurd cc
  judged_kept true false back before after who h e = refl
  judged_kept false clear true before after who h e = refl
  judged_kept false clear false before after who h e = refl

  defined_one : (room : Bool) (who : ℕ) (definition : Definition) (h : History) → room ≡ true → count (define_by room who definition h) ≡ count h + 1
  defined_one true who definition h e = length-append h.commits (definition_commit who definition ∷ [])
  defined_one false who definition h e = absurd cc

-- ---- words

commits_append : (xs ys : List Words) → commits_in (xs ++ ys) ≡ commits_in xs ++ commits_in ys
commits_append [] ys = refl
commits_append (x ∷ xs) ys = ap (λ (l : List ℕ). commit_in x ++ l) (commits_append xs ys) ∙ sym (append_assoc (commit_in x) (commits_in xs) (commits_in ys))

rows_tell : (rows : List Text) → commits_in (map RowOf rows) ≡ []
rows_tell [] = refl
rows_tell (row ∷ rows) = rows_tell rows

told_tells : (rows : List Text) (text : Text) (commit : Option ℕ) → commits_in (told rows text commit) ≡ commits_in (Replies text commit ∷ [])
told_tells rows text commit = commits_append (map RowOf rows) (Replies text commit ∷ []) ∙ ap (λ (l : List ℕ). l ++ commits_in (Replies text commit ∷ [])) (rows_tell rows)

lines_tell : (number : ℕ) (name : Text) (words : List Words) → commits_told (map (OfItem number name) words) ≡ commits_in words
lines_tell number name [] = refl
lines_tell number name (w ∷ ws) = ap (λ (l : List ℕ). commit_in w ++ l) (lines_tell number name ws)

told_append : (xs ys : List Line) → commits_told (xs ++ ys) ≡ commits_told xs ++ commits_told ys
told_append [] ys = refl
told_append (x ∷ xs) ys = ap (λ (l : List ℕ). commit_told x ++ l) (told_append xs ys) ∙ sym (append_assoc (commit_told x) (commits_told xs) (commits_told ys))

ascending_more : (first n k : ℕ) → ascending first (n + k) ≡ ascending first n ++ ascending (first + n) k
ascending_more first zero k = ap₂ (λ (a b : ℕ). ascending a b) (omega arith) (omega arith)
ascending_more first (suc n) k =
    let suc_sum : suc n + k ≡ suc (n + k) = omega arith in
    let further : first + 1 + n ≡ first + suc n = omega arith in
    ap (λ (x : ℕ). ascending first x) suc_sum ∙ ap (λ (l : List ℕ). first ∷ l) (ascending_more (first + 1) n k ∙ ap (λ (a : ℕ). ascending (first + 1) n ++ ascending a k) further)

-- ---- attempts

module _ (d : Dialect) (opening : Database) (made : ℕ) where
  abbrev commits_of : Machine → ℕ
  commits_of m = count m.history

  -- so many commits are made, and words tell of these
  pub record Tells (m n : Machine) (words : List Words) : Type 0 where
    pub more : ℕ
    pub grown : commits_of n ≡ commits_of m + more
    pub told_ : commits_in words ≡ ascending (next_number d opening made m) more

  no_more : (m n : Machine) (words : List Words) → commits_of n ≡ commits_of m → commits_in words ≡ [] → Tells m n words
  no_more m n words same none = record { more = 0; grown = same ∙ omega arith; told_ = none }

  one_more : (m n : Machine) (words : List Words) → commits_of n ≡ commits_of m + 1 → commits_in words ≡ next_number d opening made m ∷ [] → Tells m n words
  one_more m n words grown is = record { more = 1; grown = grown; told_ = is }

  taken_by : (b : Bool) (e : Event) (m : Machine) (n : ℕ) → commits_of (happens d opening e m) ≡ n → commits_of (if b then happens d opening e m else with_modes_used e.session (happens d opening e m)) ≡ n
  taken_by true e m n is = is
  taken_by false e m n is = is

  own_is : (m : Machine) (e : Event) (o : Open) → open_of m e.session ≡ Some o → own_of d opening made m e ≡ o
  own_is m e o is = own_found e.session (fresh m.history.kind e (length m.history.commits)) o m.history.open_ is

  module _ (entry : Entry) (m : Machine) where
    abbrev s : ℕ
    s = entry.session

    abbrev de : Event
    de = data_event d opening made m entry false

    abbrev o : Open
    o = own_of d opening made m de

    abbrev foot_ : Footprint
    foot_ = ((language_of d).outcome o.read_only (count_all_inserted o.trace.changes) (seen_by d opening made m o) entry.text).foot

    abbrev after_ : Open
    after_ = said (language_of d) (base m.history.kind opening m.history.commits o) (Data entry.text) o

    abbrev is_free_ : Bool
    is_free_ = is_free m.history.kind o foot_ (others s m.history.open_)

    abbrev is_clear_ : Bool
    is_clear_ = no_conflict m.history.kind o foot_ (newer m.history.commits o)

    newest_tells : (commit : Option ℕ) → commits_in (newest d opening made after_ commit) ≡ commits_in (Replies (codes "") commit ∷ [])
    newest_tells commit = let out = (language_of d).outcome o.read_only (count_all_inserted o.trace.changes) (seen_by d opening made m o) entry.text in told_tells out.rows out.reply commit

    -- the event of a statement that goes on
    goes_count : (back : Bool) (n : ℕ) → is_free_ ≡ true → is_clear_ ≡ true → count (goes_on opening o after_ s m.history) ≡ n → commits_of (takes d opening made (data_event d opening made m entry false) m) ≡ n
    goes_count back n free clear is = taken_by (is_open m s) de m n (judged_goes (language_of d) opening is_free_ is_clear_ false o after_ s m.history n free clear is)

    auto_tells : (how : Ending) → ending_of d opening made m (commit_of after_) ≡ how → o.auto ≡ true → is_free_ ≡ true → is_clear_ ≡ true → Tells m (auto_ended d opening made how entry after_ m).next (auto_ended d opening made how entry after_ m).words
    auto_tells Empty is auto free clear = no_more m _ (newest d opening made after_ None)
        (goes_count false (commits_of m) free clear
        (goes_by (language_of d) opening o.auto o after_ s m.history (commits_of m) (λ _. changes_none (language_of d) opening after_.trace.changes (has_room (present d opening made m) after_.trace.changes) (d.has_log_room m.history.commits (commit_of after_)) after_ s m.history _ is) (λ _. refl)))
        (newest_tells None)
    auto_tells Fits is auto free clear = one_more m _ (newest d opening made after_ (Some (next_number d opening made m)))
        (goes_count false (commits_of m + 1) free clear
        (goes_by (language_of d) opening o.auto o after_ s m.history (commits_of m + 1) (λ _. changes_one (language_of d) opening after_.trace.changes (has_room (present d opening made m) after_.trace.changes) (d.has_log_room m.history.commits (commit_of after_)) after_ s m.history _ is)
        (λ f. absurd (both o.auto auto f))))
        (newest_tells (Some (next_number d opening made m)))
      where
        both : (b : Bool) → b ≡ true → b ≡ false → ⊥
        both true e f = absurd cc
        both false e f = absurd cc
    auto_tells TooManyChanges is auto free clear = no_more m _ _
        (goes_count false (commits_of m) free clear
        (goes_by (language_of d) opening o.auto o after_ s m.history (commits_of m) (λ _. changes_many (language_of d) opening after_.trace.changes (has_room (present d opening made m) after_.trace.changes) (d.has_log_room m.history.commits (commit_of after_)) after_ s m.history (finish false o s m.history) is refl) (λ _. refl)))
        refl
    auto_tells LogFull is auto free clear = no_more m _ _ (taken_by (is_open m s) (record de { act = act.Leaves }) m (commits_of m) refl) refl

    went_tells : (auto : Bool) → o.auto ≡ auto → is_free_ ≡ true → is_clear_ ≡ true → Tells m (went_on d opening made auto entry after_ m).next (went_on d opening made auto entry after_ m).words
    went_tells true auto free clear = auto_tells (ending_of d opening made m (commit_of after_)) refl auto free clear
    went_tells false auto free clear = no_more m _ (newest d opening made after_ None)
        (taken_by (is_open m s) de m (commits_of m) (judged_kept (language_of d) opening is_free_ is_clear_ false o after_ s m.history auto)) (newest_tells None)

    held_tells : (back : Option ℕ) → is_free_ ≡ false → Tells m (held_up_data d opening made back (blockers m s (wants_of m.history.kind o.level o.read_only foot_)) entry m).next (held_up_data d opening made back (blockers m s (wants_of m.history.kind o.level o.read_only foot_)) entry m).words
    held_tells (Some back) free = no_more m _ _ (taken_by (is_open m s) (data_event d opening made m entry true) m (commits_of m) (judged_none (language_of d) opening is_free_ is_clear_ true o after_ s m.history (ap (λ (b : Bool). b && is_clear_) free))) refl
    held_tells None free = no_more m _ _ (taken_by (is_open m s) de m (commits_of m) (judged_none (language_of d) opening is_free_ is_clear_ false o after_ s m.history (ap (λ (b : Bool). b && is_clear_) free))) refl

    judges_tells : (free clear : Bool) → is_free_ ≡ free → is_clear_ ≡ clear
        → Tells m (judged_data d opening made free clear entry o (wants_of m.history.kind o.level o.read_only foot_) m).next (judged_data d opening made free clear entry o (wants_of m.history.kind o.level o.read_only foot_) m).words
    judges_tells true true e f = went_tells o.auto refl e f
    judges_tells true false e f = no_more m _ _ (taken_by (is_open m s) de m (commits_of m) (judged_none (language_of d) opening is_free_ is_clear_ false o after_ s m.history (ap₂ (λ (a b : Bool). a && b) e f))) refl
    judges_tells false clear e f = held_tells (leading_back m s (blockers m s (wants_of m.history.kind o.level o.read_only foot_))) e

    -- ---- a refusal

    refusal_by : (x : Open) (why : Text) (t : Bool) → commits_in (if t then Replies why None ∷ [] else newest d opening made (said (language_of d) (base m.history.kind opening m.history.commits x) (Data entry.text) x) None) ≡ []
    refusal_by x why true = refl
    refusal_by x why false = let out = (language_of d).outcome x.read_only (count_all_inserted x.trace.changes) (view (base m.history.kind opening m.history.commits x) x.trace.changes) entry.text in told_tells out.rows out.reply None

    refusal_none : (found : Option Open) (why : Text) → commits_in (refusal_told d opening made found entry why m) ≡ []
    refusal_none None why = refl
    refusal_none (Some x) why = refusal_by x _ x.auto

    noted_auto : (x : Open) → open_of m s ≡ Some x → (t : Bool) → x.auto ≡ t → commits_of (if t then left_own d opening made s m else happens d opening (event m s false false (act.Says (Data entry.text))) m) ≡ commits_of m
    noted_auto x is true auto = refl
    noted_auto x is false auto =
        let e = event m s false false (act.Says (Data entry.text)) in
        let p = own_of d opening made m e in
        let f = ((language_of d).outcome p.read_only (count_all_inserted p.trace.changes) (seen_by d opening made m p) entry.text).foot in
        judged_kept (language_of d) opening (is_free m.history.kind p f (others s m.history.open_)) (no_conflict m.history.kind p f (newer m.history.commits p)) false p (said (language_of d) (base m.history.kind opening m.history.commits p) (Data entry.text) p) s m.history
        (ap (λ (y : Open). y.auto) (own_is m e x is) ∙ auto)

    noted_none : (found : Option Open) → open_of m s ≡ found → commits_of (noted_by d opening made found entry m) ≡ commits_of m
    noted_none None is = refl
    noted_none (Some x) is = noted_auto x is x.auto refl

    refused_tells : (why : Text) → Tells m (refused_in_place d opening made entry why m).next (refused_in_place d opening made entry why m).words
    refused_tells why = no_more m _ _ (noted_none (open_of m s) refl) (refusal_none (open_of m s) why)

    data_tells : (why : Option Text) → Tells m (data_by d opening made why entry o m).next (data_by d opening made why entry o m).words
    data_tells (Some why) = refused_tells why
    data_tells None = judges_tells is_free_ is_clear_ refl refl

  -- ---- definitions

  behind : (before : List Words) (text : Text) → commits_in (before ++ Replies text None ∷ []) ≡ commits_in before
  behind before text = commits_append before (Replies text None ∷ []) ∙ append-nil (commits_in before)

  -- what was told before stays told, and later words tell of the commits that come next
  record TellsBehind (m n : Machine) (before words : List Words) : Type 0 where
    more : ℕ
    grown : commits_of n ≡ commits_of m + more
    told_ : commits_in words ≡ commits_in before ++ ascending (next_number d opening made m) more

  refused_behind : (m : Machine) (before : List Words) (text : Text) → TellsBehind m m before (before ++ Replies text None ∷ [])
  refused_behind m before text = record { more = 0; grown = omega arith; told_ = behind before text ∙ sym (append-nil (commits_in before)) }

  module _ (entry : Entry) (before : List Words) (m : Machine) where
    abbrev define_event : Event
    define_event = event m entry.session false false (act.Defines entry.text)

    opened_none : (os : List Open) → os ≡ [] → (found : Result Definition Text) (definition : Definition) → d.definition (present d opening made m) entry.text ≡ found → found ≡ Ok definition → has_room (present d opening made m) (change.Define definition ∷ []) ≡ true
        → count (defines (language_of d) opening entry.session entry.text os m.history) ≡ commits_of m + 1
    opened_none [] none found definition is ok room = by_found (accepted (d.definition (present d opening made m) entry.text)) (ap accepted (is ∙ ok)) where
      by_found : (x : Option Definition) → x ≡ Some definition → count (define opening entry.session x m.history) ≡ commits_of m + 1
      by_found x e = subst (λ (y : Option Definition). count (define opening entry.session y m.history) ≡ commits_of m + 1) (sym e) (defined_one (language_of d) opening (has_room (present d opening made m) (change.Define definition ∷ [])) entry.session definition m.history room)
    opened_none (x ∷ xs) none found definition is ok room = absurd cc

    room_of : (definition : Definition) (room log : Bool) → ending_by (change.Define definition ∷ []) room log ≡ Fits → room ≡ true
    room_of definition true true is = refl
    room_of definition true false is = absurd cc
    room_of definition false log is = absurd cc

    defined_tells : m.history.open_ ≡ [] → (definition : Definition) → d.definition (present d opening made m) entry.text ≡ Ok definition → (how : Ending) → ending_of d opening made m (definition_commit entry.session definition) ≡ how
        → TellsBehind m (defined_by d opening made how before entry m).next before (defined_by d opening made how before entry m).words
    defined_tells none definition ok Empty is = refused_behind m before (codes "ok")
    defined_tells none definition ok Fits is = record {
      more = 1;
      grown = opened_none m.history.open_ none (d.definition (present d opening made m) entry.text) definition refl ok
          (room_of definition (has_room (present d opening made m) (change.Define definition ∷ [])) (d.has_log_room m.history.commits (definition_commit entry.session definition)) is);
      told_ = commits_append before (Replies (codes "ok") (Some (next_number d opening made m)) ∷ []);
    }
    defined_tells none definition ok TooManyChanges is = refused_behind m before _
    defined_tells none definition ok LogFull is = refused_behind m before _

    found_tells : m.history.open_ ≡ [] → (found : Result Definition Text) → d.definition (present d opening made m) entry.text ≡ found → TellsBehind m (defined d opening made found before entry m).next before (defined d opening made found before entry m).words
    found_tells none (Err why) is = refused_behind m before _
    found_tells none (Ok definition) is = defined_tells none definition is (ending_of d opening made m (definition_commit entry.session definition)) refl

    waits_behind : (b : List ℕ) → TellsBehind m (held_up d opening made None b before entry m).next before (held_up d opening made None b before entry m).words
    waits_behind b = record { more = 0; grown = omega arith; told_ = commits_append before (WaitsFor (map (name_of m) b) ∷ []) }

    blocked_tells : (back : Option ℕ) (b : List ℕ) → TellsBehind m (held_up d opening made back b before entry m).next before (held_up d opening made back b before entry m).words
    blocked_tells (Some back) b = refused_behind m before _
    blocked_tells None b = waits_behind b

    defining_tells : (os : List Open) → m.history.open_ ≡ os → TellsBehind m (defining d opening made os before entry m).next before (defining d opening made os before entry m).words
    defining_tells [] is = found_tells is (d.definition (present d opening made m) entry.text) refl
    defining_tells (x ∷ xs) is = let b = open_sessions m in blocked_tells (leading_back m entry.session b) b

  alone : (m n : Machine) (words : List Words) → TellsBehind m n [] words → Tells m n words
  alone m n words t = record { more = t.more; grown = t.grown; told_ = t.told_ }

  -- ---- the end of a session's own transaction

  module _ (m : Machine) (who : ℕ) (x : Open) (found : open_of m who ≡ Some x) where
    abbrev ce : Event
    ce = commits_event d opening made m who

    abbrev p : Open
    p = own_of d opening made m ce

    ending_same : (how : Ending) → ending_of d opening made m (commit_of x) ≡ how → ending_of d opening made m (commit_of p) ≡ how
    ending_same how is = subst (λ (y : Open). ending_of d opening made m (commit_of y) ≡ how) (sym (own_is m ce x found)) is

    own_none : ending_of d opening made m (commit_of x) ≡ Empty → commits_of (committed_own d opening made m who) ≡ commits_of m
    own_none is = changes_none (language_of d) opening p.trace.changes (has_room (now opening m.history.commits) p.trace.changes) (d.has_log_room m.history.commits (commit_of p)) p who m.history (stays_open p who m.history) (ending_same Empty is)

    own_one : ending_of d opening made m (commit_of x) ≡ Fits → commits_of (committed_own d opening made m who) ≡ commits_of m + 1
    own_one is = changes_one (language_of d) opening p.trace.changes (has_room (now opening m.history.commits) p.trace.changes) (d.has_log_room m.history.commits (commit_of p)) p who m.history (stays_open p who m.history) (ending_same Fits is)

  owns_tells : (entry : Entry) (m : Machine) (x : Open) → open_of m entry.session ≡ Some x → (how : Ending) → ending_of d opening made m (commit_of x) ≡ how → Tells m (own_by d opening made how entry m).next (own_by d opening made how entry m).words
  owns_tells entry m x found Empty is =
      let n = committed_own d opening made m entry.session in
      let t = defining_tells entry [] n n.history.open_ refl in
      record {
        more = t.more;
        grown = t.grown ∙ ap (λ (k : ℕ). k + t.more) (own_none m entry.session x found is);
        told_ = t.told_ ∙ ap (λ (k : ℕ). ascending (made + k + 1) t.more) (own_none m entry.session x found is);
      }
  owns_tells entry m x found Fits is =
      let n = committed_own d opening made m entry.session in
      let t = defining_tells entry (First (next_number d opening made m) ∷ []) n n.history.open_ refl in
      let one = own_one m entry.session x found is in
      let next : made + commits_of n + 1 ≡ made + commits_of m + 1 + 1 = omega (arith, one) in
      record {
        more = suc t.more;
        grown = omega (arith, t.grown, one);
        told_ = t.told_ ∙ ap (λ (k : ℕ). next_number d opening made m ∷ ascending k t.more) next;
      }
  owns_tells entry m x found TooManyChanges is = no_more m _ _ refl refl
  owns_tells entry m x found LogFull is = no_more m _ _ refl refl

  own_tells : (entry : Entry) (m : Machine) (found : Option Open) → open_of m entry.session ≡ found → Tells m (own_first d opening made found entry m).next (own_first d opening made found entry m).words
  own_tells entry m None is = alone m _ _ (defining_tells entry [] m m.history.open_ refl)
  own_tells entry m (Some x) is = owns_tells entry m x is (ending_of d opening made m (commit_of x)) refl

  bound_tells : (entry : Entry) (m : Machine) (is_first : Bool) → Tells m (bound_definition d opening made is_first entry m).next (bound_definition d opening made is_first entry m).words
  bound_tells entry m true = own_tells entry m (open_of m entry.session) refl
  bound_tells entry m false = alone m _ _ (defining_tells entry [] m m.history.open_ refl)

  definition_tells : (entry : Entry) (m : Machine) (is_first : Bool) (why : Option Text) → Tells m (definition_by d opening made is_first why entry m).next (definition_by d opening made is_first why entry m).words
  definition_tells entry m is_first (Some why) = refused_tells entry m why
  definition_tells entry m is_first None = bound_tells entry m is_first

  -- ---- the others

  start_tells : (entry : Entry) (modes : NewModes) (m : Machine) (open_ : Bool) → Tells m (attempt_start d opening made open_ modes entry m).next (attempt_start d opening made open_ modes entry m).words
  start_tells entry modes m true = refused_tells entry m open_transaction
  start_tells entry modes m false = let n = named d opening made modes entry.session m in no_more m _ _ (taken_by (is_open n entry.session) (begins_event d opening made n entry.session) n (commits_of m) refl) refl

  commit_tells : (who : ℕ) (m : Machine) (x : Open) → open_of m who ≡ Some x → (how : Ending) → ending_of d opening made m (commit_of x) ≡ how → Tells m (commit_by d opening made how who m).next (commit_by d opening made how who m).words
  commit_tells who m x found Empty is = no_more m _ _ (own_none m who x found is) refl
  commit_tells who m x found Fits is = one_more m _ _ (own_one m who x found is) refl
  commit_tells who m x found TooManyChanges is = no_more m _ _ refl refl
  commit_tells who m x found LogFull is = no_more m _ _ refl refl

  commits_tell : (who : ℕ) (m : Machine) (found : Option Open) → open_of m who ≡ found → Tells m (attempt_commit d opening made found who m).next (attempt_commit d opening made found who m).words
  commits_tell who m None is = no_more m _ _ refl refl
  commits_tell who m (Some x) is = commit_tells who m x is (ending_of d opening made m (commit_of x)) refl

  rollback_tells : (who : ℕ) (m : Machine) (open_ : Bool) → Tells m (attempt_rollback d opening made open_ who m).next (attempt_rollback d opening made open_ who m).words
  rollback_tells who m false = no_more m _ _ refl refl
  rollback_tells who m true = no_more m _ _ refl refl

  control_none : (r : ControlReply) (control : Control) → commits_in (control_words d opening made r control) ≡ []
  control_none reply.Ok control = refl
  control_none reply.OpenTransaction control = refl
  control_none reply.NoSavepoint control = refl

  control_told_none : (found : Option Open) (r : ControlReply) (control : Control) (m : Machine) → commits_in (control_told d opening made found r control m) ≡ []
  control_told_none None r control m = control_none r control
  control_told_none (Some x) r control m = control_none (controlled control (session_in x.trace)).0 control

  ready_same : (b : Bool) (control : Control) (who : ℕ) (m : Machine) → commits_of (if b then takes d opening made (begins_event d opening made m who) m else m) ≡ commits_of m
  ready_same true control who m = taken_by (is_open m who) (begins_event d opening made m who) m (commits_of m) refl
  ready_same false control who m = refl

  noted_same : (b : Bool) (control : Control) (who : ℕ) (m : Machine) → commits_of (if b then happens d opening (event m who false false (act.Says (OnSession control))) m else m) ≡ commits_of m
  noted_same true control who m = refl
  noted_same false control who m = refl

  control_tells : (control : Control) (who : ℕ) (m : Machine) → Tells m (in_transaction d opening made control who (ready d opening made control who m)).next (in_transaction d opening made control who (ready d opening made control who m)).words
  control_tells control who m =
      let n = ready d opening made control who m in
      no_more m _ _ (noted_same (is_open n who) control who n ∙ ready_same (is_savepoint control && not (settings_of m who).autocommit && not (is_open m who)) control who m)
      (control_told_none (open_of n who) (controlled control (session_seen (settings_of n who) (open_of n who))).0 control n)

  request_tells : (entry : Entry) (m : Machine) (is_first : Bool) (r : Request) → Tells m (attempt_by d opening made r is_first entry m).next (attempt_by d opening made r is_first entry m).words
  request_tells entry m is_first (request.Faulty why) = refused_tells entry m why
  request_tells entry m is_first request.OfData = let o = own_of d opening made m (data_event d opening made m entry false) in data_tells entry m (d.refusal o.read_only (seen_by d opening made m o) entry.text)
  request_tells entry m is_first request.OfDefinition = let o = own_of d opening made m (commits_event d opening made m entry.session) in definition_tells entry m is_first (d.refusal o.read_only (seen_by d opening made m o) entry.text)
  request_tells entry m is_first (request.Starts modes) = start_tells entry modes m (is_open m entry.session)
  request_tells entry m is_first request.Commits = commits_tell entry.session m (open_of m entry.session) refl
  request_tells entry m is_first request.RollsBack = rollback_tells entry.session m (is_open m entry.session)
  request_tells entry m is_first (request.OnSettings control) = control_tells control entry.session m

  attempt_tells : (is_first : Bool) (entry : Entry) (m : Machine) → Tells m (attempt d opening made is_first entry m).next (attempt d opening made is_first entry m).words
  attempt_tells is_first entry m = request_tells entry m is_first (d.request entry.text)

  -- ---- turns

  abbrev TellsLines : Machine → Turned → Type 0
  TellsLines m t = (more : ℕ) × ((commits_of t.next ≡ commits_of m + more) × (commits_told t.lines ≡ ascending (next_number d opening made m) more))

  begun_tells : (b : Bool) (entry : Entry) (a : Attempt) (m : Machine) → Tells m a.next a.words → TellsLines m (begun_by b entry a)
  begun_tells true entry a m t = (t.more, (t.grown, lines_tell entry.number (name_of a.next entry.session) a.words ∙ t.told_))
  begun_tells false entry a m t = (t.more, (t.grown, lines_tell entry.number (name_of a.next entry.session) a.words ∙ t.told_))

  begins_tells : (entry : Entry) (m : Machine) → TellsLines m (begins d opening made entry m)
  begins_tells entry m = let a = attempt d opening made true entry m in begun_tells a.final entry a m (attempt_tells true entry m)

  none_told : (first more : ℕ) → ascending first more ≡ [] → more ≡ 0
  none_told first zero e = refl
  none_told first (suc n) e = absurd cc

  retried_tells : (b : Bool) (entry : Entry) (a : Attempt) (m : Machine) → Tells m a.next a.words → (b ≡ false → commits_in a.words ≡ []) → TellsLines m (retried_by b entry a)
  retried_tells true entry a m t still = (t.more, (t.grown, lines_tell entry.number (name_of a.next entry.session) a.words ∙ t.told_))
  retried_tells false entry a m t still = let zero_ : t.more ≡ 0 = none_told (next_number d opening made m) t.more (sym t.told_ ∙ still refl) in (0, (t.grown ∙ ap (λ (k : ℕ). commits_of m + k) zero_, refl))

  retries_tells : (entry : Entry) (m : Machine) → TellsLines m (retries d opening made entry m)
  retries_tells entry m = let a = attempt d opening made false entry m in retried_tells a.final entry a m (attempt_tells false entry m) (λ e. (quiet d opening made entry m e).1)

  admits_tells : (b : Bool) (entry : Entry) (m : Machine) → TellsLines m (admits d opening made b entry m)
  admits_tells true entry m = (0, (omega arith, refl))
  admits_tells false entry m = begins_tells entry m

  either_tells : (b : Bool) (m : Machine) (x y : Turned) → TellsLines m x → TellsLines m y → TellsLines m (if b then x else y)
  either_tells true m x y p q = p
  either_tells false m x y p q = q

  session_tells : (found : Option ℕ) (number : ℕ) (name statement : Text) (m : Machine) → TellsLines m (of_session d opening made found number name statement m)
  session_tells (Some s) number name statement m = admits_tells (is_waiting s m.seen) (record { number = number; session = s; text = whole_text name statement }) m
  session_tells None number name statement m =
      either_tells (nat_lt (length m.names) 64) m _ _ (begins_tells (record { number = number; session = length m.names + 1; text = whole_text name statement }) (with_session name (present d opening made m).level m)) (0, (omega arith, refl))

  reads_tells : (i : Item) (m : Machine) → TellsLines m (reads d opening made i m)
  reads_tells (item.Entry number name statement at) m = session_tells (number_from 1 name m.names) number name statement m
  reads_tells (item.Bad number) m = (0, (omega arith, refl))
  reads_tells (item.TooLong number) m = (0, (omega arith, refl))
  reads_tells item.End m = (0, (omega arith, refl))

  closes_tells : (b : Bool) (s : ℕ) (m : Machine) → TellsLines m (closes d opening made b s m)
  closes_tells true s m = (0, (omega arith, refl))
  closes_tells false s m = (0, (omega arith, refl))

  abbrev TO : Machine → Option Turned → Type 0
  TO m None = Unit {0}
  TO m (Some t) = TellsLines m t

  closing_tells : (found : Option ℕ) (m : Machine) → TO m (closing d opening made found m)
  closing_tells None m = tt
  closing_tells (Some s) m = closes_tells (is_open m s) s m

  input_tells : (items : List Item) (m : Machine) → TO m (from_input d opening made items m)
  input_tells (i ∷ items) m = reads_tells i (record m { unread = items })
  input_tells [] m = closing_tells (closes_next m) m

  queue_tells : (found : Option (Entry × List Entry)) (m : Machine) → TO m (from_queue d opening made found m)
  queue_tells (Some found) m = begins_tells found.0 (record m { queue = found.1 })
  queue_tells None m = input_tells m.unread m

  pass_tells : (again : Bool) (m : Machine) → TO m (after_pass d opening made again m)
  pass_tells true m = (0, (omega arith, refl))
  pass_tells false m = queue_tells (ready_among m.seen m.queue) m

  in_pass_tells : (ws : List Entry) (m : Machine) → TO m (in_pass d opening made ws m)
  in_pass_tells (w ∷ ws) m = retries_tells w (record m { pass = ws })
  in_pass_tells [] m = pass_tells m.again m

  -- ---- runs

  abbrev TellsRun : ℕ → Machine → Type 0
  TellsRun k m = (more : ℕ) × ((commits_of (after d opening made k m) ≡ commits_of m + more) × (commits_told (lines d opening made k m) ≡ ascending (next_number d opening made m) more))

  run_by : (k : ℕ) (m : Machine) (t : Option Turned) → TO m t → ((x : Machine) → TellsRun k x)
      → (more : ℕ) × ((commits_of (elim t [ None ↦ m | Some u ↦ after d opening made k u.next ]) ≡ commits_of m + more) × (commits_told (elim t [ None ↦ [] | Some u ↦ u.lines ++ lines d opening made k u.next ]) ≡ ascending (next_number d opening made m) more))
  run_by k m None o rest = (0, (omega arith, refl))
  run_by k m (Some t) o rest =
      let r = rest t.next in
      let next : made + commits_of t.next + 1 ≡ next_number d opening made m + o.0 = omega (arith, o.1.0) in (
        o.0 + r.0,
        (
          omega (arith, r.1.0, o.1.0),
          told_append t.lines (lines d opening made k t.next) ∙ ap₂ (λ (a b : List ℕ). a ++ b) o.1.1 (r.1.1 ∙ ap (λ (x : ℕ). ascending x r.0) next) ∙ sym (ascending_more (next_number d opening made m) o.0 r.0),
        ),
      )

  pub run_tells : (k : ℕ) (m : Machine) → TellsRun k m
  unfolding lines after
  run_tells zero m = (0, (omega arith, refl))
  run_tells (suc k) m = run_by k m (turn d opening made m) (in_pass_tells m.pass m) (run_tells k)
