-- Each item gets one reply, or still waits for it.
use Rattle.std.proofs.Common.{◌≡◌, ℕ, zero, suc, ◌+◌, ◌*◌, ◌==◌, ◌&&◌, Bool, true, false, cond, List, [], ◌∷◌, ◌++◌, map, length, refl, sym, ap, ◌∙◌, arith}
use Rattle.std.specs.Prelude.{Option, None, Some, Result, Ok, Err, if◌then◌else◌, nat_lt, count_by, codes}
use Rattle.std.proofs.lemmas.List.Sums.{sum_by-append}
use Rattle.hs_ast.specs.declared.session.Modes.{Modes as NewModes}
use Rattle.hs_claims.specs.declared.claim.Claim.{Claim}
use Rattle.hs_claims.specs.Wants.{wants_of}
use Rattle.hs_entries.specs.declared.item.Item.{Item}
use Rattle.hs_entries.specs.declared.item.Item.TheVariants as item
use Rattle.hs_plan.specs.declared.definition.Definition.{Definition}
use Rattle.hs_changes.specs.Changes.{count_all_inserted}
use Rattle.hs_schema.specs.Catalogue.{Text}
use Rattle.hs_sessions.specs.declared.control.Control.{Control}
use Rattle.hs_sessions.specs.declared.control.ControlReply.{ControlReply}
use Rattle.hs_sessions.specs.declared.control.ControlReply.TheVariants as reply
use Rattle.hs_sessions.specs.Book.{number_from}
use Rattle.hs_sessions.specs.Settings.{controlled}
use Rattle.hs_turns.specs.Database.{Database, view}
use Rattle.hs_turns.specs.Transactions.{session_in}
use Rattle.hs_turns.specs.Transactions.Statement.{Data}
use Rattle.hs_turns.specs.Histories.{Open, base, commit_of, is_free, newer, no_conflict, others}
use Rattle.hs_turns.specs.Events.{definition_commit, said}
use Rattle.hs_turns.specs.Dialect.{Dialect, Request, language_of, open_transaction, refused_words}
use Rattle.hs_turns.specs.Dialect.{Request as request}
use Rattle.hs_turns.specs.Lines.{Words, RowOf, Replies, First, WaitsFor, OfItem, told, is_reply, replies_to, replies_among, no_session}
use Rattle.hs_turns.specs.Waiting.{Entry, is_waiting}
use Rattle.hs_turns.specs.Machine.{Machine, settings_of, open_of, is_open, session_seen, name_of, with_session}
use Rattle.hs_turns.specs.Attempts.{Attempt, Ending, Empty, Fits, TooManyChanges, LogFull, blockers, open_sessions, leading_back, ending_of, own_of, seen_by, refusal_told, refused_in_place, newest, control_told, data_event, auto_ended, went_on, held_up_data, judged_data, data_by, defined_by, defined, held_up, defining, commits_event, committed_own, own_by, own_first, bound_definition, definition_by, attempt_start, commit_by, attempt_commit, left_own, attempt_rollback, ready, control_words, in_transaction, attempt_by, attempt, present, next_number}
use Rattle.hs_turns.specs.Turns.{Turned, begun_by, retried_by, ready_among, whole_text, closes_next, begins, admits, of_session, reads, closes, closing, from_input, from_queue, after_pass, in_pass, turn, after, lines, lines_of}
use Rattle.hs_turns.specs.Laws.{is_item, is_entry, owed}
use Rattle.hs_turns.proofs.Follows.{Follows, attempts, leaves}

-- ---- counting

abbrev one : Bool → ℕ
one true = 1
one false = 0

abbrev Counts : {X : Type 0} → (X → Bool) → List X → ℕ
Counts p xs = count_by p xs

counted : {X : Type 0} (p : X → Bool) (x : X) (xs : List X) → count_by p (x ∷ xs) ≡ cond (p x) 1 0 + count_by p xs
counted p x xs = omega (arith, sum_by-append (λ y. cond (p y) 1 0) (x ∷ []) xs)

appended : {X : Type 0} (p : X → Bool) (xs ys : List X) → count_by p (xs ++ ys) ≡ count_by p xs + count_by p ys
appended p xs ys = sum_by-append (λ y. cond (p y) 1 0) xs ys

rows_none : (rows : List Text) → count_by is_reply (map RowOf rows) ≡ 0
rows_none [] = refl
rows_none (row ∷ rows) = omega (arith, counted is_reply (RowOf row) (map RowOf rows), rows_none rows)

told_once : (rows : List Text) (text : Text) (commit : Option ℕ) → count_by is_reply (told rows text commit) ≡ 1
told_once rows text commit = appended is_reply (map RowOf rows) (Replies text commit ∷ []) ∙ ap (λ (k : ℕ). k + 1) (rows_none rows)

behind_once : (before : List Words) (text : Text) (commit : Option ℕ) → count_by is_reply before ≡ 0 → count_by is_reply (before ++ Replies text commit ∷ []) ≡ 1
behind_once before text commit none = appended is_reply before (Replies text commit ∷ []) ∙ ap (λ (k : ℕ). k + 1) none

behind_none : (before : List Words) (names : List Text) → count_by is_reply before ≡ 0 → count_by is_reply (before ++ WaitsFor names ∷ []) ≡ 0
behind_none before names none = appended is_reply before (WaitsFor names ∷ []) ∙ ap (λ (k : ℕ). k + 0) none

-- ---- an attempt replies once, or makes its entry wait

abbrev pub Once : Attempt → Type 0
Once a = count_by is_reply a.words ≡ cond a.final 1 0

module _ (d : Dialect) (opening : Database) (made : ℕ) where
  control_once : (r : ControlReply) (control : Control) → count_by is_reply (control_words d opening made r control) ≡ 1
  control_once reply.Ok control = refl
  control_once reply.OpenTransaction control = refl
  control_once reply.NoSavepoint control = refl

  abbrev NewestOnce : Open → Type 0
  NewestOnce o = (commit : Option ℕ) → count_by is_reply (newest d opening made o commit) ≡ 1

  auto_once : (how : Ending) (entry : Entry) (after : Open) (m : Machine) → NewestOnce after → Once (auto_ended d opening made how entry after m)
  auto_once Empty entry after m once = once None
  auto_once Fits entry after m once = once (Some (next_number d opening made m))
  auto_once TooManyChanges entry after m once = refl
  auto_once LogFull entry after m once = refl

  went_once : (auto : Bool) (entry : Entry) (after : Open) (m : Machine) → NewestOnce after → Once (went_on d opening made auto entry after m)
  went_once true entry after m once = auto_once (ending_of d opening made m (commit_of after)) entry after m once
  went_once false entry after m once = once None

  said_once : (entry : Entry) (o : Open) (db : Database) → NewestOnce (said (language_of d) db (Data entry.text) o)
  said_once entry o db commit = let out = (language_of d).outcome o.read_only (count_all_inserted o.trace.changes) (view db o.trace.changes) entry.text in told_once out.rows out.reply commit

  held_once : (back : Option ℕ) (b : List ℕ) (entry : Entry) (m : Machine) → Once (held_up_data d opening made back b entry m)
  held_once (Some back) b entry m = refl
  held_once None b entry m = refl

  judged_once : (free clear : Bool) (entry : Entry) (o : Open) (wanted : List Claim) (m : Machine) → Once (judged_data d opening made free clear entry o wanted m)
  judged_once true true entry o wanted m = let db = base m.history.kind opening m.history.commits o in went_once o.auto entry (said (language_of d) db (Data entry.text) o) m (said_once entry o db)
  judged_once true false entry o wanted m = refl
  judged_once false clear entry o wanted m = let b = blockers m entry.session wanted in held_once (leading_back m entry.session b) b entry m

  refusal_by : (auto : Bool) (why : Text) (words : List Words) → count_by is_reply words ≡ 1 → count_by is_reply (if auto then Replies why None ∷ [] else words) ≡ 1
  refusal_by true why words once = refl
  refusal_by false why words once = once

  refusal_once : (found : Option Open) (entry : Entry) (why : Text) (m : Machine) → count_by is_reply (refusal_told d opening made found entry why m) ≡ 1
  refusal_once None entry why m = refl
  refusal_once (Some o) entry why m = let db = base m.history.kind opening m.history.commits o in refusal_by o.auto (refused_words why) (newest d opening made (said (language_of d) db (Data entry.text) o) None) (said_once entry o db None)

  refused_once : (entry : Entry) (why : Text) (m : Machine) → Once (refused_in_place d opening made entry why m)
  refused_once entry why m = refusal_once (open_of m entry.session) entry why m

  data_once : (why : Option Text) (entry : Entry) (o : Open) (m : Machine) → Once (data_by d opening made why entry o m)
  data_once (Some why) entry o m = refused_once entry why m
  data_once None entry o m =
      let f = ((language_of d).outcome o.read_only (count_all_inserted o.trace.changes) (seen_by d opening made m o) entry.text).foot in
      judged_once (is_free m.history.kind o f (others entry.session m.history.open_)) (no_conflict m.history.kind o f (newer m.history.commits o)) entry o (wants_of m.history.kind o.level o.read_only f) m

  defines_once : (how : Ending) (before : List Words) (entry : Entry) (m : Machine) → count_by is_reply before ≡ 0 → Once (defined_by d opening made how before entry m)
  defines_once Empty before entry m none = behind_once before (codes "ok") None none
  defines_once Fits before entry m none = behind_once before (codes "ok") (Some (next_number d opening made m)) none
  defines_once TooManyChanges before entry m none = behind_once before _ None none
  defines_once LogFull before entry m none = behind_once before _ None none

  defined_once : (found : Result Definition Text) (before : List Words) (entry : Entry) (m : Machine) → count_by is_reply before ≡ 0 → Once (defined d opening made found before entry m)
  defined_once (Err why) before entry m none = behind_once before _ None none
  defined_once (Ok definition) before entry m none = defines_once (ending_of d opening made m (definition_commit entry.session definition)) before entry m none

  blocked_once : (back : Option ℕ) (b : List ℕ) (before : List Words) (entry : Entry) (m : Machine) → count_by is_reply before ≡ 0 → Once (held_up d opening made back b before entry m)
  blocked_once (Some back) b before entry m none = behind_once before _ None none
  blocked_once None b before entry m none = behind_none before _ none

  defining_once : (os : List Open) (before : List Words) (entry : Entry) (m : Machine) → count_by is_reply before ≡ 0 → Once (defining d opening made os before entry m)
  defining_once [] before entry m none = defined_once (d.definition (present d opening made m) entry.text) before entry m none
  defining_once (o ∷ os) before entry m none = let b = open_sessions m in blocked_once (leading_back m entry.session b) b before entry m none

  owns_once : (how : Ending) (entry : Entry) (m : Machine) → Once (own_by d opening made how entry m)
  owns_once Empty entry m = let next = committed_own d opening made m entry.session in defining_once next.history.open_ [] entry next refl
  owns_once Fits entry m = let next = committed_own d opening made m entry.session in defining_once next.history.open_ (First (next_number d opening made m) ∷ []) entry next refl
  owns_once TooManyChanges entry m = refl
  owns_once LogFull entry m = refl

  first_once : (found : Option Open) (entry : Entry) (m : Machine) → Once (own_first d opening made found entry m)
  first_once None entry m = defining_once m.history.open_ [] entry m refl
  first_once (Some o) entry m = owns_once (ending_of d opening made m (commit_of o)) entry m

  bound_once : (is_first : Bool) (entry : Entry) (m : Machine) → Once (bound_definition d opening made is_first entry m)
  bound_once true entry m = first_once (open_of m entry.session) entry m
  bound_once false entry m = defining_once m.history.open_ [] entry m refl

  definition_once : (is_first : Bool) (why : Option Text) (entry : Entry) (m : Machine) → Once (definition_by d opening made is_first why entry m)
  definition_once is_first (Some why) entry m = refused_once entry why m
  definition_once is_first None entry m = bound_once is_first entry m

  start_once : (open_ : Bool) (modes : NewModes) (entry : Entry) (m : Machine) → Once (attempt_start d opening made open_ modes entry m)
  start_once true modes entry m = refused_once entry open_transaction m
  start_once false modes entry m = refl

  commit_once : (how : Ending) (s : ℕ) (m : Machine) → Once (commit_by d opening made how s m)
  commit_once Empty s m = refl
  commit_once Fits s m = refl
  commit_once TooManyChanges s m = refl
  commit_once LogFull s m = refl

  commits_once : (found : Option Open) (s : ℕ) (m : Machine) → Once (attempt_commit d opening made found s m)
  commits_once None s m = refl
  commits_once (Some o) s m = commit_once (ending_of d opening made m (commit_of o)) s m

  rollback_once : (open_ : Bool) (s : ℕ) (m : Machine) → Once (attempt_rollback d opening made open_ s m)
  rollback_once false s m = refl
  rollback_once true s m = refl

  control_told_once : (found : Option Open) (r : ControlReply) (control : Control) (m : Machine) → count_by is_reply (control_told d opening made found r control m) ≡ 1
  control_told_once None r control m = control_once r control
  control_told_once (Some o) r control m = control_once (controlled control (session_in o.trace)).0 control

  controls_once : (control : Control) (s : ℕ) (m : Machine) → Once (in_transaction d opening made control s m)
  controls_once control s m = control_told_once (open_of m s) (controlled control (session_seen (settings_of m s) (open_of m s))).0 control m

  request_once : (r : Request) (is_first : Bool) (entry : Entry) (m : Machine) → Once (attempt_by d opening made r is_first entry m)
  request_once (request.Faulty why) is_first entry m = refused_once entry why m
  request_once request.OfData is_first entry m = let o = own_of d opening made m (data_event d opening made m entry false) in data_once (d.refusal o.read_only (seen_by d opening made m o) entry.text) entry o m
  request_once request.OfDefinition is_first entry m = let o = own_of d opening made m (commits_event d opening made m entry.session) in definition_once is_first (d.refusal o.read_only (seen_by d opening made m o) entry.text) entry m
  request_once (request.Starts modes) is_first entry m = start_once (is_open m entry.session) modes entry m
  request_once request.Commits is_first entry m = commits_once (open_of m entry.session) entry.session m
  request_once request.RollsBack is_first entry m = rollback_once (is_open m entry.session) entry.session m
  request_once (request.OnSettings control) is_first entry m = controls_once control entry.session (ready d opening made control entry.session m)

  attempt_once : (is_first : Bool) (entry : Entry) (m : Machine) → Once (attempt d opening made is_first entry m)
  attempt_once is_first entry m = request_once (d.request entry.text) is_first entry m

  -- ---- turns

  module _ (n : ℕ) where
    of_item : (a b : Bool) (r c : ℕ) → r ≡ one a * c → cond (a && b) 1 0 + r ≡ one a * (cond b 1 0 + c)
    of_item true true r c e = omega (arith, e)
    of_item true false r c e = omega (arith, e)
    of_item false b r c e = omega (arith, e)

    told_lines : (number : ℕ) (name : Text) (words : List Words) → replies_among n (map (OfItem number name) words) ≡ one (number == n) * count_by is_reply words
    told_lines number name [] = omega arith
    told_lines number name (w ∷ ws) =
        counted (replies_to n) (OfItem number name w) (map (OfItem number name) ws)
        ∙ of_item (number == n) (is_reply w) (replies_among n (map (OfItem number name) ws)) (count_by is_reply ws) (told_lines number name ws)
        ∙ sym (ap (λ (k : ℕ). one (number == n) * k) (counted is_reply w ws))

    is_one : (b : Bool) → cond b 1 0 ≡ one b
    is_one true = refl
    is_one false = refl

    of_front : (e : Entry) (es : List Entry) → count_by (is_entry n) (e ∷ es) ≡ one (e.number == n) + count_by (is_entry n) es
    of_front e es = counted (is_entry n) e es ∙ ap (λ (k : ℕ). k + count_by (is_entry n) es) (is_one (e.number == n))

    at_back : (e : Entry) (es : List Entry) → count_by (is_entry n) (es ++ e ∷ []) ≡ count_by (is_entry n) es + one (e.number == n)
    at_back e es = appended (is_entry n) es (e ∷ []) ∙ ap (λ (k : ℕ). count_by (is_entry n) es + k) (of_front e [] ∙ omega arith)

    -- what an entry that is taken up leaves to do
    follows_owed : (m k : Machine) → Follows d opening m k → owed n k ≡ owed n m
    follows_owed m k f = omega (arith, ap (count_by (is_item n)) f.unread, ap (count_by (is_entry n)) f.queue, ap (count_by (is_entry n)) f.seen, ap (count_by (is_entry n)) f.pass)

    abbrev Told : ℕ → Turned → Type 0
    Told before t = replies_among n t.lines + owed n t.next ≡ before

    begun_told : (b : Bool) (entry : Entry) (a : Attempt) (m : Machine) → count_by is_reply a.words ≡ cond b 1 0 → Follows d opening m a.next → Told (one (entry.number == n) + owed n m) (begun_by b entry a)
    begun_told true entry a m once f =
        let told : replies_among n (lines_of entry a.next a.words) ≡ one (entry.number == n) * count_by is_reply a.words = told_lines entry.number (name_of a.next entry.session) a.words in
        let same = follows_owed m a.next f in
        let all : replies_among n (lines_of entry a.next a.words) ≡ one (entry.number == n) = told ∙ ap (λ (k : ℕ). one (entry.number == n) * k) once ∙ omega arith in
        omega (arith, all, same)
    begun_told false entry a m once f =
        let told : replies_among n (lines_of entry a.next a.words) ≡ one (entry.number == n) * count_by is_reply a.words = told_lines entry.number (name_of a.next entry.session) a.words in
        let same = follows_owed m a.next f in
        let all : replies_among n (lines_of entry a.next a.words) ≡ 0 = told ∙ ap (λ (k : ℕ). one (entry.number == n) * k) once ∙ omega arith in
        omega (arith, all, same, at_back entry a.next.seen)

    begins_told : (entry : Entry) (m : Machine) → Told (one (entry.number == n) + owed n m) (begins d opening made entry m)
    begins_told entry m = let a = attempt d opening made true entry m in begun_told a.final entry a m (attempt_once true entry m) (attempts d opening made true entry m)

    retried_told : (b : Bool) (entry : Entry) (a : Attempt) (m : Machine) → count_by is_reply a.words ≡ cond b 1 0 → Follows d opening m a.next → Told (one (entry.number == n) + owed n m) (retried_by b entry a)
    retried_told true entry a m once f =
        let told : replies_among n (lines_of entry a.next a.words) ≡ one (entry.number == n) * count_by is_reply a.words = told_lines entry.number (name_of a.next entry.session) a.words in
        let same = follows_owed m a.next f in
        let all : replies_among n (lines_of entry a.next a.words) ≡ one (entry.number == n) = told ∙ ap (λ (k : ℕ). one (entry.number == n) * k) once ∙ omega arith in
        omega (arith, all, same)
    retried_told false entry a m once f = let same = follows_owed m a.next f in omega (arith, same, at_back entry a.next.seen)

    admits_told : (b : Bool) (entry : Entry) (m : Machine) → Told (one (entry.number == n) + owed n m) (admits d opening made b entry m)
    admits_told true entry m = omega (arith, at_back entry m.queue)
    admits_told false entry m = begins_told entry m

    either_told : (b : Bool) (before : ℕ) (x y : Turned) → Told before x → Told before y → Told before (if b then x else y)
    either_told true before x y p q = p
    either_told false before x y p q = q

    refused_told : (number : ℕ) (name why : Text) (m : Machine) → Told (one (number == n) + owed n m) (record { lines = OfItem number name (Replies why None) ∷ []; next = m })
    refused_told number name why m = ap (λ (k : ℕ). k + owed n m) (told_lines number name (Replies why None ∷ []) ∙ omega arith)

    session_told : (found : Option ℕ) (number : ℕ) (name statement : Text) (m : Machine) → Told (one (number == n) + owed n m) (of_session d opening made found number name statement m)
    session_told (Some s) number name statement m = admits_told (is_waiting s m.seen) (record { number = number; session = s; text = whole_text name statement }) m
    session_told None number name statement m =
        either_told (nat_lt (length m.names) 64) (one (number == n) + owed n m) _ _
        (begins_told (record { number = number; session = length m.names + 1; text = whole_text name statement }) (with_session name (present d opening made m).level m)) (refused_told number name (refused_words (codes "sessions")) m)

    reads_told : (i : Item) (m : Machine) → Told (cond (is_item n i) 1 0 + owed n m) (reads d opening made i m)
    reads_told (item.Entry number name statement at) m = session_told (number_from 1 name m.names) number name statement m ∙ ap (λ (k : ℕ). k + owed n m) (sym (is_one (number == n)))
    reads_told (item.Bad number) m = refused_told number no_session (refused_words (codes "entry")) m ∙ ap (λ (k : ℕ). k + owed n m) (sym (is_one (number == n)))
    reads_told (item.TooLong number) m = refused_told number no_session (refused_words (codes "too long")) m ∙ ap (λ (k : ℕ). k + owed n m) (sym (is_one (number == n)))
    reads_told item.End m = omega arith

    closes_told : (b : Bool) (s : ℕ) (m : Machine) → Told (owed n m) (closes d opening made b s m)
    closes_told true s m = omega (arith, follows_owed m (left_own d opening made s m) (leaves d opening made s m))
    closes_told false s m = omega arith

    abbrev TO : ℕ → Option Turned → Type 0
    TO before None = Unit {0}
    TO before (Some t) = Told before t

    closing_told : (found : Option ℕ) (m : Machine) → TO (owed n m) (closing d opening made found m)
    closing_told None m = tt
    closing_told (Some s) m = closes_told (is_open m s) s m

    input_told : (items : List Item) (m : Machine) → m.unread ≡ items → TO (owed n m) (from_input d opening made items m)
    input_told (i ∷ items) m is = reads_told i (record m { unread = items }) ∙ omega (arith, ap (count_by (is_item n)) is, counted (is_item n) i items)
    input_told [] m is = closing_told (closes_next m) m

    -- ---- the queue

    abbrev Taken : List Entry → Option (Entry × List Entry) → Type 0
    Taken queue None = Unit {0}
    Taken queue (Some found) = count_by (is_entry n) queue ≡ one (found.0.number == n) + count_by (is_entry n) found.1

    taken_behind : (r : Option (Entry × List Entry)) (q : Entry) (queue : List Entry) → Taken queue r → Taken (q ∷ queue) (elim r as (λ _. Option (Entry × List Entry)) [ None ↦ None | Some found ↦ Some (found.0, q ∷ found.1) ])
    taken_behind None q queue t = tt
    taken_behind (Some found) q queue t = omega (arith, of_front q queue, of_front q found.1, t)

    taken_by : (b : Bool) (r : Option (Entry × List Entry)) (q : Entry) (queue : List Entry) → Taken queue r
        → Taken (q ∷ queue) (if b then elim r as (λ _. Option (Entry × List Entry)) [ None ↦ None | Some found ↦ Some (found.0, q ∷ found.1) ] else Some (q, queue))
    taken_by true r q queue t = taken_behind r q queue t
    taken_by false r q queue t = of_front q queue

    taken : (waiting queue : List Entry) → Taken queue (ready_among waiting queue)
    taken waiting [] = tt
    taken waiting (q ∷ queue) = taken_by (is_waiting q.session waiting) (ready_among waiting queue) q queue (taken waiting queue)

    queue_told : (found : Option (Entry × List Entry)) (m : Machine) → Taken m.queue found → TO (owed n m) (from_queue d opening made found m)
    queue_told (Some found) m t = begins_told found.0 (record m { queue = found.1 }) ∙ omega (arith, t)
    queue_told None m t = input_told m.unread m refl

    pass_told : (again : Bool) (m : Machine) → m.pass ≡ [] → TO (owed n m) (after_pass d opening made again m)
    pass_told true m none = omega (arith, ap (count_by (is_entry n)) none)
    pass_told false m none = queue_told (ready_among m.seen m.queue) m (taken m.seen m.queue)

    in_pass_told : (ws : List Entry) (m : Machine) → m.pass ≡ ws → TO (owed n m) (in_pass d opening made ws m)
    in_pass_told (w ∷ ws) m is =
        let mid = record m { pass = ws } in
        let a = attempt d opening made false w mid in
        retried_told a.final w a mid (attempt_once false w mid) (attempts d opening made false w mid) ∙ omega (arith, ap (count_by (is_entry n)) is, of_front w ws)
    in_pass_told [] m is = pass_told m.again m is

    turn_told : (m : Machine) → TO (owed n m) (turn d opening made m)
    turn_told m = in_pass_told m.pass m refl

    -- ---- runs

    run_by : (k : ℕ) (m : Machine) (t : Option Turned) → TO (owed n m) t → ((x : Machine) → replies_among n (lines d opening made k x) + owed n (after d opening made k x) ≡ owed n x)
        → replies_among n (elim t [ None ↦ [] | Some u ↦ u.lines ++ lines d opening made k u.next ]) + owed n (elim t [ None ↦ m | Some u ↦ after d opening made k u.next ]) ≡ owed n m
    run_by k m None now rest = omega arith
    run_by k m (Some t) now rest = omega (arith, now, rest t.next, appended (replies_to n) t.lines (lines d opening made k t.next))

    pub run_told : (k : ℕ) (m : Machine) → replies_among n (lines d opening made k m) + owed n (after d opening made k m) ≡ owed n m
    unfolding lines after
    run_told zero m = omega arith
    run_told (suc k) m = run_by k m (turn d opening made m) (turn_told m) (run_told k)
