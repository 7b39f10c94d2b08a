-- What attempts tell is plain.
use Rattle.std.proofs.Common.{◌≡◌, ℕ, zero, suc, ◌-◌, Bool, true, false, List, [], ◌∷◌, ◌++◌, length, map, refl, ap, ◌∙◌, subst, arith}
use Rattle.std.specs.Prelude.{Option, None, Some, Result, Ok, Err, if◌then◌else◌, slice_index_or, codes}
use Rattle.std.specs.Fmt.{decimal}
use Rattle.std.specs.Str.{is_utf8}
use Rattle.hs_ast.specs.declared.session.Modes.{Modes as NewModes}
use Rattle.hs_claims.specs.declared.claim.Claim.{Claim}
use Rattle.hs_claims.specs.Wants.{wants_of}
use Rattle.hs_plan.specs.declared.definition.Definition.{Definition}
use Rattle.hs_changes.specs.Changes.{count_all_inserted}
use Rattle.hs_schema.specs.Catalogue.{Text, Things}
use Rattle.hs_sessions.specs.declared.control.Control.{Control}
use Rattle.hs_sessions.specs.declared.control.ControlReply.{ControlReply}
use Rattle.hs_sessions.specs.declared.control.ControlReply.TheVariants as reply
use Rattle.hs_sessions.specs.Settings.{controlled}
use Rattle.hs_turns.specs.Database.{Database, view}
use Rattle.hs_turns.specs.Each.{Each}
use Rattle.hs_turns.specs.Language.{Outcome}
use Rattle.hs_turns.specs.Transactions.{session_in}
use Rattle.hs_turns.specs.Transactions.Statement.{Data}
use Rattle.hs_turns.specs.Histories.{Open, base, commit_of, is_free, newer, no_conflict, others}
use Rattle.hs_turns.specs.Events.{Event, definition_commit, fresh, said}
use Rattle.hs_turns.proofs.Lists.{each_append}
use Rattle.hs_turns.proofs.Opened.{own_found}
use Rattle.hs_turns.specs.Dialect.{Dialect, Request, language_of, nothing, open_transaction, outcome_of, refused_words, unless_refused}
use Rattle.hs_turns.specs.Dialect.{Request as request}
use Rattle.hs_turns.specs.Lines.{Words, RowOf, Replies, First, WaitsFor, listed, told}
use Rattle.hs_turns.specs.Waiting.{Entry}
use Rattle.hs_turns.specs.Machine.{Machine, happens, is_open, name_of, open_of, session_seen, settings_of, with_modes_used}
use Rattle.hs_turns.specs.Attempts.{Ending, Empty, Fits, TooManyChanges, LogFull, attempt, attempt_by, attempt_commit, attempt_rollback, attempt_start, auto_ended, blockers, bound_definition, commit_by, commits_event, committed_own, control_told, control_words, data_by, data_event, deadlock_words, defined, defined_by, defining, definition_by, ending_of, held_up, held_up_data, in_transaction, judged_data, leading_back, newest, next_number, open_sessions, own_by, own_first, own_of, present, ready, refusal_told, refused_in_place, savepoint_of, seen_by, takes, went_on}
use Rattle.hs_plainwords.specs.Answers.{is_final}
use Rattle.hs_plainwords.specs.Dialects.{IsPlainDialect, IsPlainOutcome, IsPlainRequest}
use Rattle.hs_plainwords.specs.Plain.{IsPlainText, IsPlainReason, IsPlainRow}
use Rattle.hs_plainwords.proofs.Named.{Named, base_named, now_named, outcome_plain, steps}
use Rattle.hs_plainwords.proofs.Silent.{IsCalled, IsPlainReply, IsPlainWords, called_silent, led, listed_silent, numbered, plain, unnumbered}

abbrev pub ArePlain : List Words → Type 0
ArePlain words = Each IsPlainWords words

-- ---- replies of the machine's own

ok_plain : IsPlainReply (codes "ok")
ok_plain = record { plain = plain (codes "ok") (unnumbered (codes "ok") refl refl); final = refl }

-- a refusal, by its reason
pub told_why : (why : Text) → IsPlainReason why → IsPlainReply (refused_words why)
told_why why its = record { plain = its; final = refl }

changes_plain : IsPlainReason (codes "changes")
changes_plain = plain (codes "refused changes") (unnumbered (codes "refused changes") refl refl)

log_plain : IsPlainReason (codes "log full")
log_plain = plain (codes "refused log full") (unnumbered (codes "refused log full") refl refl)

open_plain : IsPlainReason open_transaction
open_plain = plain (codes "refused open transaction") (unnumbered (codes "refused open transaction") refl refl)

conflict_plain : (k : ℕ) → IsPlainReason (codes "conflict with " ++ decimal k)
conflict_plain k = plain _ (led (codes "refused conflict") (codes "with" ++ 32 ∷ decimal k) refl (numbered (codes "with") k refl refl (λ e. absurd (omega arith))))

deadlock_plain : (name : Text) → IsCalled name → IsPlainReason (codes "deadlock with " ++ name)
deadlock_plain name is = plain _ (led (codes "refused deadlock with") name refl (called_silent name is))

waits_plain : (names : List Text) → Each IsCalled names → IsPlainText (codes "waits for " ++ listed names)
waits_plain names all = plain _ (led (codes "waits for") (listed names) refl (listed_silent names all))

changes_told : IsPlainReply (refused_words (codes "changes"))
changes_told = told_why (codes "changes") changes_plain

log_told : IsPlainReply (refused_words (codes "log full"))
log_told = told_why (codes "log full") log_plain

deadlock_told : (name : Text) → IsCalled name → IsPlainReply (refused_words (codes "deadlock with " ++ name))
deadlock_told name is = told_why (codes "deadlock with " ++ name) (deadlock_plain name is)

-- ---- names of sessions

called_at : (names : List Text) → Each IsCalled names → (k : ℕ) → IsCalled (slice_index_or names k [])
called_at [] all k = record { single = refl; word = refl; begins = refl }
called_at (name ∷ names) all zero = all.0
called_at (name ∷ names) all (suc k) = called_at names all.1 k

pub named_called : (m : Machine) → Each IsCalled m.names → (s : ℕ) → IsCalled (name_of m s)
named_called m all s = called_at m.names all (s - 1)

all_called : (m : Machine) → Each IsCalled m.names → (ss : List ℕ) → Each IsCalled (map (name_of m) ss)
all_called m all [] = tt
all_called m all (s ∷ ss) = (named_called m all s, all_called m all ss)

-- ---- words

reply_plain : (text : Text) (commit : Option ℕ) → IsPlainText text → is_final text ≡ true → IsPlainWords (Replies text commit)
reply_plain text None its final = record { plain = its; final = final }
reply_plain text (Some n) its final = (its.single, final)

rows_plain : (rows : List Text) → Each IsPlainRow rows → ArePlain (map RowOf rows)
rows_plain [] all = tt
rows_plain (row ∷ rows) all = (all.0, rows_plain rows all.1)

told_plain : (o : Outcome) (commit : Option ℕ) → IsPlainOutcome o → is_final o.reply ≡ true → ArePlain (told o.rows o.reply commit)
told_plain o commit its final = each_append IsPlainWords (map RowOf o.rows) (Replies o.reply commit ∷ []) (rows_plain o.rows its.rows) (reply_plain o.reply commit its.reply final, tt)

behind : (before : List Words) (words : Words) → ArePlain before → IsPlainWords words → ArePlain (before ++ words ∷ [])
behind before words all its = each_append IsPlainWords before (words ∷ []) all (its, tt)

module _ (is_named : Things → Bool) (d : Dialect) (its : IsPlainDialect is_named d) (opening : Database) (made : ℕ) where
  abbrev NamedIn : Machine → Type 0
  NamedIn m = Named is_named d its opening m.history

  -- ---- replies of transactions

  -- what a text comes to in a transaction, where this is what it asks for
  abbrev out_by : Machine → Open → Text → Request → Outcome
  out_by m o text r = outcome_of d o.read_only (count_all_inserted o.trace.changes) (seen_by d opening made m o) text r

  -- it is told with `ok` or `refused`
  abbrev Ends : Machine → Text → Open → Type 0
  Ends m text o = is_final (out_by m o text (d.request text)).reply ≡ true

  ends_by : (m : Machine) (text : Text) (o : Open) (r : Request) → d.request text ≡ r → is_final (out_by m o text r).reply ≡ true → Ends m text o
  ends_by m text o r asks final = ap (λ (q : Request). is_final (out_by m o text q).reply) asks ∙ final

  -- a data statement that isn't refused so
  data_ends : (m : Machine) (text : Text) (o : Open) → d.request text ≡ request.OfData → d.refusal o.read_only (seen_by d opening made m o) text ≡ None → Ends m text o
  data_ends m text o asks none =
      let inserted = count_all_inserted o.trace.changes in
      let db = seen_by d opening made m o in
      ends_by m text o request.OfData asks (ap (λ (found : Option Text). is_final (unless_refused found (d.outcome o.read_only inserted db text)).reply) none ∙ its.answered o.read_only inserted db text asks none)

  -- one that is refused so, or a definition that is
  refusal_ends : (other : Outcome) (found : Option Text) (why : Text) → found ≡ Some why → is_final (unless_refused found other).reply ≡ true
  refusal_ends other found why is = ap (λ (f : Option Text). is_final (unless_refused f other).reply) is

  said_plain : (m : Machine) → NamedIn m → (o : Open) (text : Text) → is_utf8 text ≡ true → Ends m text o → (commit : Option ℕ) → ArePlain (newest d opening made (said (language_of d) (base m.history.kind opening m.history.commits o) (Data text) o) commit)
  said_plain m named o text good ends commit =
      let db = view (base m.history.kind opening m.history.commits o) o.trace.changes in
      told_plain ((language_of d).outcome o.read_only (count_all_inserted o.trace.changes) db text) commit
      (outcome_plain is_named d its o.read_only (count_all_inserted o.trace.changes) db text good (base_named is_named d its opening m.history.kind m.history.commits o named.states)) ends

  told_by : (m : Machine) → NamedIn m → (o : Open) (text why : Text) → is_utf8 text ≡ true → IsPlainReason why → Ends m text o → (auto : Bool)
      → ArePlain (if auto then Replies (refused_words why) None ∷ [] else newest d opening made (said (language_of d) (base m.history.kind opening m.history.commits o) (Data text) o) None)
  told_by m named o text why good reason ends true = (told_why why reason, tt)
  told_by m named o text why good reason ends false = said_plain m named o text good ends None

  refusal_plain : (m : Machine) → NamedIn m → (found : Option Open) (entry : Entry) (why : Text) → is_utf8 entry.text ≡ true → IsPlainReason why → ((o : Open) → found ≡ Some o → Ends m entry.text o) → ArePlain (refusal_told d opening made found entry why m)
  refusal_plain m named None entry why good reason ends = (told_why why reason, tt)
  refusal_plain m named (Some o) entry why good reason ends = told_by m named o entry.text why good reason (ends o refl) o.auto

  in_place : (m : Machine) → NamedIn m → (entry : Entry) (why : Text) → is_utf8 entry.text ≡ true → IsPlainReason why → ((o : Open) → open_of m entry.session ≡ Some o → Ends m entry.text o) → ArePlain (refused_in_place d opening made entry why m).words
  in_place m named entry why good reason ends = refusal_plain m named (open_of m entry.session) entry why good reason ends

  -- the open transaction of the session of an event is the one that the event speaks in
  own_ends : (m : Machine) (e : Event) (text : Text) → Ends m text (own_of d opening made m e) → (o : Open) → open_of m e.session ≡ Some o → Ends m text o
  own_ends m e text ends o is = subst (Ends m text) (own_found e.session (fresh m.history.kind e (length m.history.commits)) o m.history.open_ is) ends

  seen_named : (m : Machine) → NamedIn m → (o : Open) → is_named (seen_by d opening made m o).things ≡ true
  seen_named m named o = base_named is_named d its opening m.history.kind m.history.commits o named.states

  -- ---- queries, changes of rows, and LOCK TABLE

  module _ (m : Machine) (named : NamedIn m) (called : Each IsCalled m.names) (entry : Entry) (good : is_utf8 entry.text ≡ true) (asks : d.request entry.text ≡ request.OfData) where
    auto_plain : (how : Ending) (o : Open) → Ends m entry.text o → ArePlain (auto_ended d opening made how entry (said (language_of d) (base m.history.kind opening m.history.commits o) (Data entry.text) o) m).words
    auto_plain Empty o ends = said_plain m named o entry.text good ends None
    auto_plain Fits o ends = said_plain m named o entry.text good ends (Some (next_number d opening made m))
    auto_plain TooManyChanges o ends = (changes_told, tt)
    auto_plain LogFull o ends = (log_told, tt)

    went_plain : (auto : Bool) (o : Open) → Ends m entry.text o → ArePlain (went_on d opening made auto entry (said (language_of d) (base m.history.kind opening m.history.commits o) (Data entry.text) o) m).words
    went_plain true o ends = auto_plain (ending_of d opening made m (commit_of (said (language_of d) (base m.history.kind opening m.history.commits o) (Data entry.text) o))) o ends
    went_plain false o ends = said_plain m named o entry.text good ends None

    taken_called : (e : Event) (b : Bool) → Each IsCalled (if b then happens d opening e m else with_modes_used e.session (happens d opening e m)).names
    taken_called e true = called
    taken_called e false = called

    held_plain : (back : Option ℕ) (bs : List ℕ) → ArePlain (held_up_data d opening made back bs entry m).words
    held_plain (Some back) bs = (deadlock_told (name_of m back) (named_called m called back), tt)
    held_plain None bs = let n = takes d opening made (data_event d opening made m entry false) m in (waits_plain (map (name_of n) bs) (all_called n (taken_called (data_event d opening made m entry false) (is_open m entry.session)) bs), tt)

    judged_plain : (free clear : Bool) (o : Open) (wanted : List Claim) → Ends m entry.text o → ArePlain (judged_data d opening made free clear entry o wanted m).words
    judged_plain true true o wanted ends = went_plain o.auto o ends
    judged_plain true false o wanted ends = (told_why _ (conflict_plain _), tt)
    judged_plain false clear o wanted ends = let b = blockers m entry.session wanted in held_plain (leading_back m entry.session b) b

    abbrev of_data : Event
    of_data = data_event d opening made m entry false

    data_plain : (found : Option Text) → let o = own_of d opening made m of_data in d.refusal o.read_only (seen_by d opening made m o) entry.text ≡ found → ArePlain (data_by d opening made found entry o m).words
    data_plain (Some why) is =
        let o = own_of d opening made m of_data in
        in_place m named entry why good (its.refusal o.read_only (seen_by d opening made m o) entry.text why good (seen_named m named o) is)
        (own_ends m of_data entry.text (ends_by m entry.text o request.OfData asks (refusal_ends (d.outcome o.read_only (count_all_inserted o.trace.changes) (seen_by d opening made m o) entry.text) _ why is)))
    data_plain None is =
        let o = own_of d opening made m of_data in
        let foot = ((language_of d).outcome o.read_only (count_all_inserted o.trace.changes) (seen_by d opening made m o) entry.text).foot in
        judged_plain (is_free m.history.kind o foot (others entry.session m.history.open_)) (no_conflict m.history.kind o foot (newer m.history.commits o)) o (wants_of m.history.kind o.level o.read_only foot) (data_ends m entry.text o asks is)

  -- ---- definitions

  module _ (entry : Entry) (good : is_utf8 entry.text ≡ true) (before : List Words) (so_far : ArePlain before) (m : Machine) (named : NamedIn m) (called : Each IsCalled m.names) where
    ended_plain : (how : Ending) → ArePlain (defined_by d opening made how before entry m).words
    ended_plain Empty = behind before (Replies (codes "ok") None) so_far ok_plain
    ended_plain Fits = behind before (Replies (codes "ok") (Some (next_number d opening made m))) so_far (refl, refl)
    ended_plain TooManyChanges = behind before (Replies (refused_words (codes "changes")) None) so_far changes_told
    ended_plain LogFull = behind before (Replies (refused_words (codes "log full")) None) so_far log_told

    defined_plain : (found : Result Definition Text) → d.definition (present d opening made m) entry.text ≡ found → ArePlain (defined d opening made found before entry m).words
    defined_plain (Err why) is = behind before (Replies (refused_words why) None) so_far (told_why why (its.refused (present d opening made m) entry.text why good (now_named is_named d its opening m.history.commits named.states) is))
    defined_plain (Ok definition) is = ended_plain (ending_of d opening made m (definition_commit entry.session definition))

    blocked_plain : (back : Option ℕ) (bs : List ℕ) → ArePlain (held_up d opening made back bs before entry m).words
    blocked_plain (Some back) bs = behind before (Replies (refused_words (deadlock_words m back)) None) so_far (deadlock_told (name_of m back) (named_called m called back))
    blocked_plain None bs = behind before (WaitsFor (map (name_of m) bs)) so_far (waits_plain (map (name_of m) bs) (all_called m called bs))

    defining_plain : (os : List Open) → ArePlain (defining d opening made os before entry m).words
    defining_plain [] = defined_plain (d.definition (present d opening made m) entry.text) refl
    defining_plain (o ∷ os) = let b = open_sessions m in blocked_plain (leading_back m entry.session b) b

  module _ (entry : Entry) (good : is_utf8 entry.text ≡ true) (asks : d.request entry.text ≡ request.OfDefinition) (m : Machine) (named : NamedIn m) (called : Each IsCalled m.names) where
    abbrev after_ : Machine
    after_ = committed_own d opening made m entry.session

    after_named : NamedIn after_
    after_named = steps is_named d its opening (commits_event d opening made m entry.session) tt m.history named

    owns_plain : (how : Ending) → ArePlain (own_by d opening made how entry m).words
    owns_plain Empty = defining_plain entry good [] tt after_ after_named called after_.history.open_
    owns_plain Fits = defining_plain entry good (First (next_number d opening made m) ∷ []) (tt, tt) after_ after_named called after_.history.open_
    owns_plain TooManyChanges = (changes_told, tt)
    owns_plain LogFull = (log_told, tt)

    own_plain : (found : Option Open) → ArePlain (own_first d opening made found entry m).words
    own_plain None = defining_plain entry good [] tt m named called m.history.open_
    own_plain (Some o) = owns_plain (ending_of d opening made m (commit_of o))

    bound_plain : (is_first : Bool) → ArePlain (bound_definition d opening made is_first entry m).words
    bound_plain true = own_plain (open_of m entry.session)
    bound_plain false = defining_plain entry good [] tt m named called m.history.open_

    definition_plain : (is_first : Bool) (found : Option Text) → let o = own_of d opening made m (commits_event d opening made m entry.session) in d.refusal o.read_only (seen_by d opening made m o) entry.text ≡ found → ArePlain (definition_by d opening made is_first found entry m).words
    definition_plain is_first (Some why) is =
        let e = commits_event d opening made m entry.session in
        let o = own_of d opening made m e in
        in_place m named entry why good (its.refusal o.read_only (seen_by d opening made m o) entry.text why good (seen_named m named o) is)
        (own_ends m e entry.text (ends_by m entry.text o request.OfDefinition asks (refusal_ends nothing _ why is)))
    definition_plain is_first None is = bound_plain is_first

  -- ---- the others

  start_plain : (m : Machine) → NamedIn m → (open_ : Bool) (modes : NewModes) (entry : Entry) → is_utf8 entry.text ≡ true → d.request entry.text ≡ request.Starts modes → ArePlain (attempt_start d opening made open_ modes entry m).words
  start_plain m named true modes entry good asks = in_place m named entry open_transaction good open_plain (λ o is. ends_by m entry.text o (request.Starts modes) asks refl)
  start_plain m named false modes entry good asks = (ok_plain, tt)

  commit_plain : (how : Ending) (s : ℕ) (m : Machine) → ArePlain (commit_by d opening made how s m).words
  commit_plain Empty s m = (ok_plain, tt)
  commit_plain Fits s m = ((refl, refl), tt)
  commit_plain TooManyChanges s m = (changes_told, tt)
  commit_plain LogFull s m = (log_told, tt)

  commits_plain : (found : Option Open) (s : ℕ) (m : Machine) → ArePlain (attempt_commit d opening made found s m).words
  commits_plain None s m = (ok_plain, tt)
  commits_plain (Some o) s m = commit_plain (ending_of d opening made m (commit_of o)) s m

  rollback_plain : (open_ : Bool) (s : ℕ) (m : Machine) → ArePlain (attempt_rollback d opening made open_ s m).words
  rollback_plain false s m = (ok_plain, tt)
  rollback_plain true s m = (ok_plain, tt)

  module _ (control : Control) (no : IsPlainReason (codes "no savepoint " ++ d.printed_name (savepoint_of control))) where
    control_plain : (r : ControlReply) → ArePlain (control_words d opening made r control)
    control_plain reply.Ok = (ok_plain, tt)
    control_plain reply.OpenTransaction = (told_why open_transaction open_plain, tt)
    control_plain reply.NoSavepoint = (told_why _ no, tt)

    controls_plain : (found : Option Open) (r : ControlReply) (m : Machine) → ArePlain (control_told d opening made found r control m)
    controls_plain None r m = control_plain r
    controls_plain (Some o) r m = control_plain (controlled control (session_in o.trace)).0

    setting_plain : (s : ℕ) (m : Machine) → ArePlain (in_transaction d opening made control s m).words
    setting_plain s m = controls_plain (open_of m s) (controlled control (session_seen (settings_of m s) (open_of m s))).0 m

  -- ---- the whole

  request_plain : (m : Machine) → NamedIn m → Each IsCalled m.names → (entry : Entry) → is_utf8 entry.text ≡ true → (is_first : Bool) (r : Request) → d.request entry.text ≡ r → IsPlainRequest d.printed_name r → ArePlain (attempt_by d opening made r is_first entry m).words
  request_plain m named called entry good is_first (request.Faulty why) asks asked = in_place m named entry why good asked (λ o is. ends_by m entry.text o (request.Faulty why) asks refl)
  request_plain m named called entry good is_first request.OfData asks asked =
      let o = own_of d opening made m (data_event d opening made m entry false) in data_plain m named called entry good asks (d.refusal o.read_only (seen_by d opening made m o) entry.text) refl
  request_plain m named called entry good is_first request.OfDefinition asks asked =
      let o = own_of d opening made m (commits_event d opening made m entry.session) in definition_plain entry good asks m named called is_first (d.refusal o.read_only (seen_by d opening made m o) entry.text) refl
  request_plain m named called entry good is_first (request.Starts modes) asks asked = start_plain m named (is_open m entry.session) modes entry good asks
  request_plain m named called entry good is_first request.Commits asks asked = commits_plain (open_of m entry.session) entry.session m
  request_plain m named called entry good is_first request.RollsBack asks asked = rollback_plain (is_open m entry.session) entry.session m
  request_plain m named called entry good is_first (request.OnSettings control) asks asked = setting_plain control asked entry.session (ready d opening made control entry.session m)

  pub attempt_plain : (is_first : Bool) (entry : Entry) → is_utf8 entry.text ≡ true → (m : Machine) → NamedIn m → Each IsCalled m.names → ArePlain (attempt d opening made is_first entry m).words
  attempt_plain is_first entry good m named called = request_plain m named called entry good is_first (d.request entry.text) refl (its.request entry.text good)
