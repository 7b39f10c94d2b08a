-- Every catalogue to which events lead passes the test that the opening one passes.
use Rattle.std.proofs.Common.{◌≡◌, ℕ, ◌||◌, leb, Bool, true, false, List, [], ◌∷◌, ◌++◌, length, refl, sym, ap, ap₂, ◌∙◌, subst, arith, length-append, leb-true, leb-false}
use Rattle.std.specs.Prelude.{◌==◌, not, Option, None, Some, Result, Ok, Err, if◌then◌else◌, codes}
use Rattle.std.specs.List.{list_any}
use Rattle.std.specs.Str.{is_utf8}
use Rattle.std.proofs.lemmas.List.{take_all}
use Rattle.std.proofs.lemmas.List.Folds.{list_any-append}
use Rattle.hs_claims.specs.declared.model.ControlKind.{ControlKind}
use Rattle.hs_claims.specs.Wants.{reads_start_of}
use Rattle.hs_plan.specs.declared.change.Change.{Change}
use Rattle.hs_plan.specs.declared.change.Change.TheVariants as change
use Rattle.hs_plan.specs.declared.definition.Definition.{Definition}
use Rattle.hs_changes.specs.Changes.{count_all_inserted}
use Rattle.hs_schema.specs.Catalogue.{Text, Things}
use Rattle.hs_turns.specs.Database.{Database, committed, has_room, is_definition, view}
use Rattle.hs_turns.proofs.Tables.{Frame, frame_stays}
use Rattle.hs_turns.specs.Each.{Each}
use Rattle.hs_turns.specs.Language.{Language, Outcome}
use Rattle.hs_turns.specs.Transactions.{Statement}
use Rattle.hs_turns.specs.Transactions.Statement.{Data, OnSession}
use Rattle.hs_turns.specs.Histories.{Open, Commit, History, base, commit_of, is_free, make, newer, no_conflict, now, others, own, state}
use Rattle.hs_turns.specs.Events.{Act, Event, begun, by_act, commit, commit_by, define, define_by, defines, definition_commit, finish, fresh, judged, said, says, stays_open, step}
use Rattle.hs_turns.specs.Events.Act.{Begins, Says, Commits, Leaves, Defines}
use Rattle.hs_turns.proofs.Kept.{Kept, answered_kept, control_kept}
use Rattle.hs_turns.proofs.Lists.{each_filter, each_put}
use Rattle.hs_turns.proofs.Sound.{now_more, own_each, state_more, state_now}
use Rattle.hs_turns.specs.Dialect.{Dialect, Request, accepted, language_of, nothing, open_transaction, outcome_of, refused, unless_refused}
use Rattle.hs_turns.specs.Dialect.{Request as request}
use Rattle.hs_plainwords.specs.Dialects.{IsPlainDialect, IsPlainOutcome, IsPlainRequest}
use Rattle.hs_plainwords.specs.Plain.{IsPlainReason}
use Rattle.hs_plainwords.proofs.Silent.{plain, unnumbered}

module _ (is_named : Things → Bool) (d : Dialect) (words : IsPlainDialect is_named d) where
  abbrev L : Language
  L = language_of d

  abbrev IsNamed : Database → Type 0
  IsNamed db = is_named db.things ≡ true

  -- ---- what an entry comes to inside of a transaction

  refused_plain : (why : Text) → IsPlainReason why → IsPlainOutcome (refused why)
  refused_plain why its = record { rows = tt; reply = its; changes = refl }

  nothing_plain : IsPlainOutcome nothing
  nothing_plain = record { rows = tt; reply = plain [] (unnumbered [] refl refl); changes = refl }

  unless_plain : (found : Option Text) (o : Outcome) → ((why : Text) → found ≡ Some why → IsPlainReason why) → IsPlainOutcome o → IsPlainOutcome (unless_refused found o)
  unless_plain None o its all = all
  unless_plain (Some why) o its all = refused_plain why (its why refl)

  asked_plain : (read_only : Bool) (inserted : ℕ) (db : Database) (text : Text) → is_utf8 text ≡ true → IsNamed db → (r : Request) → IsPlainRequest d.printed_name r → IsPlainOutcome (outcome_of d read_only inserted db text r)
  asked_plain read_only inserted db text good named (request.Faulty why) its = refused_plain why its
  asked_plain read_only inserted db text good named request.OfData its = unless_plain (d.refusal read_only db text) (d.outcome read_only inserted db text) (λ why is. words.refusal read_only db text why good named is) (words.outcome read_only inserted db text good named)
  asked_plain read_only inserted db text good named request.OfDefinition its = unless_plain (d.refusal read_only db text) nothing (λ why is. words.refusal read_only db text why good named is) nothing_plain
  asked_plain read_only inserted db text good named (request.Starts modes) its = refused_plain open_transaction (plain (codes "refused open transaction") (unnumbered (codes "refused open transaction") refl refl))
  asked_plain read_only inserted db text good named request.Commits its = nothing_plain
  asked_plain read_only inserted db text good named request.RollsBack its = nothing_plain
  asked_plain read_only inserted db text good named (request.OnSettings control) its = nothing_plain

  pub outcome_plain : (read_only : Bool) (inserted : ℕ) (db : Database) (text : Text) → is_utf8 text ≡ true → IsNamed db → IsPlainOutcome (L.outcome read_only inserted db text)
  outcome_plain read_only inserted db text good named = asked_plain read_only inserted db text good named (d.request text) (words.request text good)

  -- ---- open transactions, which define nothing

  abbrev DefinesNothing : List Change → Type 0
  DefinesNothing cs = list_any is_definition cs ≡ false

  abbrev pub OnRows : Open → Type 0
  OnRows o = Kept DefinesNothing o.trace

  more_rows : (cs more : List Change) → DefinesNothing cs → DefinesNothing more → DefinesNothing (cs ++ more)
  more_rows cs more before its = list_any-append is_definition cs more ∙ ap₂ (λ (a b : Bool). a || b) before its

  -- a statement is text
  abbrev pub IsStated : Statement → Type 0
  IsStated (Data text) = is_utf8 text ≡ true
  IsStated (OnSession control) = Unit {0}

  said_rows : (db : Database) → IsNamed db → (s : Statement) → IsStated s → (o : Open) → OnRows o → OnRows (said L db s o)
  said_rows db named (Data text) good o k =
      let out = L.outcome o.read_only (count_all_inserted o.trace.changes) (view db o.trace.changes) text in
      let its = outcome_plain o.read_only (count_all_inserted o.trace.changes) (view db o.trace.changes) text good named in
      answered_kept DefinesNothing out o.trace (more_rows o.trace.changes out.changes k.stands its.changes) k
  said_rows db named (OnSession control) good o k = control_kept DefinesNothing control o.trace k

  -- ---- states

  module _ (opening : Database) where
    pub record Named (h : History) : Type 0 where
      pub states : (k : ℕ) → IsNamed (state opening h.commits k)
      pub rows : Each OnRows h.open_

    abbrev AllNamed : List Commit → Type 0
    AllNamed commits = (k : ℕ) → IsNamed (state opening commits k)

    pub now_named : (commits : List Commit) → AllNamed commits → IsNamed (now opening commits)
    now_named commits all = subst IsNamed (state_now opening commits) (all (length commits))

    based : (b : Bool) (x y : Database) → IsNamed x → IsNamed y → IsNamed (if b then x else y)
    based true x y h k = h
    based false x y h k = k

    pub base_named : (kind : ControlKind) (commits : List Commit) (o : Open) → AllNamed commits → IsNamed (base kind opening commits o)
    base_named kind commits o all = based (reads_start_of kind o.level o.read_only) (state opening commits o.start) (now opening commits) (all o.start) (now_named commits all)

    more_by : (b : Bool) (commits : List Commit) (x : Commit) (k : ℕ) → leb k (length commits) ≡ b → AllNamed commits → IsNamed (now opening (commits ++ x ∷ [])) → IsNamed (state opening (commits ++ x ∷ []) k)
    more_by true commits x k is all last = subst IsNamed (sym (state_more opening commits (x ∷ []) k (leb-true k (length commits) is))) (all k)
    more_by false commits x k is all last =
        let beyond = leb-false k (length commits) is in
        let len = length-append commits (x ∷ []) in
        subst (λ (cs : List Commit). IsNamed (now opening cs)) (sym (take_all k (commits ++ x ∷ []) (omega (arith, beyond, len)))) last

    more_states : (commits : List Commit) (x : Commit) → AllNamed commits → IsNamed (make (now opening commits) x) → AllNamed (commits ++ x ∷ [])
    more_states commits x all last k = more_by (leb k (length commits)) commits x k refl all (subst IsNamed (sym (now_more opening commits x)) last)

    rows_named : (db : Database) (cs : List Change) → IsNamed db → DefinesNothing cs → IsNamed (committed db cs)
    rows_named db cs named none = ap is_named (ap (λ (f : Frame). f.things) (frame_stays db cs none)) ∙ named

    -- ---- events

    others_rows : (who : ℕ) (h : History) → Named h → Each OnRows (others who h.open_)
    others_rows who h n = each_filter OnRows (λ o. not (o.session == who)) h.open_ n.rows

    stays : (o : Open) (who : ℕ) (h : History) → OnRows o → Named h → Named (stays_open o who h)
    stays o who h own n = record { states = n.states; rows = each_put OnRows who o own h.open_ (others_rows who h n) }

    dropped : (o : Open) (who : ℕ) (h : History) → Named h → Named (finish false o who h)
    dropped o who h n = record { states = n.states; rows = others_rows who h n }

    kept : (o : Open) (who : ℕ) (h : History) → OnRows o → Named h → Named (finish true o who h)
    kept o who h own n = record {
      states = more_states h.commits (commit_of o) n.states (rows_named (now opening h.commits) o.trace.changes (now_named h.commits n.states) own.stands);
      rows = others_rows who h n;
    }

    commits_by : (cs : List Change) (room : Bool) (o : Open) (who : ℕ) (h refused : History) → OnRows o → Named h → Named refused → Named (commit_by cs room o who h refused)
    commits_by [] room o who h refused own n r = dropped o who h n
    commits_by (c ∷ cs) true o who h refused own n r = kept o who h own n
    commits_by (c ∷ cs) false o who h refused own n r = r

    commits : (o : Open) (who : ℕ) (h refused : History) → OnRows o → Named h → Named refused → Named (commit opening o who h refused)
    commits o who h refused own n r = commits_by o.trace.changes (has_room (now opening h.commits) o.trace.changes) o who h refused own n r

    goes_by : (auto : Bool) (before o : Open) (who : ℕ) (h : History) → OnRows o → Named h → Named (if auto then commit opening o who h (finish false before who h) else stays_open o who h)
    goes_by true before o who h own n = commits o who h (finish false before who h) own n (dropped before who h n)
    goes_by false before o who h own n = stays o who h own n

    judges : (free clear back : Bool) (before o : Open) (who : ℕ) (h : History) → OnRows before → OnRows o → Named h → Named (judged free clear back opening before o who h)
    judges true true back before o who h was own n = goes_by o.auto before o who h own n
    judges true false back before o who h was own n = dropped before who h n
    judges false clear true before o who h was own n = dropped before who h n
    judges false clear false before o who h was own n = stays before who h was n

    says_so : (back : Bool) (s : Statement) → IsStated s → (o : Open) (who : ℕ) (h : History) → OnRows o → Named h → Named (says L opening back s o who h)
    says_so back (Data text) good o who h own n =
        let db = base h.kind opening h.commits o in
        let f = (L.outcome o.read_only (count_all_inserted o.trace.changes) (view db o.trace.changes) text).foot in
        judges (is_free h.kind o f (others who h.open_)) (no_conflict h.kind o f (newer h.commits o)) back o (said L db (Data text) o) who h own (said_rows db (base_named h.kind h.commits o n.states) (Data text) good o own) n
    says_so back (OnSession control) good o who h own n =
        let db = base h.kind opening h.commits o in
        stays (said L db (OnSession control) o) who h (said_rows db (base_named h.kind h.commits o n.states) (OnSession control) good o own) n

    inside : (r : Result Definition Text) (definition : Definition) → accepted r ≡ Some definition → r ≡ Ok definition
    inside (Ok its) definition is = cc
    inside (Err why) definition is = absurd cc

    define_room : (room : Bool) (who : ℕ) (definition : Definition) (text : Text) (h : History) → is_utf8 text ≡ true → L.definition (now opening h.commits) text ≡ Some definition → Named h → Named (define_by room who definition h)
    define_room true who definition text h good is n =
        let db = now opening h.commits in record {
          states = more_states h.commits (definition_commit who definition) n.states (words.defined db text definition good (now_named h.commits n.states) (inside (d.definition db text) definition is));
          rows = n.rows;
        }
    define_room false who definition text h good is n = n

    define_found : (found : Option Definition) (who : ℕ) (text : Text) (h : History) → is_utf8 text ≡ true → L.definition (now opening h.commits) text ≡ found → Named h → Named (define opening who found h)
    define_found None who text h good is n = n
    define_found (Some definition) who text h good is n = define_room (has_room (now opening h.commits) (change.Define definition ∷ [])) who definition text h good is n

    definitions : (os : List Open) (who : ℕ) (text : Text) (h : History) → is_utf8 text ≡ true → Named h → Named (defines L opening who text os h)
    definitions [] who text h good n = define_found (L.definition (now opening h.commits) text) who text h good refl n
    definitions (o ∷ os) who text h good n = n

    -- its statement or its definition is text
    abbrev pub IsRead : Act → Type 0
    IsRead (Says s) = IsStated s
    IsRead (Defines text) = is_utf8 text ≡ true
    IsRead Begins = Unit {0}
    IsRead Commits = Unit {0}
    IsRead Leaves = Unit {0}

    acts : (back : Bool) (act : Act) → IsRead act → (o : Open) (who : ℕ) (h : History) → OnRows o → Named h → Named (by_act L opening back act o who h)
    acts back Begins good o who h own n = stays o who h own n
    acts back (Says s) good o who h own n = says_so back s good o who h own n
    acts back Commits good o who h own n = commits o who h (stays_open o who h) own n (stays o who h own n)
    acts back Leaves good o who h own n = dropped o who h n
    acts back (Defines text) good o who h own n = definitions h.open_ who text h good n

    fresh_rows : (e : Event) (h : History) → OnRows (fresh h.kind e (length h.commits))
    fresh_rows e h = record { stands = refl; points = tt; ordered = tt }

    pub steps : (e : Event) → IsRead e.act → (h : History) → Named h → Named (step L opening e h)
    steps e good h n = let o = fresh h.kind e (length h.commits) in acts e.back e.act good (own e.session o h.open_) e.session h (own_each OnRows e.session o (fresh_rows e h) h.open_ n.rows) n

    pub begun_named : IsNamed opening → Named (begun opening)
    begun_named named = record { states = λ k. subst (λ (cs : List Commit). IsNamed (now opening cs)) (sym (take_all k [] (omega arith))) named; rows = tt }
