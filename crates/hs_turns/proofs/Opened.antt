-- Which sessions have an open transaction, behind each event.
use Rattle.std.proofs.Common.{◌≡◌, ℕ, ◌==◌, ◌||◌, not, Bool, true, false, cond, List, [], ◌∷◌, ◌++◌, map, length, refl, sym, ap, ◌∙◌, subst, eqb-true, eq-eqb}
use Rattle.std.specs.Prelude.{Option, None, Some, is_some, find, if◌then◌else◌}
use Rattle.std.specs.List.{flat_map, list_all, list_any}
use Rattle.std.proofs.lemmas.Bool.{and_from, eqb-false}
use Rattle.std.proofs.lemmas.List.Folds.{list_all-append}
use Rattle.hs_claims.specs.declared.claim.Claim.{Claim}
use Rattle.hs_claims.specs.declared.footprint.Footprint.{Footprint}
use Rattle.hs_claims.specs.declared.model.ControlKind.{ControlKind}
use Rattle.hs_claims.specs.declared.model.ControlKind.TheVariants.{Locks, MvLocks, Mvcc}
use Rattle.hs_claims.specs.declared.model.Level.{Level}
use Rattle.hs_claims.specs.Compatible.{fits, fits_one}
use Rattle.hs_claims.specs.declared.key_names.KeyName.{KeyName}
use Rattle.hs_claims.specs.declared.model.Level.TheVariants.{Rc, Ser, Snap}
use Rattle.hs_claims.specs.Wants.{catalog_claim, table_claim, row_claim, key_claim, table_wants, table_keeps, row_wants, keeps_of, wants_of}
use Rattle.hs_base.specs.declared.numbers.RowName.{RowName}
use Rattle.hs_base.specs.declared.numbers.TableNo.{TableNo}
use Rattle.hs_plan.specs.declared.change.Change.{Change}
use Rattle.hs_plan.specs.declared.change.Change.TheVariants as change
use Rattle.hs_plan.specs.declared.definition.Definition.{Definition}
use Rattle.hs_changes.specs.Changes.{count_all_inserted}
use Rattle.hs_sessions.specs.declared.control.Control.{Control}
use Rattle.hs_schema.specs.Catalogue.{Text}
use Rattle.hs_turns.specs.Database.{Database, has_room, view}
use Rattle.hs_turns.specs.Language.{Language}
use Rattle.hs_turns.specs.Transactions.{Statement}
use Rattle.hs_turns.specs.Transactions.Statement.{Data, OnSession}
use Rattle.hs_turns.specs.Histories.{Open, Commit, History, base, held, is_free, newer, no_conflict, now, others, own, put_open}
use Rattle.hs_turns.specs.Events.{Act, Event, fresh, finish, stays_open, commit_by, commit, said, judged, says, define_by, define, defines, by_act, step}
use Rattle.hs_turns.specs.Events.{Act as act}

abbrev pub is_of : ℕ → Open → Bool
is_of s o = o.session == s

-- a session has one of these
abbrev pub has : ℕ → List Open → Bool
has s open_ = list_any (is_of s) open_

found_by : (b : Bool) (o : Open) (r : Option Open) (rest : Bool) → is_some r ≡ rest → is_some (cond b (Some o) r) ≡ (b || rest)
found_by true o r rest e = refl
found_by false o r rest e = e

pub found_is : (s : ℕ) (open_ : List Open) → is_some (find (λ o. o.session == s) open_) ≡ has s open_
found_is s [] = refl
found_is s (o ∷ os) = found_by (o.session == s) o (find (λ x. x.session == s) os) (has s os) (found_is s os)

-- ---- others, and one in its place

differs : (x who b : ℕ) → (x == who) ≡ true → (b == who) ≡ false → (x == b) ≡ false
differs x who b is not_is = differs_by (x == b) refl where
  differs_by : (t : Bool) → (x == b) ≡ t → (x == b) ≡ false
  differs_by false e = e
  differs_by true e = absurd (eqb-false b who not_is (sym (eqb-true x b e) ∙ eqb-true x who is))

others_by : (t : Bool) (b : ℕ) (x : Open) (xs rest : List Open) → (t ≡ true → (x.session == b) ≡ false) → has b rest ≡ has b xs → has b (cond (not t) (x ∷ rest) rest) ≡ ((x.session == b) || has b xs)
others_by true b x xs rest h e = e ∙ sym (ap (λ (c : Bool). c || has b xs) (h refl))
others_by false b x xs rest h e = ap (λ (c : Bool). (x.session == b) || c) e

pub has_others : (b who : ℕ) → (b == who) ≡ false → (xs : List Open) → has b (others who xs) ≡ has b xs
has_others b who other [] = refl
has_others b who other (x ∷ xs) = others_by (x.session == who) b x xs (others who xs) (λ is. differs x.session who b is other) (has_others b who other xs)

none_by : (t : Bool) (who : ℕ) (x : Open) (rest : List Open) → (x.session == who) ≡ t → has who rest ≡ false → has who (cond (not t) (x ∷ rest) rest) ≡ false
none_by true who x rest is e = e
none_by false who x rest is e = ap (λ (c : Bool). c || has who rest) is ∙ e

pub none_of : (who : ℕ) (xs : List Open) → has who (others who xs) ≡ false
none_of who [] = refl
none_of who (x ∷ xs) = none_by (x.session == who) who x (others who xs) refl (none_of who xs)

put_by : (t : Bool) (b : ℕ) (o x : Open) (xs rest front : List Open) → (o.session == b) ≡ false → (t ≡ true → (x.session == b) ≡ false) → has b rest ≡ has b xs → has b front ≡ has b xs
    → has b (if t then o ∷ rest else x ∷ front) ≡ ((x.session == b) || has b xs)
put_by true b o x xs rest front mine h e f = ap (λ (c : Bool). c || has b rest) mine ∙ e ∙ sym (ap (λ (c : Bool). c || has b xs) (h refl))
put_by false b o x xs rest front mine h e f = ap (λ (c : Bool). (x.session == b) || c) f

pub has_put : (b who : ℕ) (o : Open) → (o.session == who) ≡ true → (b == who) ≡ false → (xs : List Open) → has b (put_open who o xs) ≡ has b xs
has_put b who o mine other [] = ap (λ (c : Bool). c || false) (differs o.session who b mine other)
has_put b who o mine other (x ∷ xs) =
    put_by (x.session == who) b o x xs (others who xs) (put_open who o xs) (differs o.session who b mine other) (λ is. differs x.session who b is other) (has_others b who other xs) (has_put b who o mine other xs)

or_right : (a b : Bool) → b ≡ true → (a || b) ≡ true
or_right true b e = refl
or_right false b e = e

put_here : (t : Bool) (who : ℕ) (o x : Open) (rest front : List Open) → (o.session == who) ≡ true → has who front ≡ true → has who (if t then o ∷ rest else x ∷ front) ≡ true
put_here true who o x rest front mine e = ap (λ (c : Bool). c || has who rest) mine
put_here false who o x rest front mine e = or_right (x.session == who) (has who front) e

pub put_has : (who : ℕ) (o : Open) → (o.session == who) ≡ true → (xs : List Open) → has who (put_open who o xs) ≡ true
put_has who o mine [] = ap (λ (c : Bool). c || false) mine
put_has who o mine (x ∷ xs) = put_here (x.session == who) who o x (others who xs) (put_open who o xs) mine (put_has who o mine xs)

own_by : (t : Bool) (who : ℕ) (x p : Open) → (x.session == who) ≡ t → (p.session == who) ≡ true → ((if t then x else p).session == who) ≡ true
own_by true who x p is e = is
own_by false who x p is e = e

-- a session's own transaction is its own
pub own_session : (who : ℕ) (new : Open) → (new.session == who) ≡ true → (xs : List Open) → ((own who new xs).session == who) ≡ true
own_session who new mine [] = mine
own_session who new mine (x ∷ xs) = own_by (x.session == who) who x (own who new xs) refl (own_session who new mine xs)

-- ---- what touches nothing goes together with all that is held

abbrev no_foot : Footprint
no_foot = record { reads = []; writes = []; rows = []; keys = []; parents = [] }

abbrev shared : Claim → Bool
shared c = fits_one (catalog_claim false ∷ []) c

wants_none : (kind : ControlKind) (level : Level) (ro : Bool) → wants_of kind level ro no_foot ≡ catalog_claim false ∷ []
wants_none Locks level ro = refl
wants_none MvLocks level true = refl
wants_none MvLocks level false = refl
wants_none Mvcc level true = refl
wants_none Mvcc level false = refl

tables_shared : (b : Bool) (ts : List TableNo) → list_all shared (map (table_claim b) ts) ≡ true
tables_shared b [] = refl
tables_shared b (t ∷ ts) = tables_shared b ts

rows_shared : (rs : List RowName) → list_all shared (map row_claim rs) ≡ true
rows_shared [] = refl
rows_shared (r ∷ rs) = rows_shared rs

keys_shared : (b : Bool) (ks : List KeyName) → list_all shared (map (key_claim b) ks) ≡ true
keys_shared b [] = refl
keys_shared b (k ∷ ks) = keys_shared b ks

both_shared : (xs ys : List Claim) → list_all shared xs ≡ true → list_all shared ys ≡ true → list_all shared (xs ++ ys) ≡ true
both_shared xs ys h k = list_all-append shared xs ys ∙ and_from (list_all shared xs) (list_all shared ys) h k

table_wants_shared : (f : Footprint) → list_all shared (table_wants f) ≡ true
table_wants_shared f = both_shared (map (table_claim true) f.writes) (map (table_claim false) f.reads) (tables_shared true f.writes) (tables_shared false f.reads)

table_keeps_shared : (level : Level) (f : Footprint) → list_all shared (table_keeps level f) ≡ true
table_keeps_shared Rc f = tables_shared true f.writes
table_keeps_shared Ser f = table_wants_shared f
table_keeps_shared Snap f = table_wants_shared f

row_wants_shared : (f : Footprint) → list_all shared (row_wants f) ≡ true
row_wants_shared f =
    both_shared (map row_claim f.rows) (map (key_claim true) f.keys ++ map (key_claim false) f.parents) (rows_shared f.rows)
    (both_shared (map (key_claim true) f.keys) (map (key_claim false) f.parents) (keys_shared true f.keys) (keys_shared false f.parents))

keeps_shared : (kind : ControlKind) (level : Level) (ro : Bool) (f : Footprint) → list_all shared (keeps_of kind level ro f) ≡ true
keeps_shared Locks level ro f = table_keeps_shared level f
keeps_shared MvLocks level true f = refl
keeps_shared MvLocks level false f = table_keeps_shared level f
keeps_shared Mvcc level true f = refl
keeps_shared Mvcc level false f = row_wants_shared f

kept_shared : (kind : ControlKind) (level : Level) (ro : Bool) (fs : List Footprint) → list_all shared (flat_map (keeps_of kind level ro) fs) ≡ true
kept_shared kind level ro [] = refl
kept_shared kind level ro (f ∷ fs) = both_shared (keeps_of kind level ro f) (flat_map (keeps_of kind level ro) fs) (keeps_shared kind level ro f) (kept_shared kind level ro fs)

nothing_fits : (kind : ControlKind) (level other : Level) (ro other_ro : Bool) (fs : List Footprint) → fits (wants_of kind level ro no_foot) (held kind other other_ro fs) ≡ true
nothing_fits kind level other ro other_ro fs =
    subst (λ (w : List Claim). fits w (held kind other other_ro fs) ≡ true) (sym (wants_none kind level ro)) (kept_shared kind other other_ro fs)

pub nothing_free : (kind : ControlKind) (o : Open) (rest : List Open) → is_free kind o no_foot rest ≡ true
nothing_free kind o [] = refl
nothing_free kind o (u ∷ us) = and_from (fits (wants_of kind o.level o.read_only no_foot) (held kind u.level u.read_only u.trace.feet)) (is_free kind o no_foot us) (nothing_fits kind o.level u.level o.read_only u.read_only u.trace.feet) (nothing_free kind o us)

pub nothing_conflicts : (kind : ControlKind) (o : Open) (commits : List Commit) → no_conflict kind o no_foot commits ≡ true
nothing_conflicts kind o [] = refl
nothing_conflicts kind o (k ∷ ks) = and_from (fits (wants_of kind o.level o.read_only no_foot) (held kind k.level k.read_only k.feet)) (no_conflict kind o no_foot ks) (nothing_fits kind o.level k.level o.read_only k.read_only k.feet) (nothing_conflicts kind o ks)

-- ---- the other sessions

module _ (lang : Language) (opening : Database) where
  module _ (who b : ℕ) (other : (b == who) ≡ false) where
    commit_others : (changes : List Change) (room : Bool) (o : Open) (h refused : History) → has b refused.open_ ≡ has b h.open_ → has b (commit_by changes room o who h refused).open_ ≡ has b h.open_
    commit_others [] room o h refused e = has_others b who other h.open_
    commit_others (c ∷ cs) true o h refused e = has_others b who other h.open_
    commit_others (c ∷ cs) false o h refused e = e

    goes_by : (auto : Bool) (before after : Open) (h : History) → (after.session == who) ≡ true → has b (if auto then commit opening after who h (finish false before who h) else stays_open after who h).open_ ≡ has b h.open_
    goes_by true before after h mine = commit_others after.trace.changes (has_room (now opening h.commits) after.trace.changes) after h (finish false before who h) (has_others b who other h.open_)
    goes_by false before after h mine = has_put b who after mine other h.open_

    judged_others : (free clear back : Bool) (before after : Open) (h : History) → (before.session == who) ≡ true → (after.session == who) ≡ true → has b (judged free clear back opening before after who h).open_ ≡ has b h.open_
    judged_others true true back before after h mine its = goes_by after.auto before after h its
    judged_others true false back before after h mine its = has_others b who other h.open_
    judged_others false clear true before after h mine its = has_others b who other h.open_
    judged_others false clear false before after h mine its = has_put b who before mine other h.open_

    says_others : (back : Bool) (s : Statement) (o : Open) (h : History) → (o.session == who) ≡ true → has b (says lang opening back s o who h).open_ ≡ has b h.open_
    says_others back (Data text) o h mine =
        let db = base h.kind opening h.commits o in
        let f = (lang.outcome o.read_only (count_all_inserted o.trace.changes) (view db o.trace.changes) text).foot in
        judged_others (is_free h.kind o f (others who h.open_)) (no_conflict h.kind o f (newer h.commits o)) back o (said lang db (Data text) o) h mine mine
    says_others back (OnSession control) o h mine = has_put b who (said lang (base h.kind opening h.commits o) (OnSession control) o) mine other h.open_

  defined_same : (room : Bool) (who : ℕ) (definition : Definition) (h : History) → (define_by room who definition h).open_ ≡ h.open_
  defined_same true who definition h = refl
  defined_same false who definition h = refl

  define_same : (found : Option Definition) (who : ℕ) (h : History) → (define opening who found h).open_ ≡ h.open_
  define_same None who h = refl
  define_same (Some definition) who h = defined_same (has_room (now opening h.commits) (change.Define definition ∷ [])) who definition h

  pub defines_same : (text : Text) (os : List Open) (who : ℕ) (h : History) → (defines lang opening who text os h).open_ ≡ h.open_
  defines_same text [] who h = define_same (lang.definition (now opening h.commits) text) who h
  defines_same text (o ∷ os) who h = refl

  acts_others : (who b : ℕ) → (b == who) ≡ false → (back : Bool) (a : Act) (o : Open) (h : History) → (o.session == who) ≡ true → has b (by_act lang opening back a o who h).open_ ≡ has b h.open_
  acts_others who b other back act.Begins o h mine = has_put b who o mine other h.open_
  acts_others who b other back (act.Says s) o h mine = says_others who b other back s o h mine
  acts_others who b other back act.Commits o h mine = commit_others who b other o.trace.changes (has_room (now opening h.commits) o.trace.changes) o h (stays_open o who h) (has_put b who o mine other h.open_)
  acts_others who b other back act.Leaves o h mine = has_others b who other h.open_
  acts_others who b other back (act.Defines text) o h mine = ap (has b) (defines_same text h.open_ who h)

  own_mine : (e : Event) (h : History) → ((own e.session (fresh h.kind e (length h.commits)) h.open_).session == e.session) ≡ true
  own_mine e h = own_session e.session (fresh h.kind e (length h.commits)) (eq-eqb e.session e.session refl) h.open_

  -- an event leaves the transactions of other sessions open, and opens none
  pub step_others : (e : Event) (h : History) (b : ℕ) → (b == e.session) ≡ false → has b (step lang opening e h).open_ ≡ has b h.open_
  step_others e h b other = acts_others e.session b other e.back e.act (own e.session (fresh h.kind e (length h.commits)) h.open_) h (own_mine e h)

  -- ---- the session itself

  pub begins_open : (e : Event) (h : History) → e.act ≡ act.Begins → has e.session (step lang opening e h).open_ ≡ true
  begins_open e h is = subst (λ (a : Act). has e.session (by_act lang opening e.back a (own e.session (fresh h.kind e (length h.commits)) h.open_) e.session h).open_ ≡ true) (sym is)
      (put_has e.session (own e.session (fresh h.kind e (length h.commits)) h.open_) (own_mine e h) h.open_)

  pub session_open : (back : Bool) (control : Control) (o : Open) (who : ℕ) (h : History) → (o.session == who) ≡ true → has who (says lang opening back (OnSession control) o who h).open_ ≡ true
  session_open back control o who h mine = put_has who (said lang (base h.kind opening h.commits o) (OnSession control) o) mine h.open_

  pub judged_waits : (free clear : Bool) (before after : Open) (who : ℕ) (h : History) → free ≡ false → (before.session == who) ≡ true → has who (judged free clear false opening before after who h).open_ ≡ true
  judged_waits false clear before after who h e mine = put_has who before mine h.open_
  judged_waits true clear before after who h e mine = absurd cc

  goes_open : (auto : Bool) (before after : Open) (who : ℕ) (h : History) → auto ≡ false → (after.session == who) ≡ true → has who (if auto then commit opening after who h (finish false before who h) else stays_open after who h).open_ ≡ true
  goes_open false before after who h e mine = put_has who after mine h.open_
  goes_open true before after who h e mine = absurd cc

  pub judged_goes : (free clear back : Bool) (before after : Open) (who : ℕ) (h : History) → free ≡ true → clear ≡ true → after.auto ≡ false → (after.session == who) ≡ true → has who (judged free clear back opening before after who h).open_ ≡ true
  judged_goes true true back before after who h e f auto mine = goes_open after.auto before after who h auto mine
  judged_goes true false back before after who h e f auto mine = absurd cc
  judged_goes false clear back before after who h e f auto mine = absurd cc

own_found_by : (t : Bool) (x p o : Open) (r : Option Open) → cond t (Some x) r ≡ Some o → (r ≡ Some o → p ≡ o) → (if t then x else p) ≡ o
own_found_by true x p o r e h = same_open x o e where
  same_open : (a c : Open) → Some a ≡ Some c → a ≡ c
  same_open a c e = cc
own_found_by false x p o r e h = h e

-- the transaction that is found is a session's own
pub own_found : (who : ℕ) (new o : Open) (xs : List Open) → find (λ x. x.session == who) xs ≡ Some o → own who new xs ≡ o
own_found who new o [] e = absurd cc
own_found who new o (x ∷ xs) e = own_found_by (x.session == who) x (own who new xs) o (find (λ y. y.session == who) xs) e (own_found who new o xs)
