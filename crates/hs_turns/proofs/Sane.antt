-- Each attempt keeps who waits for whom in order: sessions wait for open transactions alone, and never in a circle.
use Rattle.std.proofs.Common.{◌≡◌, ◌⊎◌, inl, inr, ℕ, zero, suc, ◌+◌, ◌==◌, ◌&&◌, ◌||◌, not, Bool, true, false, cond, List, [], ◌∷◌, length, refl, sym, ap, ap₂, ◌∙◌, subst, eqb-true, eq-eqb}
use Rattle.std.specs.Prelude.{Option, None, Some, find, Result, Ok, Err, if◌then◌else◌, filter}
use Rattle.std.specs.List.{list_all, list_any}
use Rattle.std.proofs.lemmas.Bool.{and_from, and_parts}
use Rattle.hs_ast.specs.declared.session.Modes.{Modes as NewModes}
use Rattle.hs_claims.specs.declared.claim.Claim.{Claim}
use Rattle.hs_claims.specs.declared.footprint.Footprint.{Footprint}
use Rattle.hs_claims.specs.declared.model.ControlKind.{ControlKind}
use Rattle.hs_claims.specs.Compatible.{fits}
use Rattle.hs_claims.specs.Wants.{wants_of}
use Rattle.hs_plan.specs.declared.definition.Definition.{Definition}
use Rattle.hs_changes.specs.Changes.{count_all_inserted}
use Rattle.hs_schema.specs.Catalogue.{Text}
use Rattle.hs_sessions.specs.declared.control.Control.{Control}
use Rattle.hs_sessions.specs.Modes.{joined, no_modes}
use Rattle.hs_sessions.specs.Settings.{controlled}
use Rattle.hs_turns.specs.Database.{Database}
use Rattle.hs_turns.specs.Language.{Outcome}
use Rattle.hs_turns.specs.Transactions.Statement.{Data, OnSession}
use Rattle.hs_turns.specs.Histories.{Open, base, commit_of, held, is_free, newer, no_conflict, now, others}
use Rattle.hs_turns.specs.Events.{Event, definition_commit, fresh, said}
use Rattle.hs_turns.specs.Events.{Act as act}
use Rattle.hs_turns.specs.Dialect.{Dialect, Request, language_of, outcome_of, open_transaction, untouched, unless_refused}
use Rattle.hs_turns.specs.Dialect.{Request as request}
use Rattle.hs_turns.specs.Lines.{Words, First}
use Rattle.hs_turns.specs.Waiting.{Entry, Waits, is_among, waits_for, ascending, leads}
use Rattle.hs_turns.specs.Machine.{Machine, Settings, settings_of, with_settings, with_modes_used, open_of, is_open, session_seen, settings_in, event, happens, ends}
use Rattle.hs_turns.specs.Attempts.{Attempt, answers, Ending, Empty, Fits, TooManyChanges, LogFull, blocks, blockers, open_sessions, leading_back, ending_of, own_of, seen_by, takes, noted, noted_by, refused_in_place, data_event, auto_ended, went_on, held_up_data, judged_data, data_by, defined_by, defined, held_up, defining, commits_event, committed_own, own_by, own_first, bound_definition, definition_by, begins_event, named, attempt_start, commit_by as ends_by, attempt_commit, left_own, attempt_rollback, is_savepoint, ready, noted_control, in_transaction, attempt_by, attempt, present, next_number}
use Rattle.hs_turns.specs.Turns.{is_closed}
use Rattle.hs_turns.proofs.Opened.{is_of, has, found_is, has_others, none_of, own_found, own_session, nothing_free, nothing_conflicts, defines_same, step_others, begins_open, session_open, judged_waits, judged_goes}
use Rattle.hs_turns.proofs.Counting.{or_cases, or_second, any_map}
use Rattle.hs_turns.proofs.Ranks.{Ranked, ranked_more}

abbrev pub opens : Machine → ℕ → Bool
opens m b = has b m.history.open_

abbrev pub Known : Machine → ℕ → Type 0
Known m s = is_among s (ascending 1 (length m.names)) ≡ true

-- a session that isn't closed
pub record Here (m : Machine) (s : ℕ) : Type 0 where
  pub known : Known m s
  pub unclosed : is_closed m s ≡ false

pub record Sane (m : Machine) : Type 0 where
  pub open_waits : (a b : ℕ) → m.waits a b ≡ true → opens m b ≡ true
  pub from : (a b : ℕ) → m.waits a b ≡ true → Known m a
  pub here : (b : ℕ) → opens m b ≡ true → Here m b
  pub ranked : Ranked (length m.names) m.waits

-- a session waits for one at least
abbrev pub Held : Waits → ℕ → Type 0
Held w x = (b : ℕ) × (w x b ≡ true)

-- what follows on a machine
pub record Next (m n : Machine) : Type 0 where
  pub sane : Sane n
  pub again : n.again ≡ false → m.again ≡ false
  pub kept : n.again ≡ false → (x : ℕ) → Held m.waits x → Held n.waits x

pub record Goes (m : Machine) (s : ℕ) (a : Attempt) : Type 0 where
  pub next : Next m a.next
  pub holds : a.final ≡ false → Held a.next.waits s

-- ---- lists

first_by : (p : ℕ → Bool) (b x : ℕ) (xs : List ℕ) → p x ≡ true → ((x == b) ≡ true) ⊎ (is_among b (filter p xs) ≡ true) → (is_among b (filter p xs) ≡ true → (is_among b xs ≡ true) × (p b ≡ true)) → (is_among b (x ∷ xs) ≡ true) × (p b ≡ true)
first_by p b x xs is (inl e) rest = (ap (λ (c : Bool). c || is_among b xs) e, ap p (sym (eqb-true x b e)) ∙ is)
first_by p b x xs is (inr k) rest = let r = rest k in (or_second (x == b) (is_among b xs) r.0, r.1)

among_by : (p : ℕ → Bool) (b x : ℕ) (xs : List ℕ) (t : Bool) → p x ≡ t → is_among b (cond t (x ∷ filter p xs) (filter p xs)) ≡ true → (is_among b (filter p xs) ≡ true → (is_among b xs ≡ true) × (p b ≡ true)) → (is_among b (x ∷ xs) ≡ true) × (p b ≡ true)
among_by p b x xs true is h rest = first_by p b x xs is (or_cases (x == b) (is_among b (filter p xs)) h) rest
among_by p b x xs false is h rest = let r = rest h in (or_second (x == b) (is_among b xs) r.0, r.1)

among_filter : (p : ℕ → Bool) (b : ℕ) (xs : List ℕ) → is_among b (filter p xs) ≡ true → (is_among b xs ≡ true) × (p b ≡ true)
among_filter p b [] h = absurd cc
among_filter p b (x ∷ xs) h = among_by p b x xs (p x) refl h (among_filter p b xs)

filtered_by : (p : ℕ → Bool) (b x : ℕ) (xs : List ℕ) (t : Bool) → p x ≡ t → p b ≡ true → ((x == b) ≡ true) ⊎ (is_among b xs ≡ true) → (is_among b xs ≡ true → is_among b (filter p xs) ≡ true) → is_among b (cond t (x ∷ filter p xs) (filter p xs)) ≡ true
filtered_by p b x xs true is passes (inl e) rest = ap (λ (c : Bool). c || is_among b (filter p xs)) e
filtered_by p b x xs true is passes (inr h) rest = or_second (x == b) (is_among b (filter p xs)) (rest h)
filtered_by p b x xs false is passes (inl e) rest = let t : p x ≡ true = ap p (eqb-true x b e) ∙ passes in absurd cc
filtered_by p b x xs false is passes (inr h) rest = rest h

filter_among : (p : ℕ → Bool) (b : ℕ) (xs : List ℕ) → is_among b xs ≡ true → p b ≡ true → is_among b (filter p xs) ≡ true
filter_among p b [] h passes = absurd cc
filter_among p b (x ∷ xs) h passes = filtered_by p b x xs (p x) refl passes (or_cases (x == b) (is_among b xs) h) (λ k. filter_among p b xs k passes)

none_by : (p : ℕ → Bool) (b x : ℕ) (xs : List ℕ) (t : Bool) → p x ≡ t → cond t (Some x) (find p xs) ≡ None → ((x == b) ≡ true) ⊎ (is_among b xs ≡ true) → (find p xs ≡ None → is_among b xs ≡ true → p b ≡ false) → p b ≡ false
none_by p b x xs true is h at rest = absurd cc
none_by p b x xs false is h (inl e) rest = ap p (sym (eqb-true x b e)) ∙ is
none_by p b x xs false is h (inr k) rest = rest h k

pub none_passes : (p : ℕ → Bool) (b : ℕ) (xs : List ℕ) → find p xs ≡ None → is_among b xs ≡ true → p b ≡ false
none_passes p b [] h at = absurd cc
none_passes p b (x ∷ xs) h at = none_by p b x xs (p x) refl h (or_cases (x == b) (is_among b xs) at) (none_passes p b xs)

sessions_long : (first n : ℕ) → length (ascending first n) ≡ n
sessions_long first zero = refl
sessions_long first (suc n) = ap suc (sessions_long (first + 1) n)

not_by : (t rest other : Bool) → (t && rest) ≡ false → (rest ≡ false → other ≡ true) → (not t || other) ≡ true
not_by true rest other h k = k h
not_by false rest other h k = refl

not_all : (p : Open → Bool) (xs : List Open) → list_all p xs ≡ false → list_any (λ u. not (p u)) xs ≡ true
not_all p [] h = absurd cc
not_all p (x ∷ xs) h = not_by (p x) (list_all p xs) (list_any (λ u. not (p u)) xs) h (not_all p xs)

not_true : (b : Bool) → not b ≡ true → b ≡ false
not_true false h = refl
not_true true h = absurd cc

module _ (d : Dialect) (opening : Database) (made : ℕ) where
  abbrev hp : Event → Machine → Machine
  hp e m = happens d opening e m

  -- ---- what an event leaves

  same_opens : (e : Event) (m : Machine) (b : ℕ) → (b == e.session) ≡ false → opens (hp e m) b ≡ opens m b
  same_opens e m b other = step_others (language_of d) opening e m.history b other

  here_by : (e : Event) (m : Machine) → Sane m → Here m e.session → (b : ℕ) (t : Bool) → (b == e.session) ≡ t → opens (hp e m) b ≡ true → Here m b
  here_by e m s here b true is h = subst (Here m) (sym (eqb-true b e.session is)) here
  here_by e m s here b false is h = s.here b (sym (same_opens e m b is) ∙ h)

  -- the same sessions are there
  moved : (m n : Machine) (b : ℕ) → n.names ≡ m.names → n.closed ≡ m.closed → Here m b → Here n b
  moved m n b names closed here = record {
    known = ap (λ (l : List Text). is_among b (ascending 1 (length l))) names ∙ here.known;
    unclosed = ap (λ (l : List ℕ). list_any (λ c. c == b) l) closed ∙ here.unclosed;
  }

  ended_sane : (e : Event) (m : Machine) → Sane m → Here m e.session → Sane (ends e.session (hp e m))
  ended_sane e m s here = record {
    open_waits = λ a b h. let parts = and_parts (not (b == e.session)) (m.waits a b) h in same_opens e m b (not_true (b == e.session) parts.0) ∙ s.open_waits a b parts.1;
    from = λ a b h. s.from a b (and_parts (not (b == e.session)) (m.waits a b) h).1;
    here = λ b h. moved m (ends e.session (hp e m)) b refl refl (here_by e m s here b (b == e.session) refl h);
    ranked = record {
      rank = s.ranked.rank;
      rises = λ a b h. s.ranked.rises a b (and_parts (not (b == e.session)) (m.waits a b) h).1;
      below = λ a b h. s.ranked.below a b (and_parts (not (b == e.session)) (m.waits a b) h).1;
    };
  }

  open_by : (e : Event) (m : Machine) → opens (hp e m) e.session ≡ true → (b : ℕ) (t : Bool) → (b == e.session) ≡ t → opens m b ≡ true → opens (hp e m) b ≡ true
  open_by e m now b true is h = ap (opens (hp e m)) (eqb-true b e.session is) ∙ now
  open_by e m now b false is h = same_opens e m b is ∙ h

  -- where the session's own transaction is open behind it
  open_sane : (e : Event) (m : Machine) → Sane m → Here m e.session → opens (hp e m) e.session ≡ true → Sane (hp e m)
  open_sane e m s here now = record {
    open_waits = λ a b h. open_by e m now b (b == e.session) refl (s.open_waits a b h);
    from = s.from;
    here = λ b h. moved m (hp e m) b refl refl (here_by e m s here b (b == e.session) refl h);
    ranked = s.ranked;
  }

  set_sane : (who : ℕ) (set : Settings) (n : Machine) → Sane n → Sane (with_settings who set n)
  set_sane who set n s = record { open_waits = s.open_waits; from = s.from; here = λ b h. moved n (with_settings who set n) b refl refl (s.here b h); ranked = s.ranked }

  -- ---- what follows

  stays : (m : Machine) → Sane m → Next m m
  stays m s = record { sane = s; again = λ e. e; kept = λ e x h. h }

  ended : (e : Event) (m : Machine) → Sane m → Here m e.session → Next m (ends e.session (hp e m))
  ended e m s here = record { sane = ended_sane e m s here; again = λ e. absurd cc; kept = λ e x h. absurd cc }

  opened : (e : Event) (m : Machine) → Sane m → Here m e.session → opens (hp e m) e.session ≡ true → Next m (hp e m)
  opened e m s here now = record { sane = open_sane e m s here now; again = λ e. e; kept = λ e x h. h }

  set_next : (who : ℕ) (set : Settings) (m n : Machine) → Next m n → Next m (with_settings who set n)
  set_next who set m n f = record { sane = set_sane who set n f.sane; again = f.again; kept = f.kept }

  through : (m n k : Machine) → Next m n → Next n k → Next m k
  through m n k f g = record { sane = g.sane; again = λ e. f.again (g.again e); kept = λ e x h. g.kept e x (f.kept (g.again e) x h) }

  either : (b : Bool) (m x y : Machine) → Next m x → Next m y → Next m (if b then x else y)
  either true m x y f g = f
  either false m x y f g = g

  taken_ended_by : (b : Bool) (e : Event) (m : Machine) → Sane m → Here m e.session → Next m (ends e.session (if b then hp e m else with_modes_used e.session (hp e m)))
  taken_ended_by true e m s here = ended e m s here
  taken_ended_by false e m s here =
      let f = ended_sane e m s here in
      let n = ends e.session (with_modes_used e.session (hp e m)) in
      record {
        sane = record { open_waits = f.open_waits; from = f.from; here = λ b h. moved (ends e.session (hp e m)) n b refl refl (f.here b h); ranked = f.ranked };
        again = λ e. absurd cc;
        kept = λ e x h. absurd cc;
      }

  taken_ended : (e : Event) (m : Machine) → Sane m → Here m e.session → Next m (ends e.session (takes d opening made e m))
  taken_ended e m s here = taken_ended_by (is_open m e.session) e m s here

  taken_open : (e : Event) (m : Machine) → Sane m → Here m e.session → opens (hp e m) e.session ≡ true → Next m (takes d opening made e m)
  taken_open e m s here now =
      either (is_open m e.session) m (hp e m) (with_modes_used e.session (hp e m)) (opened e m s here now)
      (set_next e.session (record (settings_of (hp e m) e.session) { next = no_modes }) m (hp e m) (opened e m s here now))

  taken_opens_by : (b : Bool) (e : Event) (m : Machine) (x : ℕ) → opens (if b then hp e m else with_modes_used e.session (hp e m)) x ≡ opens (hp e m) x
  taken_opens_by true e m x = refl
  taken_opens_by false e m x = refl

  taken_here_by : (b : Bool) (e : Event) (m : Machine) (x : ℕ) → Here m x → Here (if b then hp e m else with_modes_used e.session (hp e m)) x
  taken_here_by true e m x h = moved m (hp e m) x refl refl h
  taken_here_by false e m x h = moved m (with_modes_used e.session (hp e m)) x refl refl h

  taken_waits_by : (b : Bool) (e : Event) (m : Machine) → (if b then hp e m else with_modes_used e.session (hp e m)).waits ≡ m.waits
  taken_waits_by true e m = refl
  taken_waits_by false e m = refl

  taken_names_by : (b : Bool) (e : Event) (m : Machine) → (if b then hp e m else with_modes_used e.session (hp e m)).names ≡ m.names
  taken_names_by true e m = refl
  taken_names_by false e m = refl

  -- ---- a session begins to wait

  module _ (s : ℕ) (bs : List ℕ) where
    wait_open : (n : Machine) → Sane n → ((b : ℕ) → is_among b bs ≡ true → opens n b ≡ true) → (a b : ℕ) (t : Bool) → (if t then is_among b bs else n.waits a b) ≡ true → opens n b ≡ true
    wait_open n sane open_ a b true h = open_ b h
    wait_open n sane open_ a b false h = sane.open_waits a b h

    wait_from : (n : Machine) → Sane n → Here n s → (a b : ℕ) (t : Bool) → (a == s) ≡ t → (if t then is_among b bs else n.waits a b) ≡ true → Known n a
    wait_from n sane here a b true is h = subst (Known n) (sym (eqb-true a s is)) here.known
    wait_from n sane here a b false is h = sane.from a b h

    wait_held : (n : Machine) → Held (λ a b. is_among b bs) s → (x : ℕ) (t : Bool) → Held n.waits x → Held (λ a b. if t then is_among b bs else n.waits a b) x
    wait_held n some x true h = some
    wait_held n some x false h = h

    held_waits : (n : Machine) → Held (λ a b. is_among b bs) s → (x : ℕ) → Held n.waits x → Held (waits_for s bs n.waits) x
    held_waits n some x h = wait_held n some x (x == s) h

    itself_waits : (n : Machine) → Held (λ a b. is_among b bs) s → (t : Bool) → (s == s) ≡ t → (b : ℕ) × ((if s == s then is_among b bs else n.waits s b) ≡ true)
    itself_waits n some true is = (some.0, ap (λ (c : Bool). if c then is_among some.0 bs else n.waits s some.0) is ∙ some.1)
    itself_waits n some false is = absurd (both_ways (s == s) is (eq-eqb s s refl))
      where
        both_ways : (b : Bool) → b ≡ false → b ≡ true → ⊥
        both_ways true e f = absurd cc
        both_ways false e f = absurd cc

    waiting_next : (m n : Machine) → Next m n → Here n s → ((b : ℕ) → is_among b bs ≡ true → opens n b ≡ true) → ((b : ℕ) → is_among b bs ≡ true → leads (length n.names) n.waits b s ≡ false) → Held (λ a b. is_among b bs) s
        → Next m (record n { waits = waits_for s bs n.waits })
    waiting_next m n f here open_ clear some =
        let sane = f.sane in
        let k = record n { waits = waits_for s bs n.waits } in
        record {
          sane = record {
            open_waits = λ a b h. wait_open n sane open_ a b (a == s) h;
            from = λ a b h. wait_from n sane here a b (a == s) refl h;
            here = λ b h. moved n k b refl refl (sane.here b h);
            ranked = ranked_more (length n.names) (ascending 1 (length n.names)) (sessions_long 1 (length n.names)) n.waits sane.ranked sane.from (λ a b h. (sane.here b (sane.open_waits a b h)).known)
                s here.known bs (λ b h. (sane.here b (open_ b h)).known) clear;
          };
          again = f.again;
          kept = λ e x h. held_waits n some x (f.kept e x h);
        }

  -- ---- blockers

  blocks_has : (kind : ControlKind) (wanted : List Claim) (b : ℕ) (rest : List Open) → list_any (blocks kind wanted b) rest ≡ true → has b rest ≡ true
  blocks_has kind wanted b rest h = any_map (blocks kind wanted b) (is_of b) (λ u e. (and_parts (u.session == b) (not (fits wanted (held kind u.level u.read_only u.trace.feet))) e).0) rest h

  apart : (b s : ℕ) (xs : List Open) (t : Bool) → (b == s) ≡ t → has b (others s xs) ≡ true → ((b == s) ≡ false) × (has b xs ≡ true)
  apart b s xs false is h = (is, sym (has_others b s is xs) ∙ h)
  apart b s xs true is h = let e : has s (others s xs) ≡ true = subst (λ (x : ℕ). has x (others s xs) ≡ true) (eqb-true b s is) h in let f = none_of s xs in absurd cc

  blocker_open : (m : Machine) (s : ℕ) (wanted : List Claim) (b : ℕ) → is_among b (blockers m s wanted) ≡ true → ((b == s) ≡ false) × (opens m b ≡ true)
  blocker_open m s wanted b h =
      let found = among_filter (λ x. list_any (blocks m.history.kind wanted x) (others s m.history.open_)) b (ascending 1 (length m.names)) h in
      apart b s m.history.open_ (b == s) refl (blocks_has m.history.kind wanted b (others s m.history.open_) found.1)

  blocked_here : (kind : ControlKind) (wanted : List Claim) (x : Open) (xs : List Open) → (not (fits wanted (held kind x.level x.read_only x.trace.feet)) ≡ true) ⊎ (list_any (λ u. not (fits wanted (held kind u.level u.read_only u.trace.feet))) xs ≡ true)
      → (list_any (λ u. not (fits wanted (held kind u.level u.read_only u.trace.feet))) xs ≡ true → (b : ℕ) × (list_any (blocks kind wanted b) xs ≡ true)) → (b : ℕ) × (list_any (blocks kind wanted b) (x ∷ xs) ≡ true)
  blocked_here kind wanted x xs (inl e) rest =
      (x.session, ap (λ (c : Bool). c || list_any (blocks kind wanted x.session) xs) (and_from (x.session == x.session) (not (fits wanted (held kind x.level x.read_only x.trace.feet))) (eq-eqb x.session x.session refl) e))
  blocked_here kind wanted x xs (inr h) rest = let r = rest h in (r.0, or_second (blocks kind wanted r.0 x) (list_any (blocks kind wanted r.0) xs) r.1)

  blocked_some : (kind : ControlKind) (wanted : List Claim) (xs : List Open) → list_any (λ u. not (fits wanted (held kind u.level u.read_only u.trace.feet))) xs ≡ true → (b : ℕ) × (list_any (blocks kind wanted b) xs ≡ true)
  blocked_some kind wanted [] h = absurd cc
  blocked_some kind wanted (x ∷ xs) h = blocked_here kind wanted x xs (or_cases (not (fits wanted (held kind x.level x.read_only x.trace.feet))) (list_any (λ u. not (fits wanted (held kind u.level u.read_only u.trace.feet))) xs) h) (blocked_some kind wanted xs)

  some_blocker : (m : Machine) → Sane m → (s : ℕ) (wanted : List Claim) → list_any (λ u. not (fits wanted (held m.history.kind u.level u.read_only u.trace.feet))) (others s m.history.open_) ≡ true → Held (λ a b. is_among b (blockers m s wanted)) s
  some_blocker m sane s wanted h =
      let found = blocked_some m.history.kind wanted (others s m.history.open_) h in
      let there = apart found.0 s m.history.open_ (found.0 == s) refl (blocks_has m.history.kind wanted found.0 (others s m.history.open_) found.1) in
      (found.0, filter_among (λ x. list_any (blocks m.history.kind wanted x) (others s m.history.open_)) found.0 (ascending 1 (length m.names)) (sane.here found.0 there.1).known found.1)

  no_way_back : (m : Machine) (s : ℕ) (bs : List ℕ) → leading_back m s bs ≡ None → (b : ℕ) → is_among b bs ≡ true → leads (length m.names) m.waits b s ≡ false
  no_way_back m s bs none b h = none_passes (λ x. leads (length m.names) m.waits x s) b bs none h

  -- ---- attempts

  final : (s : ℕ) (words : List Words) (m n : Machine) → Next m n → Goes m s (answers words n)
  final s words m n f = record { next = f; holds = λ e. absurd cc }

  own_is : (m : Machine) (e : Event) (o : Open) → open_of m e.session ≡ Some o → own_of d opening made m e ≡ o
  own_is m e o is = own_found e.session (fresh m.history.kind e (length m.history.commits)) o m.history.open_ is

  mine : (m : Machine) (e : Event) → ((own_of d opening made m e).session == e.session) ≡ true
  mine m e = own_session e.session (fresh m.history.kind e (length m.history.commits)) (eq-eqb e.session e.session refl) m.history.open_

  abbrev foot_at : Machine → Entry → Open → Type 0
  foot_at m entry o = ((language_of d).outcome o.read_only (count_all_inserted o.trace.changes) (seen_by d opening made m o) entry.text).foot ≡ untouched

  module _ (entry : Entry) (m : Machine) (sane : Sane m) (here : Here m entry.session) where
    abbrev s : ℕ
    s = entry.session

    abbrev de : Event
    de = data_event d opening made m entry false

    abbrev o : Open
    o = own_of d opening made m de

    abbrev out : Outcome
    out = (language_of d).outcome o.read_only (count_all_inserted o.trace.changes) (seen_by d opening made m o) entry.text

    abbrev wanted : List Claim
    wanted = wants_of m.history.kind o.level o.read_only out.foot

    abbrev after : Open
    after = said (language_of d) (base m.history.kind opening m.history.commits o) (Data entry.text) o

    auto_goes : (how : Ending) → Goes m s (auto_ended d opening made how entry after m)
    auto_goes Empty = final s _ m (ends s (takes d opening made de m)) (taken_ended de m sane here)
    auto_goes Fits = final s _ m (ends s (takes d opening made de m)) (taken_ended de m sane here)
    auto_goes TooManyChanges = final s _ m (ends s (takes d opening made de m)) (taken_ended de m sane here)
    auto_goes LogFull = let e : Event = record de { act = act.Leaves } in final s _ m (ends s (takes d opening made e m)) (taken_ended e m sane here)

    went_goes : (auto : Bool) → o.auto ≡ auto → is_free m.history.kind o out.foot (others s m.history.open_) ≡ true → no_conflict m.history.kind o out.foot (newer m.history.commits o) ≡ true → Goes m s (went_on d opening made auto entry after m)
    went_goes true auto free clear = auto_goes (ending_of d opening made m (commit_of after))
    went_goes false auto free clear = final s _ m (takes d opening made de m)
        (taken_open de m sane here (judged_goes (language_of d) opening (is_free m.history.kind o out.foot (others s m.history.open_)) (no_conflict m.history.kind o out.foot (newer m.history.commits o)) false o after s m.history free clear auto (mine m de)))

    held_goes : (back : Option ℕ) → leading_back m s (blockers m s wanted) ≡ back → is_free m.history.kind o out.foot (others s m.history.open_) ≡ false → Goes m s (held_up_data d opening made back (blockers m s wanted) entry m)
    held_goes (Some back) is free = let e = data_event d opening made m entry true in final s _ m (ends s (takes d opening made e m)) (taken_ended e m sane here)
    held_goes None is free =
        let n = takes d opening made de m in
        let bs = blockers m s wanted in
        let some = some_blocker m sane s wanted (not_all (λ u. fits wanted (held m.history.kind u.level u.read_only u.trace.feet)) (others s m.history.open_) free) in
        let now = judged_waits (language_of d) opening (is_free m.history.kind o out.foot (others s m.history.open_)) (no_conflict m.history.kind o out.foot (newer m.history.commits o)) o after s m.history free (mine m de) in
        record {
          next = waiting_next s bs m n (taken_open de m sane here now) (taken_here_by (is_open m s) de m s here)
              (λ b h. let f = blocker_open m s wanted b h in taken_opens_by (is_open m s) de m b ∙ same_opens de m b f.0 ∙ f.1)
              (λ b h. ap₂ (λ (names : List Text) (w : Waits). leads (length names) w b s) (taken_names_by (is_open m s) de m) (taken_waits_by (is_open m s) de m) ∙ no_way_back m s bs is b h)
              some;
          holds = λ e. itself_waits s bs n some (s == s) refl;
        }

    judges_goes : (free clear : Bool) → is_free m.history.kind o out.foot (others s m.history.open_) ≡ free → no_conflict m.history.kind o out.foot (newer m.history.commits o) ≡ clear → Goes m s (judged_data d opening made free clear entry o wanted m)
    judges_goes true true e f = went_goes o.auto refl e f
    judges_goes true false e f = final s _ m (ends s (takes d opening made de m)) (taken_ended de m sane here)
    judges_goes false clear e f = held_goes (leading_back m s (blockers m s wanted)) refl e

    -- ---- a refusal

    noted_auto : (x : Open) → open_of m s ≡ Some x → foot_at m entry x → (t : Bool) → x.auto ≡ t → Next m (if t then left_own d opening made s m else hp (event m s false false (act.Says (Data entry.text))) m)
    noted_auto x is none true auto = ended (event m s false false act.Leaves) m sane here
    noted_auto x is none false auto =
        let e = event m s false false (act.Says (Data entry.text)) in
        let p = own_of d opening made m e in
        let same : p ≡ x = own_is m e x is in
        let f = ((language_of d).outcome p.read_only (count_all_inserted p.trace.changes) (seen_by d opening made m p) entry.text).foot in
        let no : f ≡ untouched = subst (foot_at m entry) (sym same) none in
        opened e m sane here
        (judged_goes (language_of d) opening (is_free m.history.kind p f (others s m.history.open_)) (no_conflict m.history.kind p f (newer m.history.commits p)) false p (said (language_of d) (base m.history.kind opening m.history.commits p) (Data entry.text) p) s m.history
        (ap (λ (x : Footprint). is_free m.history.kind p x (others s m.history.open_)) no ∙ nothing_free m.history.kind p (others s m.history.open_))
        (ap (λ (x : Footprint). no_conflict m.history.kind p x (newer m.history.commits p)) no ∙ nothing_conflicts m.history.kind p (newer m.history.commits p))
        (ap (λ (x : Open). x.auto) same ∙ auto) (mine m e))

    noted_found : (found : Option Open) → open_of m s ≡ found → ((x : Open) → open_of m s ≡ Some x → foot_at m entry x) → Next m (noted_by d opening made found entry m)
    noted_found None is none = stays m sane
    noted_found (Some x) is none = noted_auto x is (none x is) x.auto refl

    refusal_goes : (why : Text) → ((x : Open) → open_of m s ≡ Some x → foot_at m entry x) → Goes m s (refused_in_place d opening made entry why m)
    refusal_goes why none = final s _ m (noted d opening made entry m) (noted_found (open_of m s) refl none)

    data_goes : d.request entry.text ≡ request.OfData → (why : Option Text) → d.refusal o.read_only (seen_by d opening made m o) entry.text ≡ why → Goes m s (data_by d opening made why entry o m)
    data_goes is None e = judges_goes (is_free m.history.kind o out.foot (others s m.history.open_)) (no_conflict m.history.kind o out.foot (newer m.history.commits o)) refl refl
    data_goes is (Some why) e = refusal_goes why (λ x found.
        let at : d.refusal x.read_only (seen_by d opening made m x) entry.text ≡ Some why = subst (λ (y : Open). d.refusal y.read_only (seen_by d opening made m y) entry.text ≡ Some why) (own_is m de x found) e in
        ap (λ (r : Request). (outcome_of d x.read_only (count_all_inserted x.trace.changes) (seen_by d opening made m x) entry.text r).foot) is
        ∙ ap (λ (y : Option Text). (unless_refused y (d.outcome x.read_only (count_all_inserted x.trace.changes) (seen_by d opening made m x) entry.text)).foot) at)

  -- ---- definitions

  no_foot_by : (x : Option Text) → (unless_refused x (record { rows = []; reply = []; changes = []; foot = untouched })).foot ≡ untouched
  no_foot_by None = refl
  no_foot_by (Some why) = refl

  module _ (e : Event) (m : Machine) (sane : Sane m) (same : (hp e m).history.open_ ≡ m.history.open_) where
    same_sane : Sane (hp e m)
    same_sane = record {
      open_waits = λ a b h. ap (has b) same ∙ sane.open_waits a b h;
      from = sane.from;
      here = λ b h. moved m (hp e m) b refl refl (sane.here b (sym (ap (has b) same) ∙ h));
      ranked = sane.ranked;
    }

    same_next : Next m (hp e m)
    same_next = record { sane = same_sane; again = λ e. e; kept = λ e x h. h }

  module _ (entry : Entry) (before : List Words) (m : Machine) (sane : Sane m) (here : Here m entry.session) where
    define_event : Event
    define_event = event m entry.session false false (act.Defines entry.text)

    defined_goes : (how : Ending) → Goes m entry.session (defined_by d opening made how before entry m)
    unfolding define_event
    defined_goes Empty = final entry.session _ m m (stays m sane)
    defined_goes Fits = final entry.session _ m (hp (event m entry.session false false (act.Defines entry.text)) m)
        (same_next (event m entry.session false false (act.Defines entry.text)) m sane (defines_same (language_of d) opening entry.text m.history.open_ entry.session m.history))
    defined_goes TooManyChanges = final entry.session _ m m (stays m sane)
    defined_goes LogFull = final entry.session _ m m (stays m sane)

    of_defined : (found : Result Definition Text) → Goes m entry.session (defined d opening made found before entry m)
    of_defined (Err why) = final entry.session _ m m (stays m sane)
    of_defined (Ok definition) = defined_goes (ending_of d opening made m (definition_commit entry.session definition))

    open_some : (x : Open) (xs : List Open) → m.history.open_ ≡ x ∷ xs → Held (λ a b. is_among b (open_sessions m)) entry.session
    open_some x xs is =
        let there : opens m x.session ≡ true = ap (has x.session) is ∙ ap (λ (c : Bool). c || has x.session xs) (eq-eqb x.session x.session refl) in
        (x.session, filter_among (is_open m) x.session (ascending 1 (length m.names)) (sane.here x.session there).known (found_is x.session m.history.open_ ∙ there))

    held_up_goes : (back : Option ℕ) → leading_back m entry.session (open_sessions m) ≡ back → Held (λ a b. is_among b (open_sessions m)) entry.session → Goes m entry.session (held_up d opening made back (open_sessions m) before entry m)
    held_up_goes (Some back) is some = final entry.session _ m m (stays m sane)
    held_up_goes None is some =
        let bs = open_sessions m in
        record {
          next = waiting_next entry.session bs m m (stays m sane) here (λ b h. sym (found_is b m.history.open_) ∙ (among_filter (is_open m) b (ascending 1 (length m.names)) h).1) (no_way_back m entry.session bs is) some;
          holds = λ e. itself_waits entry.session bs m some (entry.session == entry.session) refl;
        }

    defining_goes : (os : List Open) → m.history.open_ ≡ os → Goes m entry.session (defining d opening made os before entry m)
    defining_goes [] is = of_defined (d.definition (present d opening made m) entry.text)
    defining_goes (x ∷ xs) is = held_up_goes (leading_back m entry.session (open_sessions m)) refl (open_some x xs is)

  -- ---- the end of a session's own transaction

  own_ended : (m : Machine) (who : ℕ) → Sane m → Here m who → Next m (committed_own d opening made m who)
  own_ended m who sane here = ended (commits_event d opening made m who) m sane here

  after_own : (entry : Entry) (before : List Words) (m : Machine) → Sane m → Here m entry.session → Goes m entry.session (defining d opening made (committed_own d opening made m entry.session).history.open_ before entry (committed_own d opening made m entry.session))
  after_own entry before m sane here =
      let n = committed_own d opening made m entry.session in
      let f = own_ended m entry.session sane here in
      let g = defining_goes entry before n f.sane (moved m n entry.session refl refl here) n.history.open_ refl in
      record { next = through m n (defining d opening made n.history.open_ before entry n).next f g.next; holds = g.holds }

  owns_goes : (entry : Entry) (m : Machine) → Sane m → Here m entry.session → (how : Ending) → Goes m entry.session (own_by d opening made how entry m)
  owns_goes entry m sane here Empty = after_own entry [] m sane here
  owns_goes entry m sane here Fits = after_own entry (First (next_number d opening made m) ∷ []) m sane here
  owns_goes entry m sane here TooManyChanges = final entry.session _ m m (stays m sane)
  owns_goes entry m sane here LogFull = final entry.session _ m m (stays m sane)

  own_goes : (entry : Entry) (m : Machine) → Sane m → Here m entry.session → (found : Option Open) → Goes m entry.session (own_first d opening made found entry m)
  own_goes entry m sane here None = defining_goes entry [] m sane here m.history.open_ refl
  own_goes entry m sane here (Some x) = owns_goes entry m sane here (ending_of d opening made m (commit_of x))

  bound_goes : (entry : Entry) (m : Machine) → Sane m → Here m entry.session → (is_first : Bool) → Goes m entry.session (bound_definition d opening made is_first entry m)
  bound_goes entry m sane here true = own_goes entry m sane here (open_of m entry.session)
  bound_goes entry m sane here false = defining_goes entry [] m sane here m.history.open_ refl

  definition_goes : (entry : Entry) (m : Machine) → Sane m → Here m entry.session → d.request entry.text ≡ request.OfDefinition → (is_first : Bool) (why : Option Text) → Goes m entry.session (definition_by d opening made is_first why entry m)
  definition_goes entry m sane here is is_first (Some why) = refusal_goes entry m sane here why (λ x found.
      ap (λ (r : Request). (outcome_of d x.read_only (count_all_inserted x.trace.changes) (seen_by d opening made m x) entry.text r).foot) is ∙ no_foot_by (d.refusal x.read_only (seen_by d opening made m x) entry.text))
  definition_goes entry m sane here is is_first None = bound_goes entry m sane here is_first

  -- ---- the others

  start_goes : (entry : Entry) (modes : NewModes) (m : Machine) → Sane m → Here m entry.session → d.request entry.text ≡ request.Starts modes → (open_ : Bool) → Goes m entry.session (attempt_start d opening made open_ modes entry m)
  start_goes entry modes m sane here is true = refusal_goes entry m sane here open_transaction (λ x found. ap (λ (r : Request). (outcome_of d x.read_only (count_all_inserted x.trace.changes) (seen_by d opening made m x) entry.text r).foot) is)
  start_goes entry modes m sane here is false =
      let set : Settings = record (settings_of m entry.session) { next = joined modes (settings_of m entry.session).next } in
      let n = named d opening made modes entry.session m in
      let f = set_next entry.session set m m (stays m sane) in
      let e = begins_event d opening made n entry.session in
      final entry.session _ m (takes d opening made e n)
      (through m n (takes d opening made e n) f (taken_open e n f.sane (moved m n entry.session refl refl here) (begins_open (language_of d) opening e n.history refl)))

  commit_goes : (who : ℕ) (m : Machine) → Sane m → Here m who → (how : Ending) → Goes m who (ends_by d opening made how who m)
  commit_goes who m sane here Empty = final who _ m (committed_own d opening made m who) (own_ended m who sane here)
  commit_goes who m sane here Fits = final who _ m (committed_own d opening made m who) (own_ended m who sane here)
  commit_goes who m sane here TooManyChanges = final who _ m m (stays m sane)
  commit_goes who m sane here LogFull = final who _ m m (stays m sane)

  commits_goes : (who : ℕ) (m : Machine) → Sane m → Here m who → (found : Option Open) → Goes m who (attempt_commit d opening made found who m)
  commits_goes who m sane here None = final who _ m m (stays m sane)
  commits_goes who m sane here (Some x) = commit_goes who m sane here (ending_of d opening made m (commit_of x))

  pub left_next : (who : ℕ) (m : Machine) → Sane m → Here m who → Next m (left_own d opening made who m)
  left_next who m sane here = ended (event m who false false act.Leaves) m sane here

  rollback_goes : (who : ℕ) (m : Machine) → Sane m → Here m who → (open_ : Bool) → Goes m who (attempt_rollback d opening made open_ who m)
  rollback_goes who m sane here false = final who _ m m (stays m sane)
  rollback_goes who m sane here true = final who _ m (left_own d opening made who m) (left_next who m sane here)

  ready_next : (control : Control) (who : ℕ) (m : Machine) → Sane m → Here m who → Next m (ready d opening made control who m)
  ready_next control who m sane here =
      let e = begins_event d opening made m who in
      either (is_savepoint control && not (settings_of m who).autocommit && not (is_open m who)) m (takes d opening made e m) m (taken_open e m sane here (begins_open (language_of d) opening e m.history refl)) (stays m sane)

  noted_control_next : (control : Control) (who : ℕ) (m : Machine) → Sane m → Here m who → Next m (noted_control d opening made control who m)
  noted_control_next control who m sane here =
      let e = event m who false false (act.Says (OnSession control)) in
      either (is_open m who) m (hp e m) m (opened e m sane here (session_open (language_of d) opening false control (own_of d opening made m e) who m.history (mine m e))) (stays m sane)

  control_goes : (control : Control) (who : ℕ) (m : Machine) → Sane m → Here m who → Goes m who (in_transaction d opening made control who m)
  control_goes control who m sane here =
      let set = settings_in (controlled control (session_seen (settings_of m who) (open_of m who))).1 in
      final who _ m (with_settings who set (noted_control d opening made control who m)) (set_next who set m (noted_control d opening made control who m) (noted_control_next control who m sane here))

  ready_here : (control : Control) (who : ℕ) (m : Machine) → Here m who → Here (ready d opening made control who m) who
  ready_here control who m here = here_either (is_savepoint control && not (settings_of m who).autocommit && not (is_open m who)) (takes d opening made (begins_event d opening made m who) m) m (taken_here_by (is_open m who) (begins_event d opening made m who) m who here) here where
    here_either : (b : Bool) (x y : Machine) → Here x who → Here y who → Here (if b then x else y) who
    here_either true x y h k = h
    here_either false x y h k = k

  request_goes : (entry : Entry) (m : Machine) → Sane m → Here m entry.session → (is_first : Bool) (r : Request) → d.request entry.text ≡ r → Goes m entry.session (attempt_by d opening made r is_first entry m)
  request_goes entry m sane here is_first (request.Faulty why) is = refusal_goes entry m sane here why (λ x found. ap (λ (r : Request). (outcome_of d x.read_only (count_all_inserted x.trace.changes) (seen_by d opening made m x) entry.text r).foot) is)
  request_goes entry m sane here is_first request.OfData is =
      let o = own_of d opening made m (data_event d opening made m entry false) in data_goes entry m sane here is (d.refusal o.read_only (seen_by d opening made m o) entry.text) refl
  request_goes entry m sane here is_first request.OfDefinition is =
      let o = own_of d opening made m (commits_event d opening made m entry.session) in definition_goes entry m sane here is is_first (d.refusal o.read_only (seen_by d opening made m o) entry.text)
  request_goes entry m sane here is_first (request.Starts modes) is = start_goes entry modes m sane here is (is_open m entry.session)
  request_goes entry m sane here is_first request.Commits is = commits_goes entry.session m sane here (open_of m entry.session)
  request_goes entry m sane here is_first request.RollsBack is = rollback_goes entry.session m sane here (is_open m entry.session)
  request_goes entry m sane here is_first (request.OnSettings control) is =
      let n = ready d opening made control entry.session m in
      let f = ready_next control entry.session m sane here in
      let g = control_goes control entry.session n f.sane (ready_here control entry.session m here) in
      record { next = through m n (in_transaction d opening made control entry.session n).next f g.next; holds = g.holds }

  -- an attempt of an entry of a session that isn't closed
  pub attempt_goes : (is_first : Bool) (entry : Entry) (m : Machine) → Sane m → Here m entry.session → Goes m entry.session (attempt d opening made is_first entry m)
  attempt_goes is_first entry m sane here = request_goes entry m sane here is_first (d.request entry.text) refl
