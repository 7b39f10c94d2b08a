-- At the end of a run nobody waits, and each item has its reply.
use Rattle.std.proofs.Common.{◌≡◌, ◌⊎◌, inl, inr, ℕ, zero, suc, ◌+◌, ◌≤◌, ◌==◌, ◌||◌, not, Bool, true, false, List, [], ◌∷◌, ◌++◌, length, refl, sym, ap, ◌∙◌, subst, arith, length-append, add-one, eqb-true, eq-eqb}
use Rattle.std.specs.Prelude.{Option, None, Some, if◌then◌else◌, nat_lt, count_by}
use Rattle.std.specs.List.{list_any}
use Rattle.std.specs.Str.{bytes_eq}
use Rattle.std.proofs.lemmas.Bool.{and_parts}
use Rattle.hs_ast.specs.declared.session.Isolation.{Isolation}
use Rattle.hs_entries.specs.declared.item.Item.{Item}
use Rattle.hs_entries.specs.declared.item.Item.TheVariants as item
use Rattle.hs_schema.specs.Catalogue.{Text}
use Rattle.hs_sessions.specs.Book.{number_from}
use Rattle.hs_turns.specs.Database.{Database}
use Rattle.hs_turns.specs.Each.{Each}
use Rattle.hs_turns.proofs.Lists.{each_map, each_both, each_append}
use Rattle.hs_turns.specs.Dialect.{Dialect}
use Rattle.hs_turns.specs.Waiting.{Entry, Waits, answered, is_among, is_waiting, leads, ascending}
use Rattle.hs_turns.specs.Laws.{is_entry, is_item, owed}
use Rattle.hs_turns.specs.Machine.{Machine, start, is_open, with_session}
use Rattle.hs_turns.specs.Attempts.{Attempt, attempt, left_own, present}
use Rattle.hs_turns.specs.Turns.{Turned, begun_by, retried_by, ready_among, whole_text, is_closed, closes_next, with_closed, begins, retries, admits, of_session, reads, closes, closing, from_input, from_queue, after_pass, in_pass, turn, after}
use Rattle.hs_turns.proofs.Follows.{Follows, stays as still, attempts, leaves}
use Rattle.hs_turns.proofs.Opened.{found_is, none_of}
use Rattle.hs_turns.proofs.Counting.{found_passes, or_cases, or_second}
use Rattle.hs_turns.proofs.Ranks.{rising}
use Rattle.hs_turns.proofs.Sane.{opens, Here, Sane, Held, Next, Goes, none_passes, attempt_goes, left_next}

-- A machine in good order: who waits for whom is; entries are of sessions that aren't closed; where nothing ended
-- since, each waiter that was attempted waits for somebody; and sessions are closed behind the input alone.
pub record Good (m : Machine) : Type 0 where
  pub sane : Sane m
  pub queued : Each (λ e. Here m e.session) m.queue
  pub seen : Each (λ e. Here m e.session) m.seen
  pub pass : Each (λ e. Here m e.session) m.pass
  pub holds : m.again ≡ false → Each (λ w. Held m.waits w.session) m.seen
  pub early : (m.closed ≡ []) ⊎ (m.unread ≡ [])

abbrev AllHere : Machine → List Entry → Type 0
AllHere m es = Each (λ e. Here m e.session) es

moved_here : (m n : Machine) (s : ℕ) → n.names ≡ m.names → n.closed ≡ m.closed → Here m s → Here n s
moved_here m n s names closed h = record {
  known = ap (λ (l : List Text). is_among s (ascending 1 (length l))) names ∙ h.known;
  unclosed = ap (λ (l : List ℕ). list_any (λ c. c == s) l) closed ∙ h.unclosed;
}

all_moved : (m n : Machine) → n.names ≡ m.names → n.closed ≡ m.closed → (xs ys : List Entry) → ys ≡ xs → AllHere m xs → AllHere n ys
all_moved m n names closed xs ys same h = subst (AllHere n) (sym same) (each_map (λ e. Here m e.session) (λ e. Here n e.session) (λ e k. moved_here m n e.session names closed k) xs h)

-- the places of entries, the input and the flag are no part of it
placed : (m : Machine) (seen pass queue : List Entry) (again : Bool) (unread : List Item) → Sane m → Sane (record m { seen = seen; pass = pass; queue = queue; again = again; unread = unread })
placed m seen pass queue again unread s =
    let n = record m { seen = seen; pass = pass; queue = queue; again = again; unread = unread } in
    record { open_waits = s.open_waits; from = s.from; here = λ b h. moved_here m n b refl refl (s.here b h); ranked = s.ranked }

answered_sane : (who : ℕ) (m : Machine) → Sane m → Sane (record m { waits = answered who m.waits; again = true })
answered_sane who m s =
    let n = record m { waits = answered who m.waits; again = true } in
    record {
      open_waits = λ a b h. s.open_waits a b (and_parts (not (a == who)) (m.waits a b) h).1;
      from = λ a b h. s.from a b (and_parts (not (a == who)) (m.waits a b) h).1;
      here = λ b h. moved_here m n b refl refl (s.here b h);
      ranked = record {
        rank = s.ranked.rank;
        rises = λ a b h. s.ranked.rises a b (and_parts (not (a == who)) (m.waits a b) h).1;
        below = λ a b h. s.ranked.below a b (and_parts (not (a == who)) (m.waits a b) h).1;
      };
    }

early_moved : (m n : Machine) → n.closed ≡ m.closed → n.unread ≡ m.unread → ((m.closed ≡ []) ⊎ (m.unread ≡ [])) → ((n.closed ≡ []) ⊎ (n.unread ≡ []))
early_moved m n c u (inl e) = inl (c ∙ e)
early_moved m n c u (inr e) = inr (u ∙ e)

module _ (d : Dialect) (opening : Database) (made : ℕ) where
  -- ---- attempts

  begun_good : (b : Bool) (entry : Entry) (a : Attempt) (m : Machine) → Good m → Here m entry.session → a.final ≡ b → Follows d opening m a.next → Goes m entry.session a → Good (begun_by b entry a).next
  begun_good true entry a m g here is f go = record {
    sane = go.next.sane;
    queued = all_moved m a.next f.names f.closed m.queue a.next.queue f.queue g.queued;
    seen = all_moved m a.next f.names f.closed m.seen a.next.seen f.seen g.seen;
    pass = all_moved m a.next f.names f.closed m.pass a.next.pass f.pass g.pass;
    holds = λ e. subst (Each (λ w. Held a.next.waits w.session)) (sym f.seen) (each_map (λ w. Held m.waits w.session) (λ w. Held a.next.waits w.session) (λ w h. go.next.kept e w.session h) m.seen (g.holds (go.next.again e)));
    early = early_moved m a.next f.closed f.unread g.early;
  }
  begun_good false entry a m g here is f go =
      let n = record a.next { seen = a.next.seen ++ entry ∷ [] } in
      let seen = all_moved m a.next f.names f.closed m.seen a.next.seen f.seen g.seen in
      let mine : Here n entry.session = moved_here m n entry.session f.names f.closed here in
      record {
        sane = placed a.next (a.next.seen ++ entry ∷ []) a.next.pass a.next.queue a.next.again a.next.unread go.next.sane;
        queued = all_moved m n f.names f.closed m.queue a.next.queue f.queue g.queued;
        seen = each_append (λ e. Here n e.session) a.next.seen (entry ∷ []) (all_moved m n f.names f.closed m.seen a.next.seen f.seen g.seen) (mine, tt);
        pass = all_moved m n f.names f.closed m.pass a.next.pass f.pass g.pass;
        holds = λ e. each_append (λ w. Held a.next.waits w.session) a.next.seen (entry ∷ [])
            (subst (Each (λ w. Held a.next.waits w.session)) (sym f.seen) (each_map (λ w. Held m.waits w.session) (λ w. Held a.next.waits w.session) (λ w h. go.next.kept e w.session h) m.seen (g.holds (go.next.again e))))
            (go.holds is, tt);
        early = early_moved m n f.closed f.unread g.early;
      }

  begins_good : (entry : Entry) (m : Machine) → Good m → Here m entry.session → Good (begins d opening made entry m).next
  begins_good entry m g here = let a = attempt d opening made true entry m in begun_good a.final entry a m g here refl (attempts d opening made true entry m) (attempt_goes d opening made true entry m g.sane here)

  retried_good : (b : Bool) (w : Entry) (a : Attempt) (m : Machine) → Good m → Here m w.session → a.final ≡ b → Follows d opening m a.next → Goes m w.session a → Good (retried_by b w a).next
  retried_good true w a m g here is f go =
      let n = record a.next { waits = answered w.session a.next.waits; again = true } in
      record {
        sane = answered_sane w.session a.next go.next.sane;
        queued = all_moved m n f.names f.closed m.queue a.next.queue f.queue g.queued;
        seen = all_moved m n f.names f.closed m.seen a.next.seen f.seen g.seen;
        pass = all_moved m n f.names f.closed m.pass a.next.pass f.pass g.pass;
        holds = λ e. absurd cc;
        early = early_moved m n f.closed f.unread g.early;
      }
  retried_good false w a m g here is f go = begun_good false w a m g here is f go

  -- ---- turns

  retries_good : (w : Entry) (m : Machine) → Good m → Here m w.session → Good (retries d opening made w m).next
  retries_good w m g here = let a = attempt d opening made false w m in retried_good a.final w a m g here refl (attempts d opening made false w m) (attempt_goes d opening made false w m g.sane here)

  admits_good : (b : Bool) (entry : Entry) (m : Machine) → Good m → Here m entry.session → Good (admits d opening made b entry m).next
  admits_good true entry m g here =
      let n = record m { queue = m.queue ++ entry ∷ [] } in
      record {
        sane = placed m m.seen m.pass (m.queue ++ entry ∷ []) m.again m.unread g.sane;
        queued = each_append (λ e. Here n e.session) m.queue (entry ∷ []) (all_moved m n refl refl m.queue m.queue refl g.queued) (moved_here m n entry.session refl refl here, tt);
        seen = all_moved m n refl refl m.seen m.seen refl g.seen;
        pass = all_moved m n refl refl m.pass m.pass refl g.pass;
        holds = g.holds;
        early = g.early;
      }
  admits_good false entry m g here = begins_good entry m g here

  either_good : (b : Bool) (x y : Turned) → Good x.next → Good y.next → Good (if b then x else y).next
  either_good true x y p q = p
  either_good false x y p q = q

  -- ---- a new session

  among_more : (s first n : ℕ) → is_among s (ascending first n) ≡ true → is_among s (ascending first (suc n)) ≡ true
  among_more s first zero h = absurd cc
  among_more s first (suc n) h = more_by (first == s) (is_among s (ascending (first + 1) n)) (is_among s (ascending (first + 1) (suc n))) h (among_more s (first + 1) n) where
    more_by : (t r u : Bool) → (t || r) ≡ true → (r ≡ true → u ≡ true) → (t || u) ≡ true
    more_by true r u h k = refl
    more_by false r u h k = k h

  among_last : (first n : ℕ) → is_among (first + n) (ascending first (suc n)) ≡ true
  among_last first zero = last_by (first == first + 0) refl where
    last_by : (t : Bool) → (first == first + 0) ≡ t → ((first == first + 0) || false) ≡ true
    last_by true e = ap (λ (c : Bool). c || false) e
    last_by false e = absurd (differ (eq-eqb first (first + 0) (omega arith)))
      where
        differ : (first == first + 0) ≡ true → ⊥
        differ f = absurd cc
  among_last first (suc n) = or_second (first == first + suc n) (is_among (first + suc n) (ascending (first + 1) (suc n))) (subst (λ (x : ℕ). is_among x (ascending (first + 1) (suc n)) ≡ true) (omega arith) (among_last (first + 1) n))

  session_here : (name : Text) (level : Isolation) (m : Machine) (s : ℕ) → Here m s → Here (with_session name level m) s
  session_here name level m s h = record {
    known = subst (λ (k : ℕ). is_among s (ascending 1 k) ≡ true) (sym (length-append m.names (name ∷ []) ∙ add-one (length m.names))) (among_more s 1 (length m.names) h.known);
    unclosed = h.unclosed;
  }

  session_good : (name : Text) (level : Isolation) (m : Machine) → Good m → Good (with_session name level m)
  session_good name level m g =
      let n = with_session name level m in
      let more : (es : List Entry) → AllHere m es → AllHere n es = λ es h. each_map (λ e. Here m e.session) (λ e. Here n e.session) (λ e k. session_here name level m e.session k) es h in
      record {
        sane = record {
          open_waits = g.sane.open_waits;
          from = λ a b h. subst (λ (k : ℕ). is_among a (ascending 1 k) ≡ true) (sym (length-append m.names (name ∷ []) ∙ add-one (length m.names))) (among_more a 1 (length m.names) (g.sane.from a b h));
          here = λ b h. session_here name level m b (g.sane.here b h);
          ranked = record { rank = g.sane.ranked.rank; rises = g.sane.ranked.rises; below = λ a b h. omega (arith, g.sane.ranked.below a b h, length-append m.names (name ∷ [])) };
        };
        queued = more m.queue g.queued;
        seen = more m.seen g.seen;
        pass = more m.pass g.pass;
        holds = g.holds;
        early = g.early;
      }

  new_here : (name : Text) (level : Isolation) (m : Machine) → m.closed ≡ [] → Here (with_session name level m) (length m.names + 1)
  new_here name level m none = record {
    known = subst (λ (k : ℕ). is_among (length m.names + 1) (ascending 1 k) ≡ true) (sym (length-append m.names (name ∷ []) ∙ add-one (length m.names)))
        (subst (λ (x : ℕ). is_among x (ascending 1 (suc (length m.names))) ≡ true) (omega arith) (among_last 1 (length m.names)));
    unclosed = ap (λ (l : List ℕ). list_any (λ c. c == length m.names + 1) l) none;
  }

  -- ---- the input

  numbered_by : (t : Bool) (first s n : ℕ) (r : Option ℕ) → (if t then Some first else r) ≡ Some s → (r ≡ Some s → is_among s (ascending (first + 1) n) ≡ true) → is_among s (ascending first (suc n)) ≡ true
  numbered_by true first s n r h rest = ap (λ (c : Bool). c || is_among s (ascending (first + 1) n)) (eq-eqb first s (same_number first s h)) where
    same_number : (a b : ℕ) → Some a ≡ Some b → a ≡ b
    same_number a b e = cc
  numbered_by false first s n r h rest = or_second (first == s) (is_among s (ascending (first + 1) n)) (rest h)

  numbered : (first s : ℕ) (name : Text) (names : List Text) → number_from first name names ≡ Some s → is_among s (ascending first (length names)) ≡ true
  numbered first s name [] h = absurd cc
  numbered first s name (x ∷ xs) h = numbered_by (bytes_eq name x) first s (length xs) (number_from (first + 1) name xs) h (numbered (first + 1) s name xs)

  session_reads : (found : Option ℕ) (number : ℕ) (name statement : Text) (m : Machine) → Good m → m.closed ≡ [] → number_from 1 name m.names ≡ found → Good (of_session d opening made found number name statement m).next
  session_reads (Some s) number name statement m g none is =
      admits_good (is_waiting s m.seen) (record { number = number; session = s; text = whole_text name statement }) m g
      (record { known = numbered 1 s name m.names is; unclosed = ap (λ (l : List ℕ). list_any (λ c. c == s) l) none })
  session_reads None number name statement m g none is =
      let level = (present d opening made m).level in
      either_good (nat_lt (length m.names) 64) _ _
      (begins_good (record { number = number; session = length m.names + 1; text = whole_text name statement }) (with_session name level m) (session_good name level m g) (new_here name level m none)) g

  reads_good : (i : Item) (m : Machine) → Good m → m.closed ≡ [] → Good (reads d opening made i m).next
  reads_good (item.Entry number name statement at) m g none = session_reads (number_from 1 name m.names) number name statement m g none refl
  reads_good (item.Bad number) m g none = g
  reads_good (item.TooLong number) m g none = g
  reads_good item.End m g none = g

  -- ---- closing

  differ_by : (seen : List Entry) (s x : ℕ) (t : Bool) → (s == x) ≡ t → is_waiting x seen ≡ true → is_waiting s seen ≡ false → (s == x) ≡ false
  differ_by seen s x false is h k = is
  differ_by seen s x true is h k = let e : is_waiting s seen ≡ true = ap (λ (y : ℕ). is_waiting y seen) (eqb-true s x is) ∙ h in absurd cc

  closed_here : (n : Machine) (s x : ℕ) → (s == x) ≡ false → Here n x → Here (with_closed s n) x
  closed_here n s x other h = record { known = h.known; unclosed = ap (λ (c : Bool). c || is_closed n x) other ∙ h.unclosed }

  abbrev AllWait : List Entry → List Entry → Type 0
  AllWait seen es = Each (λ e. is_waiting e.session seen ≡ true) es

  wait_behind : (seen : List Entry) (w : Entry) (x : ℕ) → is_waiting x seen ≡ true → is_waiting x (w ∷ seen) ≡ true
  wait_behind seen w x h = or_second (w.session == x) (is_waiting x seen) h

  seen_wait : (seen : List Entry) → AllWait seen seen
  seen_wait [] = tt
  seen_wait (w ∷ ws) = (ap (λ (c : Bool). c || is_waiting w.session ws) (eq-eqb w.session w.session refl), each_map (λ e. is_waiting e.session ws ≡ true) (λ e. is_waiting e.session (w ∷ ws) ≡ true) (λ e h. wait_behind ws w e.session h) ws (seen_wait ws))

  queue_by : (seen : List Entry) (q : Entry) (queue : List Entry) (t : Bool) (r : Option (Entry × List Entry)) → is_waiting q.session seen ≡ t
      → (if t then elim r as (λ _. Option (Entry × List Entry)) [ None ↦ None | Some found ↦ Some (found.0, q ∷ found.1) ] else Some (q, queue)) ≡ None → (r ≡ None → AllWait seen queue) → AllWait seen (q ∷ queue)
  queue_by seen q queue true None is h rest = (is, rest refl)
  queue_by seen q queue true (Some found) is h rest = absurd cc
  queue_by seen q queue false r is h rest = absurd cc

  queue_wait : (seen queue : List Entry) → ready_among seen queue ≡ None → AllWait seen queue
  queue_wait seen [] h = tt
  queue_wait seen (q ∷ queue) h = queue_by seen q queue (is_waiting q.session seen) (ready_among seen queue) refl h (queue_wait seen queue)

  waits_not : (w c : Bool) → not (w || c) ≡ true → w ≡ false
  waits_not false c h = refl
  waits_not true c h = absurd cc

  closed_not : (w c : Bool) → not (w || c) ≡ true → c ≡ false
  closed_not false false h = refl
  closed_not false true h = absurd cc
  closed_not true c h = absurd cc

  -- a session that neither waits nor is closed
  idle : (m : Machine) (s : ℕ) → closes_next m ≡ Some s → (is_waiting s m.seen ≡ false) × Here m s
  idle m s is =
      let f = found_passes (λ x. not (is_waiting x m.seen || is_closed m x)) s (ascending 1 (length m.names)) is in
      (waits_not (is_waiting s m.seen) (is_closed m s) f.0, record { known = f.1; unclosed = closed_not (is_waiting s m.seen) (is_closed m s) f.0 })

  closed_good : (m n : Machine) (s : ℕ) → Good m → m.unread ≡ [] → m.pass ≡ [] → ready_among m.seen m.queue ≡ None → is_waiting s m.seen ≡ false → Follows d opening m n → Next m n → opens n s ≡ false → Good (with_closed s n)
  closed_good m n s g unread pass ready idle_ f next shut =
      let k = with_closed s n in
      let close : (es : List Entry) → AllWait m.seen es → AllHere n es → AllHere k es = λ es w h. each_both (λ e. is_waiting e.session m.seen ≡ true) (λ e. Here n e.session) (λ e. Here k e.session)
      (λ e a b. closed_here n s e.session (differ_by m.seen s e.session (s == e.session) refl a idle_) b) es w h in
      record {
        sane = record {
          open_waits = next.sane.open_waits;
          from = next.sane.from;
          here = λ b h. closed_here n s b (shut_by n s b (s == b) refl shut h) (next.sane.here b h);
          ranked = next.sane.ranked;
        };
        queued = close n.queue (subst (AllWait m.seen) (sym f.queue) (queue_wait m.seen m.queue ready)) (all_moved m n f.names f.closed m.queue n.queue f.queue g.queued);
        seen = close n.seen (subst (AllWait m.seen) (sym f.seen) (seen_wait m.seen)) (all_moved m n f.names f.closed m.seen n.seen f.seen g.seen);
        pass = subst (AllHere k) (sym (f.pass ∙ pass)) tt;
        holds = λ e. subst (Each (λ w. Held n.waits w.session)) (sym f.seen) (each_map (λ w. Held m.waits w.session) (λ w. Held n.waits w.session) (λ w h. next.kept e w.session h) m.seen (g.holds (next.again e)));
        early = inr (f.unread ∙ unread);
      }
    where
      shut_by : (n : Machine) (s b : ℕ) (t : Bool) → (s == b) ≡ t → opens n s ≡ false → opens n b ≡ true → (s == b) ≡ false
      shut_by n s b false is shut h = is
      shut_by n s b true is shut h = let e : opens n b ≡ false = ap (opens n) (sym (eqb-true s b is)) ∙ shut in absurd cc

  closes_good : (b : Bool) (s : ℕ) (m : Machine) → is_open m s ≡ b → Good m → m.unread ≡ [] → m.pass ≡ [] → ready_among m.seen m.queue ≡ None → (is_waiting s m.seen ≡ false) × Here m s → Good (closes d opening made b s m).next
  closes_good true s m is g unread pass ready i = closed_good m (left_own d opening made s m) s g unread pass ready i.0 (leaves d opening made s m) (left_next d opening made s m g.sane i.1) (none_of s m.history.open_)
  closes_good false s m is g unread pass ready i =
      closed_good m m s g unread pass ready i.0 (still d opening made m) (record { sane = g.sane; again = λ e. e; kept = λ e x h. h }) (sym (found_is s m.history.open_) ∙ is)

  -- ---- the order of turns

  abbrev GO : Option Turned → Type 0
  GO None = Unit {0}
  GO (Some t) = Good t.next

  closing_good : (found : Option ℕ) (m : Machine) → closes_next m ≡ found → Good m → m.unread ≡ [] → m.pass ≡ [] → ready_among m.seen m.queue ≡ None → GO (closing d opening made found m)
  closing_good None m is g unread pass ready = tt
  closing_good (Some s) m is g unread pass ready = closes_good (is_open m s) s m refl g unread pass ready (idle m s is)

  early_closed : (i : Item) (items : List Item) (m : Machine) → m.unread ≡ i ∷ items → ((m.closed ≡ []) ⊎ (m.unread ≡ [])) → m.closed ≡ []
  early_closed i items m is (inl e) = e
  early_closed i items m is (inr e) = absurd cc

  input_good : (items : List Item) (m : Machine) → m.unread ≡ items → Good m → m.pass ≡ [] → ready_among m.seen m.queue ≡ None → GO (from_input d opening made items m)
  input_good (i ∷ items) m is g pass ready =
      let n = record m { unread = items } in
      let none = early_closed i items m is g.early in
      reads_good i n (record {
        sane = placed m m.seen m.pass m.queue m.again items g.sane;
        queued = all_moved m n refl refl m.queue m.queue refl g.queued;
        seen = all_moved m n refl refl m.seen m.seen refl g.seen;
        pass = all_moved m n refl refl m.pass m.pass refl g.pass;
        holds = g.holds;
        early = inl none;
      }) none
  input_good [] m is g pass ready = closing_good (closes_next m) m refl g is pass ready

  same_pair : (a b : Entry × List Entry) → Some a ≡ Some b → a ≡ b
  same_pair a b e = cc

  taken_by : (m : Machine) (seen : List Entry) (q : Entry) (queue : List Entry) (t : Bool) (r : Option (Entry × List Entry)) (found : Entry × List Entry)
      → (if t then elim r as (λ _. Option (Entry × List Entry)) [ None ↦ None | Some f ↦ Some (f.0, q ∷ f.1) ] else Some (q, queue)) ≡ Some found → Here m q.session → AllHere m queue → ((f : Entry × List Entry) → r ≡ Some f → Here m f.0.session × AllHere m f.1)
      → Here m found.0.session × AllHere m found.1
  taken_by m seen q queue true None found h here all rest = absurd cc
  taken_by m seen q queue true (Some f) found h here all rest = let k = rest f refl in subst (λ (x : Entry × List Entry). Here m x.0.session × AllHere m x.1) (same_pair (f.0, q ∷ f.1) found h) (k.0, (here, k.1))
  taken_by m seen q queue false r found h here all rest = subst (λ (x : Entry × List Entry). Here m x.0.session × AllHere m x.1) (same_pair (q, queue) found h) (here, all)

  taken_here : (m : Machine) (seen queue : List Entry) (found : Entry × List Entry) → ready_among seen queue ≡ Some found → AllHere m queue → Here m found.0.session × AllHere m found.1
  taken_here m seen [] found h all = absurd cc
  taken_here m seen (q ∷ queue) found h all = taken_by m seen q queue (is_waiting q.session seen) (ready_among seen queue) found h all.0 all.1 (λ f e. taken_here m seen queue f e all.1)

  queue_good : (found : Option (Entry × List Entry)) (m : Machine) → ready_among m.seen m.queue ≡ found → Good m → m.pass ≡ [] → GO (from_queue d opening made found m)
  queue_good (Some found) m is g pass =
      let n = record m { queue = found.1 } in
      let t = taken_here m m.seen m.queue found is g.queued in
      begins_good found.0 n (record {
        sane = placed m m.seen m.pass found.1 m.again m.unread g.sane;
        queued = all_moved m n refl refl found.1 found.1 refl t.1;
        seen = all_moved m n refl refl m.seen m.seen refl g.seen;
        pass = all_moved m n refl refl m.pass m.pass refl g.pass;
        holds = g.holds;
        early = g.early;
      }) (moved_here m n found.0.session refl refl t.0)
  queue_good None m is g pass = input_good m.unread m refl g pass is

  pass_good : (again : Bool) (m : Machine) → m.again ≡ again → Good m → m.pass ≡ [] → GO (after_pass d opening made again m)
  pass_good true m is g pass =
      let n = record m { seen = []; pass = m.seen; again = false } in
      record {
        sane = placed m [] m.seen m.queue false m.unread g.sane;
        queued = all_moved m n refl refl m.queue m.queue refl g.queued;
        seen = tt;
        pass = all_moved m n refl refl m.seen m.seen refl g.seen;
        holds = λ e. tt;
        early = g.early;
      }
  pass_good false m is g pass = queue_good (ready_among m.seen m.queue) m refl g pass

  in_pass_good : (ws : List Entry) (m : Machine) → m.pass ≡ ws → Good m → GO (in_pass d opening made ws m)
  in_pass_good (w ∷ ws) m is g =
      let n = record m { pass = ws } in
      let all = subst (AllHere m) is g.pass in
      retries_good w n (record {
        sane = placed m m.seen ws m.queue m.again m.unread g.sane;
        queued = all_moved m n refl refl m.queue m.queue refl g.queued;
        seen = all_moved m n refl refl m.seen m.seen refl g.seen;
        pass = all_moved m n refl refl ws ws refl all.1;
        holds = g.holds;
        early = g.early;
      }) (moved_here m n w.session refl refl all.0)
  in_pass_good [] m is g = pass_good m.again m refl g is

  turn_good : (m : Machine) → Good m → GO (turn d opening made m)
  turn_good m g = in_pass_good m.pass m refl g

  -- ---- runs

  next_good : (n : ℕ) (t : Option Turned) (m : Machine) → ((k : Machine) → Good k → Good (after d opening made n k)) → Good m → GO t → Good (elim t [ None ↦ m | Some u ↦ after d opening made n u.next ])
  next_good n None m goes g o = g
  next_good n (Some t) m goes g o = goes t.next o

  after_good : (n : ℕ) (m : Machine) → Good m → Good (after d opening made n m)
  unfolding after
  after_good zero m g = g
  after_good (suc n) m g = next_good n (turn d opening made m) m (after_good n) g (turn_good m g)

  start_good : (items : List Item) → Good (start opening items)
  start_good items = record {
    sane = record { open_waits = λ a b h. absurd cc; from = λ a b h. absurd cc; here = λ b h. absurd cc; ranked = record { rank = λ _. 0; rises = λ a b h. absurd cc; below = λ a b h. absurd cc } };
    queued = tt;
    seen = tt;
    pass = tt;
    holds = λ e. tt;
    early = inl refl;
  }

  pub run_good : (items : List Item) (n : ℕ) → Good (after d opening made n (start opening items))
  run_good items n = after_good n (start opening items) (start_good items)

  -- ---- the end

  record Over (m : Machine) : Type 0 where
    pass : m.pass ≡ []
    again : m.again ≡ false
    ready : ready_among m.seen m.queue ≡ None
    unread : m.unread ≡ []
    closes : closes_next m ≡ None

  over_closing : (found : Option ℕ) (m : Machine) → closes_next m ≡ found → closing d opening made found m ≡ None → closes_next m ≡ None
  over_closing None m is h = is
  over_closing (Some s) m is h = absurd cc

  over_input : (items : List Item) (m : Machine) → m.unread ≡ items → from_input d opening made items m ≡ None → (m.unread ≡ []) × (closes_next m ≡ None)
  over_input [] m is h = (is, over_closing (closes_next m) m refl h)
  over_input (i ∷ items) m is h = absurd cc

  over_queue : (found : Option (Entry × List Entry)) (m : Machine) → ready_among m.seen m.queue ≡ found → from_queue d opening made found m ≡ None → (ready_among m.seen m.queue ≡ None) × ((m.unread ≡ []) × (closes_next m ≡ None))
  over_queue None m is h = (is, over_input m.unread m refl h)
  over_queue (Some found) m is h = absurd cc

  over_pass : (again : Bool) (m : Machine) → m.again ≡ again → m.pass ≡ [] → after_pass d opening made again m ≡ None → Over m
  over_pass true m is none h = absurd cc
  over_pass false m is none h = let f = over_queue (ready_among m.seen m.queue) m refl h in record { pass = none; again = is; ready = f.0; unread = f.1.0; closes = f.1.1 }

  over_in_pass : (ws : List Entry) (m : Machine) → m.pass ≡ ws → in_pass d opening made ws m ≡ None → Over m
  over_in_pass [] m is h = over_pass m.again m refl is h
  over_in_pass (w ∷ ws) m is h = absurd cc

  over_is : (m : Machine) → turn d opening made m ≡ None → Over m
  over_is m h = over_in_pass m.pass m refl h

  held_by : (w : Waits) (x : ℕ) (e : Entry) (es : List Entry) → ((e.session == x) ≡ true) ⊎ (is_waiting x es ≡ true) → Held w e.session → (is_waiting x es ≡ true → Held w x) → Held w x
  held_by w x e es (inl is) h rest = subst (Held w) (eqb-true e.session x is) h
  held_by w x e es (inr k) h rest = rest k

  waiter_held : (w : Waits) (x : ℕ) (es : List Entry) → Each (λ e. Held w e.session) es → is_waiting x es ≡ true → Held w x
  waiter_held w x [] h k = absurd cc
  waiter_held w x (e ∷ es) h k = held_by w x e es (or_cases (e.session == x) (is_waiting x es) k) h.0 (waiter_held w x es h.1)

  waits_or_closed : (w c : Bool) → not (w || c) ≡ false → c ≡ false → w ≡ true
  waits_or_closed true c h k = refl
  waits_or_closed false false h k = absurd cc
  waits_or_closed false true h k = absurd cc

  -- whom a waiter waits for waits too
  next_waits : (m : Machine) → Good m → Over m → (x : ℕ) → is_waiting x m.seen ≡ true → (b : ℕ) × ((m.waits x b ≡ true) × (is_waiting b m.seen ≡ true))
  next_waits m g o x h =
      let held = waiter_held m.waits x m.seen (g.holds o.again) h in
      let here = g.sane.here held.0 (g.sane.open_waits x held.0 held.1) in (
        held.0,
        (
          held.1,
          waits_or_closed (is_waiting held.0 m.seen) (is_closed m held.0)
              (none_passes (λ s. not (is_waiting s m.seen || is_closed m s)) held.0 (ascending 1 (length m.names)) o.closes here.known) here.unclosed,
        ),
      )

  abbrev rank_of : (m : Machine) → Good m → ℕ → ℕ
  rank_of m g x = g.sane.ranked.rank x

  -- so waits would lead further than there are sessions
  nobody_waits : (m : Machine) (g : Good m) → Over m → (k x : ℕ) → length m.names ≤ rank_of m g x + k → is_waiting x m.seen ≡ true → ⊥
  nobody_waits m g o zero x far h = let f = next_waits m g o x h in omega (arith, far, g.sane.ranked.rises x f.0 f.1.0, g.sane.ranked.below x f.0 f.1.0)
  nobody_waits m g o (suc k) x far h = let f = next_waits m g o x h in nobody_waits m g o k f.0 (omega (arith, far, g.sane.ranked.rises x f.0 f.1.0)) f.1.1

  none_seen : (seen : List Entry) → ((x : ℕ) → is_waiting x seen ≡ true → ⊥) → seen ≡ []
  none_seen [] h = refl
  none_seen (w ∷ ws) h = absurd (h w.session (ap (λ (c : Bool). c || is_waiting w.session ws) (eq-eqb w.session w.session refl)))

  none_queued : (queue : List Entry) → ready_among [] queue ≡ None → queue ≡ []
  none_queued [] h = refl
  none_queued (q ∷ queue) h = absurd cc

  pub nothing_owed : (m : Machine) → Good m → turn d opening made m ≡ None → (n : ℕ) → owed n m ≡ 0
  nothing_owed m g h n =
      let o = over_is m h in
      let seen : m.seen ≡ [] = none_seen m.seen (λ x w. nobody_waits m g o (length m.names) x (omega arith) w) in
      let queue : m.queue ≡ [] = none_queued m.queue (subst (λ (ws : List Entry). ready_among ws m.queue ≡ None) seen o.ready) in
      omega (arith, ap (count_by (is_item n)) o.unread, ap (count_by (is_entry n)) queue, ap (count_by (is_entry n)) seen, ap (count_by (is_entry n)) o.pass)

  -- ---- nobody waits in a circle

  apart_by : (m : Machine) → Good m → (a b : ℕ) → m.waits a b ≡ true → (t : Bool) → leads (length m.names) m.waits b a ≡ t → leads (length m.names) m.waits b a ≡ false
  apart_by m g a b e false is = is
  apart_by m g a b e true is = absurd (omega (arith, g.sane.ranked.rises a b e, rising (length m.names) (ascending 1 (length m.names)) m.waits g.sane.ranked a (length m.names) b is))

  pub no_circle : (m : Machine) → Good m → (a b : ℕ) → m.waits a b ≡ true → leads (length m.names) m.waits b a ≡ false
  no_circle m g a b e = apart_by m g a b e (leads (length m.names) m.waits b a) refl

  pub waits_for_open : (m : Machine) → Good m → (a b : ℕ) → m.waits a b ≡ true → is_open m b ≡ true
  waits_for_open m g a b e = found_is b m.history.open_ ∙ g.sane.open_waits a b e
