-- The first entry of a queue that is ready, by the entries of each session.
use Rattle.std.proofs.Common.{◌≡◌, ℕ, ◌+◌, ◌<◌, ◌≤◌, ◌==◌, Bool, true, false, cond, List, [], ◌∷◌, ◌++◌, length, map, refl, sym, ap, ◌∙◌, subst, arith}
use Rattle.std.specs.Prelude.{Option, None, Some, filter}
use Rattle.hs_turns.specs.Each.{Each}
use Rattle.hs_turns.specs.Turns.{ready_among}
use Rattle.hs_turns.specs.Waiting.{Entry, is_waiting}
use Rattle.hs_queue.specs.Lanes.{Ascends, Queued, entry_in, is_of, ticket_of}

abbrev Queue : Type 0
Queue = List Queued

-- all numbers are above a number
abbrev pub Above : ℕ → List ℕ → Type 0
Above n ns = Each (λ k. n < k) ns

-- a queue without one of its entries
pub record Without (entry : Queued) (queue rest : Queue) : Type 0 where
  pub one : length queue ≡ length rest + 1
  pub own : filter (is_of entry.entry.session) queue ≡ entry ∷ filter (is_of entry.entry.session) rest
  pub others : (s : ℕ) → (s == entry.entry.session) ≡ false → filter (is_of s) rest ≡ filter (is_of s) queue
  pub above : (n : ℕ) (more : List ℕ) → Above n (map ticket_of queue ++ more) → Above n (map ticket_of rest ++ more)
  pub ascends : (more : List ℕ) → Ascends (map ticket_of queue ++ more) → Ascends (map ticket_of rest ++ more)
  pub positive : Each (λ q. 1 ≤ q.entry.session) queue → Each (λ q. 1 ≤ q.entry.session) rest

-- it is the first that is ready
pub record Taken (waiters : List Entry) (entry : Queued) (queue : Queue) : Type 0 where
  pub rest : Queue
  pub is : ready_among waiters (map entry_in queue) ≡ Some (entry.entry, map entry_in rest)
  pub without : Without entry queue rest

itself : (a : ℕ) → (a == a) ≡ true
itself a = grind arith

same : (a b : ℕ) → (a == b) ≡ true → a ≡ b
same a b e = grind arith

flipped : (a b : ℕ) → (a == b) ≡ false → (b == a) ≡ false
flipped a b e = grind arith

-- what a filter makes of a list with one more in front
kept : (s : ℕ) (q : Queued) (queue : Queue) → is_of s q ≡ true → filter (is_of s) (q ∷ queue) ≡ q ∷ filter (is_of s) queue
kept s q queue e = ap (λ b. cond b (q ∷ filter (is_of s) queue) (filter (is_of s) queue)) e

dropped : (s : ℕ) (q : Queued) (queue : Queue) → is_of s q ≡ false → filter (is_of s) (q ∷ queue) ≡ filter (is_of s) queue
dropped s q queue e = ap (λ b. cond b (q ∷ filter (is_of s) queue) (filter (is_of s) queue)) e

-- the one in front is taken
front : (q : Queued) (queue : Queue) → Without q (q ∷ queue) queue
front q queue = record {
  one = omega arith;
  own = kept q.entry.session q queue (itself q.entry.session);
  others = λ s other. sym (dropped s q queue (flipped s q.entry.session other));
  above = λ n more all. all.1;
  ascends = λ more all. all.1;
  positive = λ all. all.1;
}

-- one behind it is
by_place : (b : Bool) (s : ℕ) (q : Queued) (queue rest : Queue) → is_of s q ≡ b → filter (is_of s) rest ≡ filter (is_of s) queue → filter (is_of s) (q ∷ rest) ≡ filter (is_of s) (q ∷ queue)
by_place true s q queue rest e is = kept s q rest e ∙ ap (λ (l : Queue). q ∷ l) is ∙ sym (kept s q queue e)
by_place false s q queue rest e is = dropped s q rest e ∙ is ∙ sym (dropped s q queue e)

further : (q entry : Queued) (queue rest : Queue) → (q.entry.session == entry.entry.session) ≡ false → Without entry queue rest → Without entry (q ∷ queue) (q ∷ rest)
further q entry queue rest other w = record {
  one = omega (arith, w.one);
  own = dropped entry.entry.session q queue other ∙ w.own ∙ ap (λ (l : Queue). entry ∷ l) (sym (dropped entry.entry.session q rest other));
  others = λ s apart. by_place (is_of s q) s q queue rest refl (w.others s apart);
  above = λ n more all. (all.0, w.above n more all.1);
  ascends = λ more all. (w.above q.ticket more all.0, w.ascends more all.1);
  positive = λ all. (all.0, w.positive all.1);
}

-- no ready entry has a lesser number
abbrev pub Least : List Entry → Queued → Queue → Type 0
Least waiters entry queue = (s : ℕ) (e : Queued) (es : Queue) → is_waiting s waiters ≡ false → filter (is_of s) queue ≡ e ∷ es → entry.ticket ≤ e.ticket

above_by : (b : Bool) (n s : ℕ) (q entry : Queued) (queue es : Queue) → is_of s q ≡ b → n < q.ticket → filter (is_of s) (q ∷ queue) ≡ entry ∷ es → (filter (is_of s) queue ≡ entry ∷ es → n < entry.ticket) → n < entry.ticket
above_by true n s q entry queue es e lt is more = let h : q ∷ filter (is_of s) queue ≡ entry ∷ es = sym (kept s q queue e) ∙ is in let k : q ≡ entry = cc in subst (λ (x : Queued). n < x.ticket) k lt
above_by false n s q entry queue es e lt is more = more (sym (dropped s q queue e) ∙ is)

above_of : (n s : ℕ) (entry : Queued) (queue : Queue) (es : Queue) → Above n (map ticket_of queue) → filter (is_of s) queue ≡ entry ∷ es → n < entry.ticket
above_of n s entry [] es all is = absurd cc
above_of n s entry (q ∷ queue) es all is = above_by (is_of s q) n s q entry queue es refl all.0 is (above_of n s entry queue es all.1)

module _ (waiters : List Entry) where
  ready_at : (b : Bool) (q : Queued) (queue : Queue) → is_waiting q.entry.session waiters ≡ b → ready_among waiters (map entry_in (q ∷ queue)) ≡ cond b (elim (ready_among waiters (map entry_in queue)) [ None ↦ None | Some found ↦ Some (found.0, q.entry ∷ found.1) ]) (Some (q.entry, map entry_in queue))
  ready_at b q queue e = ap (λ b. cond b (elim (ready_among waiters (map entry_in queue)) [ None ↦ None | Some found ↦ Some (found.0, q.entry ∷ found.1) ]) (Some (q.entry, map entry_in queue))) e

  -- the one in front waits
  waits_front : (q entry : Queued) (queue : Queue) → is_waiting q.entry.session waiters ≡ true → (q.entry.session == entry.entry.session) ≡ false → Taken waiters entry queue → Taken waiters entry (q ∷ queue)
  waits_front q entry queue waits other t = record {
    rest = q ∷ t.rest;
    is = ready_at true q queue waits ∙ ap (λ (found : Option (Entry × List Entry)). elim found as (λ _. Option (Entry × List Entry)) [ None ↦ None | Some found ↦ Some (found.0, q.entry ∷ found.1) ]) t.is;
    without = further q entry queue t.rest other t.without;
  }

  -- of a session that doesn't wait the entries with the least number are in front
  apart : (q entry : Queued) → is_waiting q.entry.session waiters ≡ true → is_waiting entry.entry.session waiters ≡ false → (b : Bool) → (q.entry.session == entry.entry.session) ≡ b → (q.entry.session == entry.entry.session) ≡ false
  apart q entry waits ready true e = let k : q.entry.session ≡ entry.entry.session = same q.entry.session entry.entry.session e in absurd (let h : is_waiting entry.entry.session waiters ≡ true = subst (λ (s : ℕ). is_waiting s waiters ≡ true) k waits in cc)
  apart q entry waits ready false e = e

  least_behind : (b : Bool) (s : ℕ) (q entry e : Queued) (queue es : Queue) → is_of s q ≡ b → is_waiting q.entry.session waiters ≡ true → is_waiting s waiters ≡ false → (filter (is_of s) (q ∷ queue) ≡ e ∷ es → entry.ticket ≤ e.ticket) → filter (is_of s) queue ≡ e ∷ es → entry.ticket ≤ e.ticket
  least_behind true s q entry e queue es of waits ready least is = absurd (let k : q.entry.session ≡ s = same q.entry.session s of in let h : is_waiting s waiters ≡ true = subst (λ (t : ℕ). is_waiting t waiters ≡ true) k waits in cc)
  least_behind false s q entry e queue es of waits ready least is = least (dropped s q queue of ∙ is)

  taken_here : (b : Bool) (q entry : Queued) (queue es : Queue) → (q.entry.session == entry.entry.session) ≡ b → is_waiting q.entry.session waiters ≡ false → filter (is_of entry.entry.session) (q ∷ queue) ≡ entry ∷ es → Least waiters entry (q ∷ queue) → Above q.ticket (map ticket_of queue) → Taken waiters entry (q ∷ queue)
  taken_here true q entry queue es e ready is least above =
      let h : q ∷ filter (is_of entry.entry.session) queue ≡ entry ∷ es = sym (kept entry.entry.session q queue e) ∙ is in
      let k : q ≡ entry = cc in
      subst (λ (x : Queued). Taken waiters x (q ∷ queue)) k (record { rest = queue; is = ready_at false q queue ready; without = front q queue })
  taken_here false q entry queue es e ready is least above =
      let lt : q.ticket < entry.ticket = above_of q.ticket entry.entry.session entry queue es above (sym (dropped entry.entry.session q queue e) ∙ is) in
      let le : entry.ticket ≤ q.ticket = least q.entry.session q (filter (is_of q.entry.session) queue) ready (kept q.entry.session q queue (itself q.entry.session)) in
      absurd (omega arith)

  taken_by : (b : Bool) (q entry : Queued) (queue es : Queue) → is_waiting q.entry.session waiters ≡ b → is_waiting entry.entry.session waiters ≡ false → filter (is_of entry.entry.session) (q ∷ queue) ≡ entry ∷ es → Least waiters entry (q ∷ queue) → Above q.ticket (map ticket_of queue)
      → (filter (is_of entry.entry.session) queue ≡ entry ∷ es → Least waiters entry queue → Taken waiters entry queue) → Taken waiters entry (q ∷ queue)
  taken_by true q entry queue es waits ready is least above more =
      let other : (q.entry.session == entry.entry.session) ≡ false = apart q entry waits ready (q.entry.session == entry.entry.session) refl in
      waits_front q entry queue waits other (more (sym (dropped entry.entry.session q queue other) ∙ is) (λ s e es2 r i. least_behind (is_of s q) s q entry e queue es2 refl waits r (λ full. least s e es2 r full) i))
  taken_by false q entry queue es waits ready is least above more = taken_here (q.entry.session == entry.entry.session) q entry queue es refl waits is least above

  pub taken : (entry : Queued) (es queue : Queue) → is_waiting entry.entry.session waiters ≡ false → filter (is_of entry.entry.session) queue ≡ entry ∷ es → Least waiters entry queue → Ascends (map ticket_of queue) → Taken waiters entry queue
  taken entry es [] ready is least ascends = absurd cc
  taken entry es (q ∷ queue) ready is least ascends = taken_by (is_waiting q.entry.session waiters) q entry queue es refl ready is least ascends.0 (λ i l. taken entry es queue ready i l ascends.1)

  -- ---- nothing is ready

  empty_behind : (b : Bool) (s : ℕ) (q : Queued) (queue : Queue) → is_of s q ≡ b → filter (is_of s) (q ∷ queue) ≡ [] → filter (is_of s) queue ≡ []
  empty_behind true s q queue e is = let h : q ∷ filter (is_of s) queue ≡ [] = sym (kept s q queue e) ∙ is in absurd cc
  empty_behind false s q queue e is = sym (dropped s q queue e) ∙ is

  none_by : (b : Bool) (q : Queued) (queue : Queue) → is_waiting q.entry.session waiters ≡ b → ((s : ℕ) → is_waiting s waiters ≡ false → filter (is_of s) (q ∷ queue) ≡ []) → ready_among waiters (map entry_in queue) ≡ None → ready_among waiters (map entry_in (q ∷ queue)) ≡ None
  none_by true q queue waits none more = ready_at true q queue waits ∙ ap (λ (found : Option (Entry × List Entry)). elim found as (λ _. Option (Entry × List Entry)) [ None ↦ None | Some found ↦ Some (found.0, q.entry ∷ found.1) ]) more
  none_by false q queue waits none more = let h : q ∷ filter (is_of q.entry.session) queue ≡ [] = sym (kept q.entry.session q queue (itself q.entry.session)) ∙ none q.entry.session waits in absurd cc

  pub none_ready : (queue : Queue) → ((s : ℕ) → is_waiting s waiters ≡ false → filter (is_of s) queue ≡ []) → ready_among waiters (map entry_in queue) ≡ None
  none_ready [] none = refl
  none_ready (q ∷ queue) none = none_by (is_waiting q.entry.session waiters) q queue refl none (none_ready queue (λ s waits. empty_behind (is_of s q) s q queue refl (none s waits)))
