-- The lists of a queue's entries, one for each session.
use Rattle.std.proofs.Common.{◌≡◌, ℕ, zero, suc, ◌+◌, ◌<◌, ◌≤◌, ◌==◌, ◌⊎◌, inl, inr, Bool, true, false, cond, List, [], ◌∷◌, ◌++◌, length, map, append-nil, refl, sym, ap, ◌∙◌, subst, add-one, arith}
use Rattle.std.specs.Prelude.{None, Some, filter, if◌then◌else◌, slice_set}
use Rattle.std.proofs.lemmas.Bool.{cases_lt}
use Rattle.std.proofs.lemmas.List.Elements.{filter-append}
use Rattle.hs_turns.specs.Each.{Each}
use Rattle.hs_turns.specs.Turns.{ready_among}
use Rattle.hs_turns.specs.Waiting.{Entry, is_waiting}
use Rattle.hs_queue.specs.Lanes.{AreLanes, Ascends, Grows, IsPushed, Queued, backlog, count_in, entry_in, is_of, ticket_of}
use Rattle.hs_queue.specs.Earliest.{IsFirst, IsLeast, first_ticket, ready_ticket}
use Rattle.hs_queue.proofs.Queue.{Taken, Without, taken, none_ready}

-- beyond the lists there is nothing
beyond : (lists : List (List Queued)) (place : ℕ) → length lists ≤ place → backlog lists place ≡ []
beyond [] zero le = refl
beyond [] (suc place) le = refl
beyond (l ∷ ls) zero le = absurd (omega (arith, le))
beyond (l ∷ ls) (suc place) le = beyond ls place (omega (arith, le))

within : (lists : List (List Queued)) (place : ℕ) (e : Queued) (es : List Queued) → backlog lists place ≡ e ∷ es → place < length lists
within [] zero e es is = absurd cc
within [] (suc place) e es is = absurd cc
within (l ∷ ls) zero e es is = omega arith
within (l ∷ ls) (suc place) e es is = omega (arith, within ls place e es is)

pub put_same : (lists : List (List Queued)) (place : ℕ) (new : List Queued) → place < length lists → backlog (slice_set lists place new) place ≡ new
put_same [] place new lt = absurd (omega (arith, lt))
put_same (l ∷ ls) zero new lt = refl
put_same (l ∷ ls) (suc place) new lt = put_same ls place new (omega (arith, lt))

pub put_other : (lists : List (List Queued)) (place k : ℕ) (new : List Queued) → (k == place) ≡ false → backlog (slice_set lists place new) k ≡ backlog lists k
put_other [] zero k new other = refl
put_other [] (suc place) k new other = refl
put_other (l ∷ ls) zero zero new other = absurd cc
put_other (l ∷ ls) zero (suc k) new other = refl
put_other (l ∷ ls) (suc place) zero new other = refl
put_other (l ∷ ls) (suc place) (suc k) new other = put_other ls place k new (grind (arith, other))

-- one more list, which is empty, changes nothing
pub padded : (lists : List (List Queued)) (place : ℕ) → backlog (lists ++ [] ∷ []) place ≡ backlog lists place
padded [] zero = refl
padded [] (suc place) = refl
padded (l ∷ ls) zero = refl
padded (l ∷ ls) (suc place) = padded ls place

-- how many there are where a list is exchanged
pub counted : (lists : List (List Queued)) (at : ℕ) (new : List Queued) → at < length lists → count_in (slice_set lists at new) + length (backlog lists at) ≡ count_in lists + length new
counted [] at new lt = absurd (omega (arith, lt))
counted (l ∷ ls) zero new lt = omega arith
counted (l ∷ ls) (suc at) new lt = let h : count_in (slice_set ls at new) + length (backlog ls at) ≡ count_in ls + length new = counted ls at new (omega (arith, lt)) in omega (arith, h)

pub padded_count : (lists : List (List Queued)) → count_in (lists ++ [] ∷ []) ≡ count_in lists
padded_count [] = refl
padded_count (l ∷ ls) = ap (λ (n : ℕ). length l + n) (padded_count ls)

-- the first that is ready is taken, and leaves these lists of the others
pub record Leaves (waiters : List Entry) (queue : List Queued) (entry : Queued) (left : List (List Queued)) : Type 0 where
  pub rest : List Queued
  pub is : ready_among waiters (map entry_in queue) ≡ Some (entry.entry, map entry_in rest)
  pub kept : AreLanes left rest
  pub ascends : (more : List ℕ) → Ascends (map ticket_of queue ++ more) → Ascends (map ticket_of rest ++ more)

-- sessions are numbered from 1
none_zero : (queue : List Queued) → Each (λ q. 1 ≤ q.entry.session) queue → filter (is_of 0) queue ≡ []
none_zero [] all = refl
none_zero (q ∷ queue) all = let h : 1 ≤ q.entry.session = all.0 in let e : (q.entry.session == 0) ≡ false = grind arith in ap (λ b. cond b (q ∷ filter (is_of 0) queue) (filter (is_of 0) queue)) e ∙ none_zero queue all.1

-- where nothing is found, nothing is ready
number_is : (waiters : List Entry) (lists : List (List Queued)) (k : ℕ) → is_waiting (k + 1) waiters ≡ false → ready_ticket waiters lists k ≡ first_ticket (backlog lists k)
number_is waiters lists k ready = ap (λ b. cond b None (first_ticket (backlog lists k))) ready

no_number : (l : List Queued) → first_ticket l ≡ None → l ≡ []
no_number [] e = refl
no_number (x ∷ xs) e = absurd cc

some_number : (l : List Queued) (e : Queued) (es : List Queued) → l ≡ e ∷ es → first_ticket l ≡ Some e.ticket
some_number l e es is = ap first_ticket is

some_is : (a b : ℕ) → Some a ≡ Some b → a ≡ b
some_is a b e = cc

module _ (waiters : List Entry) (queue : List Queued) (lists : List (List Queued)) (q : AreLanes lists queue) where
  none_at : (k : ℕ) → ((k < length lists) ⊎ (length lists ≤ k)) → ((k : ℕ) → k < length lists → ready_ticket waiters lists k ≡ None) → is_waiting (k + 1) waiters ≡ false → backlog lists k ≡ []
  none_at k (inl lt) none ready = no_number (backlog lists k) (sym (number_is waiters lists k ready) ∙ none k lt)
  none_at k (inr le) none ready = beyond lists k le

  none_of : (s : ℕ) → ((k : ℕ) → k < length lists → ready_ticket waiters lists k ≡ None) → is_waiting s waiters ≡ false → filter (is_of s) queue ≡ []
  none_of zero none ready = none_zero queue q.known
  none_of (suc k) none ready = let h : is_waiting (k + 1) waiters ≡ false = rw add-one ready in let e : filter (is_of (k + 1)) queue ≡ [] = sym (q.each k) ∙ none_at k (cases_lt k (length lists)) none h in rw add-one at e

  pub nothing_ready : IsFirst (ready_ticket waiters lists) (length lists) None → ready_among waiters (map entry_in queue) ≡ None
  nothing_ready none = none_ready waiters queue (λ s ready. none_of s none ready)

  -- ---- the one that is found

  abbrev Found : ℕ → ℕ → Type 0
  Found place number = IsLeast (ready_ticket waiters lists) (length lists) (Some (place, number))

  ready_by : (b : Bool) (place number : ℕ) → is_waiting (place + 1) waiters ≡ b → ready_ticket waiters lists place ≡ Some number → is_waiting (place + 1) waiters ≡ false
  ready_by true place number e is = let h : None ≡ Some number = sym (ap (λ b. cond b None (first_ticket (backlog lists place))) e) ∙ is in absurd cc
  ready_by false place number e is = e

  least_at : (place number : ℕ) (entry : Queued) → Found place number → entry.ticket ≡ number → (s : ℕ) (e : Queued) (es : List Queued) → is_waiting s waiters ≡ false → filter (is_of s) queue ≡ e ∷ es → entry.ticket ≤ e.ticket
  least_at place number entry found same zero e es ready is = let h : [] ≡ e ∷ es = sym (none_zero queue q.known) ∙ is in absurd cc
  least_at place number entry found same (suc k) e es ready is =
      let r : is_waiting (k + 1) waiters ≡ false = rw add-one ready in
      let f : filter (is_of (k + 1)) queue ≡ e ∷ es = rw add-one is in
      let b : backlog lists k ≡ e ∷ es = q.each k ∙ f in
      let le : number ≤ e.ticket = found.2 k e.ticket (within lists k e es b) (number_is waiters lists k r ∙ some_number (backlog lists k) e es b) in
      omega (arith, le, same)

  tails : (a : Queued) (x y : List Queued) → a ∷ x ≡ a ∷ y → x ≡ y
  tails a x y e = cc

  left_by : (place k : ℕ) (b : Bool) (entry : Queued) (es rest : List Queued) → (k == place) ≡ b → place < length lists → entry.entry.session ≡ place + 1 → backlog lists place ≡ entry ∷ es → Without entry queue rest
      → backlog (slice_set lists place es) k ≡ filter (is_of (k + 1)) rest
  left_by place k true entry es rest e lt of is w =
      let at : k ≡ place = grind arith in
      let own : filter (is_of (place + 1)) queue ≡ entry ∷ filter (is_of (place + 1)) rest = subst (λ (s : ℕ). filter (is_of s) queue ≡ entry ∷ filter (is_of s) rest) of w.own in
      let t : es ≡ filter (is_of (place + 1)) rest = tails entry es (filter (is_of (place + 1)) rest) (sym is ∙ q.each place ∙ own) in
      subst (λ (k : ℕ). backlog (slice_set lists place es) k ≡ filter (is_of (k + 1)) rest) (sym at) (put_same lists place es lt ∙ t)
  left_by place k false entry es rest e lt of is w =
      let other : ((k + 1) == entry.entry.session) ≡ false = rw of (grind arith) in
      put_other lists place k es e ∙ q.each k ∙ sym (w.others (k + 1) other)

  pub is_taken : (place : ℕ) (entry : Queued) (es : List Queued) → IsFirst (ready_ticket waiters lists) (length lists) (Some place) → backlog lists place ≡ entry ∷ es → entry.entry.session ≡ place + 1 → Ascends (map ticket_of queue) → Leaves waiters queue entry (slice_set lists place es)
  is_taken place entry es first is of ascends =
      let found : Found place first.0 = first.1 in
      let ready : is_waiting (place + 1) waiters ≡ false = ready_by (is_waiting (place + 1) waiters) place first.0 refl found.1 in
      let same : entry.ticket ≡ first.0 = some_is entry.ticket first.0 (sym (some_number (backlog lists place) entry es is) ∙ sym (number_is waiters lists place ready) ∙ found.1) in
      let t : Taken waiters entry queue = taken waiters entry es queue (rw of ready) (subst (λ (s : ℕ). filter (is_of s) queue ≡ entry ∷ es) (sym of) (sym (q.each place) ∙ is)) (least_at place first.0 entry found same) ascends in
      let more : count_in (slice_set lists place es) + length (backlog lists place) ≡ count_in lists + length es = counted lists place es found.0 in
      let long : length (backlog lists place) ≡ length es + 1 = omega (arith, ap (λ (l : List Queued). length l) is) in
      record {
        rest = t.rest;
        is = t.is;
        kept = record {
          each = λ k. left_by place k (k == place) entry es t.rest refl found.0 of is t.without;
          known = t.without.positive q.known;
          count = omega (arith, more, long, q.count, t.without.one);
        };
        ascends = t.without.ascends;
      }

-- ---- one more

-- an entry that is put behind those of its session
each_push : (b : Bool) (place : ℕ) (queue : List Queued) (entry : Queued) → is_of (place + 1) entry ≡ b → filter (is_of (place + 1)) (queue ++ entry ∷ []) ≡ (if b then filter (is_of (place + 1)) queue ++ entry ∷ [] else filter (is_of (place + 1)) queue)
each_push true place queue entry e = filter-append (is_of (place + 1)) queue (entry ∷ []) ∙ ap (λ b. filter (is_of (place + 1)) queue ++ cond b (entry ∷ []) []) e
each_push false place queue entry e = filter-append (is_of (place + 1)) queue (entry ∷ []) ∙ ap (λ b. filter (is_of (place + 1)) queue ++ cond b (entry ∷ []) []) e ∙ append-nil (filter (is_of (place + 1)) queue)

pub each_of : (queue : List Queued) (entry : Queued) (P : Queued → Type 0) → Each P queue → P entry → Each P (queue ++ entry ∷ [])
each_of [] entry P all p = (p, tt)
each_of (q ∷ queue) entry P all p = (all.0, each_of queue entry P all.1 p)

pub length_push : {X : Type 0} (l : List X) (x : X) → length (l ++ x ∷ []) ≡ length l + 1
length_push [] x = omega arith
length_push (y ∷ l) x = omega (arith, length_push l x)

pub pushed : (lists new : List (List Queued)) (queue : List Queued) (entry : Queued) → AreLanes lists queue → 1 ≤ entry.entry.session → IsPushed lists entry new → AreLanes new (queue ++ entry ∷ [])
pushed lists new queue entry q some is = record {
  each = λ place. is.each place ∙ ap (λ (l : List Queued). cond (is_of (place + 1) entry) (l ++ entry ∷ []) l) (q.each place) ∙ sym (each_push (is_of (place + 1) entry) place queue entry refl);
  known = each_of queue entry (λ q. 1 ≤ q.entry.session) q.known some;
  count = is.count ∙ ap (λ (n : ℕ). n + 1) q.count ∙ sym (length_push queue entry);
}

same_place : (place at : ℕ) → ((at + 1) == (place + 1)) ≡ true → place ≡ at
same_place place at e = grind arith

other_place : (place at : ℕ) → ((at + 1) == (place + 1)) ≡ false → (place == at) ≡ false
other_place place at e = grind arith

put_by : (b : Bool) (lists : List (List Queued)) (at : ℕ) (entry : Queued) (place : ℕ) → at < length lists → ((at + 1) == (place + 1)) ≡ b
    → backlog (slice_set lists at (backlog lists at ++ entry ∷ [])) place ≡ cond b (backlog lists place ++ entry ∷ []) (backlog lists place)
put_by true lists at entry place lt e = let h : place ≡ at = same_place place at e in
    subst (λ (p : ℕ). backlog (slice_set lists at (backlog lists at ++ entry ∷ [])) p ≡ backlog lists p ++ entry ∷ []) (sym h) (put_same lists at (backlog lists at ++ entry ∷ []) lt)
put_by false lists at entry place lt e = put_other lists at place (backlog lists at ++ entry ∷ []) (other_place place at e)

-- an entry is put behind those of its session
pub put_pushed : (old lists : List (List Queued)) (at : ℕ) (entry : Queued) (place : ℕ) → ((k : ℕ) → backlog lists k ≡ backlog old k) → at < length lists → entry.entry.session ≡ at + 1
    → backlog (slice_set lists at (backlog lists at ++ entry ∷ [])) place ≡ (if is_of (place + 1) entry then backlog old place ++ entry ∷ [] else backlog old place)
put_pushed old lists at entry place same lt own =
    put_by ((at + 1) == (place + 1)) lists at entry place lt refl
    ∙ ap (λ (s : ℕ). cond (s == (place + 1)) (backlog lists place ++ entry ∷ []) (backlog lists place)) (sym own)
    ∙ ap (λ (l : List Queued). cond (is_of (place + 1) entry) (l ++ entry ∷ []) l) (same place)

pub put_is_pushed : (old lists : List (List Queued)) (at : ℕ) (entry : Queued) → Grows old lists → at < length lists → entry.entry.session ≡ at + 1 → IsPushed old entry (slice_set lists at (backlog lists at ++ entry ∷ []))
put_is_pushed old lists at entry grows lt own = record {
  each = λ place. put_pushed old lists at entry place grows.each lt own;
  count = let h : count_in (slice_set lists at (backlog lists at ++ entry ∷ [])) + length (backlog lists at) ≡ count_in lists + length (backlog lists at ++ entry ∷ []) = counted lists at (backlog lists at ++ entry ∷ []) lt in omega (arith, h, length_push (backlog lists at) entry, grows.count);
}

pub grows_same : (lists : List (List Queued)) → Grows lists lists
grows_same lists = record { each = λ place. refl; count = refl }

pub grows_on : (old lists : List (List Queued)) → Grows old lists → Grows old (lists ++ [] ∷ [])
grows_on old lists g = record { each = λ place. padded lists place ∙ g.each place; count = padded_count lists ∙ g.count }

each_by : (P : ℕ → Queued → Type 0) (lists : List (List Queued)) (at : ℕ) (new : List Queued) → at < length lists → ((place : ℕ) → Each (P place) (backlog lists place)) → Each (P at) new → (place : ℕ) (b : Bool) → (place == at) ≡ b → Each (P place) (backlog (slice_set lists at new) place)
each_by P lists at new lt all of place true e = let h : place ≡ at = grind arith in subst (λ (p : ℕ). Each (P p) (backlog (slice_set lists at new) p)) (sym h) (subst (λ (l : List Queued). Each (P at) l) (sym (put_same lists at new lt)) of)
each_by P lists at new lt all of place false e = subst (λ (l : List Queued). Each (P place) l) (sym (put_other lists at place new e)) (all place)

ready_at : (b : Bool) (waiters : List Entry) (lists : List (List Queued)) (place number : ℕ) → is_waiting (place + 1) waiters ≡ b → ready_ticket waiters lists place ≡ Some number → is_waiting (place + 1) waiters ≡ false
ready_at true waiters lists place number e is = let h : None ≡ Some number = sym (ap (λ b. cond b None (first_ticket (backlog lists place))) e) ∙ is in absurd cc
ready_at false waiters lists place number e is = e

-- what holds of each entry of each list holds when one is put at a list's end, and when a list is exchanged
pub each_put : (P : ℕ → Queued → Type 0) (lists : List (List Queued)) (at : ℕ) (new : List Queued) → at < length lists → ((place : ℕ) → Each (P place) (backlog lists place)) → Each (P at) new → (place : ℕ) → Each (P place) (backlog (slice_set lists at new) place)
each_put P lists at new lt all of place = each_by P lists at new lt all of place (place == at) refl

pub none_first : (waiters : List Entry) (lists : List (List Queued)) (place : ℕ) → IsFirst (ready_ticket waiters lists) (length lists) (Some place) → backlog lists place ≡ [] → ⊥
none_first waiters lists place first is =
    let ready : is_waiting (place + 1) waiters ≡ false = ready_at (is_waiting (place + 1) waiters) waiters lists place first.0 refl first.1.1 in
    let h : None ≡ Some first.0 = ap first_ticket (sym is) ∙ sym (number_is waiters lists place ready) ∙ first.1.1 in
    absurd cc
