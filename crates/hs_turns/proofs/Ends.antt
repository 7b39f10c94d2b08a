-- Each turn lowers the weight, so that every run ends.
use Rattle.std.proofs.Common.{◌≡◌, ℕ, zero, suc, ◌+◌, ◌*◌, ◌<◌, ◌≤◌, ◌==◌, Bool, true, false, cond, List, [], ◌∷◌, ◌++◌, length, refl, sym, ap, ap₂, ◌∙◌, subst, arith, length-append, add-one, eq-eqb}
use Rattle.std.specs.Prelude.{Option, None, Some, if◌then◌else◌, nat_lt, not, ◌||◌, filter}
use Rattle.std.specs.List.{list_any}
use Rattle.std.proofs.Math.Nat.{mul-le-mul_left}
use Rattle.hs_ast.specs.declared.session.Isolation.{Isolation}
use Rattle.hs_entries.specs.declared.item.Item.{Item}
use Rattle.hs_entries.specs.declared.item.Item.TheVariants as item
use Rattle.hs_schema.specs.Catalogue.{Text}
use Rattle.hs_sessions.specs.Book.{number_from}
use Rattle.hs_turns.specs.Database.{Database}
use Rattle.hs_turns.specs.Dialect.{Dialect}
use Rattle.hs_turns.specs.Waiting.{Entry, is_waiting, ascending}
use Rattle.hs_turns.specs.Machine.{Machine, is_open, with_session}
use Rattle.hs_turns.specs.Attempts.{Attempt, attempt, left_own, present}
use Rattle.hs_turns.specs.Turns.{Turned, begun_by, retried_by, ready_among, whole_text, is_closed, closes_next, with_closed, begins, admits, of_session, reads, closes, closing, from_input, from_queue, after_pass, in_pass, turn, after, flag, waiters, unclosed, work, weight}
use Rattle.hs_turns.proofs.Counting.{found_passes, strictly}
use Rattle.hs_turns.proofs.Follows.{Follows, stays, attempts, leaves, quiet}

-- ---- numbers

abbrev total : Machine → ℕ
total m = length m.unread + length m.queue + waiters m

lighter : (t u v w p q : ℕ) → u ≤ t → p ≤ u → w + 1 ≤ v → (u + 1) * w + p < (t + 1) * v + q
lighter t u v w p q less small lower = omega (arith, mul-le-mul_left (t + 1) lower, mul-le-mul_left w less, small)

shorter : (t u v w p q : ℕ) → u ≤ t → w ≤ v → p < q → (u + 1) * w + p < (t + 1) * v + q
shorter t u v w p q less same lower = omega (arith, mul-le-mul_left (t + 1) same, mul-le-mul_left w less, lower)

flag_small : (b : Bool) → flag b ≤ 1
flag_small true = omega arith
flag_small false = omega arith

-- ---- sessions that aren't closed

not_right : (a b : Bool) → not (a || b) ≡ true → not b ≡ true
not_right true b h = absurd cc
not_right false b h = h

or_left : (a b : Bool) → a ≡ true → not (a || b) ≡ false
or_left true b h = refl
or_left false b h = absurd cc

-- a session is closed that wasn't
closed_fewer : (s : ℕ) (m : Machine) → closes_next m ≡ Some s → unclosed (with_closed s m) + 1 ≤ unclosed m
closed_fewer s m e =
    let p = λ (x : ℕ). not (is_closed m x) in
    let q = λ (x : ℕ). not (is_closed (with_closed s m) x) in
    let found = found_passes (λ x. not (is_waiting x m.seen || is_closed m x)) s (ascending 1 (length m.names)) e in
    strictly p q (λ x h. not_right (s == x) (is_closed m x) h) s (not_right (is_waiting s m.seen) (is_closed m s) found.0) (or_left (s == s) (is_closed m s) (eq-eqb s s refl)) (ascending 1 (length m.names)) found.1

-- one session more is one more at most
added_by : (b : Bool) (x : ℕ) (xs ys : List ℕ) → length ys ≤ length xs + 1 → length (cond b (x ∷ ys) ys) ≤ length (cond b (x ∷ xs) xs) + 1
added_by true x xs ys le = omega (arith, le)
added_by false x xs ys le = le

one_at_most : (b : Bool) (x : ℕ) → length (cond b (x ∷ []) []) ≤ 1
one_at_most true x = omega arith
one_at_most false x = omega arith

added : (p : ℕ → Bool) (first n : ℕ) → length (filter p (ascending first (suc n))) ≤ length (filter p (ascending first n)) + 1
added p first zero = one_at_most (p first) first
added p first (suc n) = added_by (p first) first (filter p (ascending (first + 1) n)) (filter p (ascending (first + 1) (suc n))) (added p (first + 1) n)

session_added : (name : Text) (level : Isolation) (m : Machine) → unclosed (with_session name level m) ≤ unclosed m + 1
session_added name level m =
    let p = λ (x : ℕ). not (is_closed m x) in
    let long : length (m.names ++ name ∷ []) ≡ suc (length m.names) = length-append m.names (name ∷ []) ∙ add-one (length m.names) in
    subst (λ (k : ℕ). length (filter p (ascending 1 k)) ≤ unclosed m + 1) (sym long) (added p 1 (length m.names))

-- ---- the queue

pair_of : {a b : Entry × List Entry} → Some a ≡ Some b → a ≡ b
pair_of e = cc

tail_after : (r : Option (Entry × List Entry)) (q : Entry) (queue : List Entry) (i : Entry) (rest : List Entry) → ((p : Entry × List Entry) → r ≡ Some p → length queue ≡ suc (length p.1))
    → (elim r as (λ _. Option (Entry × List Entry)) [ None ↦ None | Some found ↦ Some (found.0, q ∷ found.1) ]) ≡ Some (i, rest) → suc (length queue) ≡ suc (length rest)
tail_after None q queue i rest shorter e = absurd cc
tail_after (Some p) q queue i rest shorter e = let t : q ∷ p.1 ≡ rest = ap (λ (x : Entry × List Entry). x.1) (pair_of e) in omega (arith, shorter p refl, ap length t)

by_test : (b : Bool) (r : Option (Entry × List Entry)) (q : Entry) (queue : List Entry) (i : Entry) (rest : List Entry) → ((p : Entry × List Entry) → r ≡ Some p → length queue ≡ suc (length p.1))
    → cond b (elim r as (λ _. Option (Entry × List Entry)) [ None ↦ None | Some found ↦ Some (found.0, q ∷ found.1) ]) (Some (q, queue)) ≡ Some (i, rest) → suc (length queue) ≡ suc (length rest)
by_test true r q queue i rest shorter e = tail_after r q queue i rest shorter e
by_test false r q queue i rest shorter e = ap (λ (x : Entry × List Entry). suc (length x.1)) (pair_of e)

-- one fewer is queued, where the first that is ready is taken
ready_length : (waiting queue : List Entry) (i : Entry) (rest : List Entry) → ready_among waiting queue ≡ Some (i, rest) → length queue ≡ suc (length rest)
ready_length waiting [] i rest e = absurd cc
ready_length waiting (q ∷ queue) i rest e = by_test (is_waiting q.session waiting) (ready_among waiting queue) q queue i rest (λ p was. ready_length waiting queue p.0 p.1 was) e

-- ---- what stays

same_unclosed : (names others : List Text) (closed more : List ℕ) → others ≡ names → more ≡ closed
    → length (filter (λ s. not (list_any (λ c. c == s) more)) (ascending 1 (length others))) ≡ length (filter (λ s. not (list_any (λ c. c == s) closed)) (ascending 1 (length names)))
same_unclosed names others closed more e f = ap₂ (λ (c : List ℕ) (n : List Text). length (filter (λ s. not (list_any (λ x. x == s) c)) (ascending 1 (length n)))) f e

module _ (d : Dialect) (opening : Database) (made : ℕ) where
  follows_unclosed : (m n : Machine) → Follows d opening m n → unclosed n ≡ unclosed m
  follows_unclosed m n f = same_unclosed m.names n.names m.closed n.closed f.names f.closed

  -- an attempt that goes on where `mid` is, which has this much less to do
  pub record Adds (mid n : Machine) : Type 0 where
    pub work_of : work n ≤ work mid + 3
    pub total_of : total n ≤ total mid + 1
    pub pass_of : n.pass ≡ mid.pass

  follows_adds : (m n : Machine) → Follows d opening m n → Adds m n
  follows_adds m n f = record {
    work_of = omega (arith, flag_small n.again, follows_unclosed m n f, ap length f.seen, ap length f.pass, ap length f.queue, ap length f.unread);
    total_of = omega (arith, ap length f.seen, ap length f.pass, ap length f.queue, ap length f.unread);
    pass_of = f.pass;
  }

  begun_adds : (b : Bool) (entry : Entry) (a : Attempt) (m : Machine) → Follows d opening m a.next → Adds m (begun_by b entry a).next
  begun_adds true entry a m f = follows_adds m a.next f
  begun_adds false entry a m f = record {
    work_of = omega (arith, flag_small a.next.again, follows_unclosed m a.next f, ap length f.seen, ap length f.pass, ap length f.queue, ap length f.unread, length-append a.next.seen (entry ∷ []));
    total_of = omega (arith, ap length f.seen, ap length f.pass, ap length f.queue, ap length f.unread, length-append a.next.seen (entry ∷ []));
    pass_of = f.pass;
  }

  begins_adds : (entry : Entry) (m : Machine) → Adds m (begins d opening made entry m).next
  begins_adds entry m = let a = attempt d opening made true entry m in begun_adds a.final entry a m (attempts d opening made true entry m)

  -- ---- turns

  abbrev Lowers : Machine → Machine → Type 0
  Lowers m n = weight n < weight m

  lowered : (m mid n : Machine) → Adds mid n → work mid + 4 ≤ work m → total mid + 1 ≤ total m → mid.pass ≡ m.pass → Lowers m n
  lowered m mid n a work_less total_less pass =
      lighter (total m) (total n) (work m) (work n) (length n.pass) (length m.pass) (omega (arith, a.total_of, total_less)) (omega arith) (omega (arith, a.work_of, work_less))

  retried : (b : Bool) (w : Entry) (ws : List Entry) (a : Attempt) (m : Machine) → m.pass ≡ w ∷ ws → Follows d opening (record m { pass = ws }) a.next → (b ≡ false → a.next.again ≡ m.again) → Lowers m (retried_by b w a).next
  retried true w ws a m is f still =
      let n = (retried_by true w a).next in
      lighter (total m) (total n) (work m) (work n) (length n.pass) (length m.pass)
      (omega (arith, ap length is, ap length f.seen, ap length f.pass, ap length f.queue, ap length f.unread)) (omega arith)
      (omega (arith, ap length is, follows_unclosed (record m { pass = ws }) a.next f, ap length f.seen, ap length f.pass, ap length f.queue, ap length f.unread))
  retried false w ws a m is f still =
      let n = (retried_by false w a).next in
      shorter (total m) (total n) (work m) (work n) (length n.pass) (length m.pass)
      (omega (arith, ap length is, ap length f.seen, ap length f.pass, ap length f.queue, ap length f.unread, length-append a.next.seen (w ∷ [])))
      (omega (arith, ap flag (still refl), ap length is, follows_unclosed (record m { pass = ws }) a.next f, ap length f.seen, ap length f.pass, ap length f.queue, ap length f.unread, length-append a.next.seen (w ∷ [])))
      (omega (arith, ap length is, ap length f.pass))

  admitted : (b : Bool) (entry : Entry) (m mid : Machine) → work mid + 7 ≤ work m → total mid + 1 ≤ total m → mid.pass ≡ m.pass → Lowers m (admits d opening made b entry mid).next
  admitted true entry m mid work_less total_less pass =
      let n = (admits d opening made true entry mid).next in
      lighter (total m) (total n) (work m) (work n) (length n.pass) (length m.pass) (omega (arith, total_less, length-append mid.queue (entry ∷ []))) (omega arith) (omega (arith, work_less, length-append mid.queue (entry ∷ [])))
  admitted false entry m mid work_less total_less pass = lowered m mid (begins d opening made entry mid).next (begins_adds entry mid) (omega (arith, work_less)) total_less pass

  either_lowers : (b : Bool) (m : Machine) (x y : Turned) → Lowers m x.next → Lowers m y.next → Lowers m (if b then x else y).next
  either_lowers true m x y p q = p
  either_lowers false m x y p q = q

  nothing_lowers : (m mid : Machine) → work mid + 7 ≤ work m → total mid + 1 ≤ total m → Lowers m mid
  nothing_lowers m mid work_less total_less = lighter (total m) (total mid) (work m) (work mid) (length mid.pass) (length m.pass) (omega (arith, total_less)) (omega arith) (omega (arith, work_less))

  of_sessions : (found : Option ℕ) (number : ℕ) (name statement : Text) (m mid : Machine) → work mid + 7 ≤ work m → total mid + 1 ≤ total m → mid.pass ≡ m.pass → Lowers m (of_session d opening made found number name statement mid).next
  of_sessions (Some s) number name statement m mid work_less total_less pass =
      admitted (is_waiting s mid.seen) (record { number = number; session = s; text = whole_text name statement }) m mid work_less total_less pass
  of_sessions None number name statement m mid work_less total_less pass =
      let entry : Entry = record { number = number; session = length mid.names + 1; text = whole_text name statement } in
      let more = with_session name (present d opening made mid).level mid in
      either_lowers (nat_lt (length mid.names) 64) m (begins d opening made entry more) _
      (lowered m more (begins d opening made entry more).next (begins_adds entry more) (omega (arith, work_less, session_added name (present d opening made mid).level mid)) total_less pass)
      (nothing_lowers m mid work_less total_less)

  read_lowers : (i : Item) (m mid : Machine) → work mid + 7 ≤ work m → total mid + 1 ≤ total m → mid.pass ≡ m.pass → Lowers m (reads d opening made i mid).next
  read_lowers (item.Entry number name statement at) m mid work_less total_less pass = of_sessions (number_from 1 name mid.names) number name statement m mid work_less total_less pass
  read_lowers (item.Bad number) m mid work_less total_less pass = nothing_lowers m mid work_less total_less
  read_lowers (item.TooLong number) m mid work_less total_less pass = nothing_lowers m mid work_less total_less
  read_lowers item.End m mid work_less total_less pass = nothing_lowers m mid work_less total_less

  -- a session is closed behind an end of its transaction, or where it has none
  closed_lowers : (s : ℕ) (m n : Machine) → closes_next m ≡ Some s → Follows d opening m n → Lowers m (with_closed s n)
  closed_lowers s m n is f =
      let same = same_unclosed m.names n.names (s ∷ m.closed) (s ∷ n.closed) f.names (ap (λ (c : List ℕ). s ∷ c) f.closed) in
      lighter (total m) (total n) (work m) (work (with_closed s n)) (length n.pass) (length m.pass)
      (omega (arith, ap length f.seen, ap length f.pass, ap length f.queue, ap length f.unread)) (omega arith)
      (omega (arith, flag_small n.again, same, closed_fewer s m is, ap length f.seen, ap length f.pass, ap length f.queue, ap length f.unread))

  close_lowers : (b : Bool) (s : ℕ) (m : Machine) → closes_next m ≡ Some s → Lowers m (closes d opening made b s m).next
  close_lowers true s m is = closed_lowers s m (left_own d opening made s m) is (leaves d opening made s m)
  close_lowers false s m is = closed_lowers s m m is (stays d opening made m)

  abbrev LO : Machine → Option Turned → Type 0
  LO m None = Unit {0}
  LO m (Some t) = Lowers m t.next

  closing_lowers : (found : Option ℕ) (m : Machine) → closes_next m ≡ found → LO m (closing d opening made found m)
  closing_lowers None m is = tt
  closing_lowers (Some s) m is = close_lowers (is_open m s) s m is

  input_lowers : (items : List Item) (m : Machine) → m.unread ≡ items → LO m (from_input d opening made items m)
  input_lowers (i ∷ items) m is = read_lowers i m (record m { unread = items }) (omega (arith, ap length is)) (omega (arith, ap length is)) refl
  input_lowers [] m is = closing_lowers (closes_next m) m refl

  queue_lowers : (found : Option (Entry × List Entry)) (m : Machine) → ready_among m.seen m.queue ≡ found → LO m (from_queue d opening made found m)
  queue_lowers (Some found) m is =
      let mid = record m { queue = found.1 } in
      let less = ready_length m.seen m.queue found.0 found.1 is in
      lowered m mid (begins d opening made found.0 mid).next (begins_adds found.0 mid) (omega (arith, less)) (omega (arith, less)) refl
  queue_lowers None m is = input_lowers m.unread m refl

  pass_lowers : (again : Bool) (m : Machine) → m.pass ≡ [] → m.again ≡ again → LO m (after_pass d opening made again m)
  pass_lowers true m none is =
      let n = record m { seen = []; pass = m.seen; again = false } in
      let one : flag m.again ≡ 1 = ap flag is in
      lighter (total m) (total n) (work m) (work n) (length n.pass) (length m.pass) (omega (arith, ap length none)) (omega arith) (omega (arith, one, ap length none))
  pass_lowers false m none is = queue_lowers (ready_among m.seen m.queue) m refl

  in_pass_lowers : (ws : List Entry) (m : Machine) → m.pass ≡ ws → LO m (in_pass d opening made ws m)
  in_pass_lowers (w ∷ ws) m is = let mid = record m { pass = ws } in let a = attempt d opening made false w mid in retried a.final w ws a m is (attempts d opening made false w mid) (λ e. (quiet d opening made w mid e).0)
  in_pass_lowers [] m is = pass_lowers m.again m is refl

  pub turn_lowers : (m : Machine) (t : Turned) → turn d opening made m ≡ Some t → weight t.next < weight m
  turn_lowers m t is = subst (LO m) is (in_pass_lowers m.pass m refl)

  -- ---- runs

  over_by : (n : ℕ) (m : Machine) (t : Option Turned) → turn d opening made m ≡ t → weight m ≤ suc n → ((k : Machine) → weight k ≤ n → turn d opening made (after d opening made n k) ≡ None)
      → turn d opening made (elim t [ None ↦ m | Some u ↦ after d opening made n u.next ]) ≡ None
  over_by n m None is small rest = is
  over_by n m (Some t) is small rest = rest t.next (omega (arith, turn_lowers m t is, small))

  none_left : (m : Machine) (t : Option Turned) → turn d opening made m ≡ t → weight m ≤ 0 → t ≡ None
  none_left m None is small = refl
  none_left m (Some t) is small = absurd (omega (arith, turn_lowers m t is, small))

  pub over : (n : ℕ) (m : Machine) → weight m ≤ n → turn d opening made (after d opening made n m) ≡ None
  unfolding after
  over zero m small = none_left m (turn d opening made m) refl small
  over (suc n) m small = over_by n m (turn d opening made m) refl small (over n)
