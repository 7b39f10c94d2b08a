-- Turns go on by events.
use Rattle.std.proofs.Common.{ℕ, zero, suc, ◌+◌, Bool, true, false, List, [], ◌∷◌, length, refl}
use Rattle.std.specs.Prelude.{Option, None, Some, if◌then◌else◌, nat_lt}
use Rattle.hs_entries.specs.declared.item.Item.{Item}
use Rattle.hs_entries.specs.declared.item.Item.TheVariants as item
use Rattle.hs_schema.specs.Catalogue.{Text}
use Rattle.hs_sessions.specs.Book.{number_from}
use Rattle.hs_turns.specs.Database.{Database}
use Rattle.hs_turns.specs.Events.{reached}
use Rattle.hs_turns.specs.Dialect.{Dialect}
use Rattle.hs_turns.specs.Waiting.{Entry, is_waiting}
use Rattle.hs_turns.specs.Machine.{Machine, start, is_open, with_session}
use Rattle.hs_turns.specs.Attempts.{Attempt, attempt, present}
use Rattle.hs_turns.specs.Turns.{Turned, begun_by, retried_by, ready_among, whole_text, closes_next, begins, retries, admits, of_session, reads, closes, closing, from_input, from_queue, after_pass, in_pass, turn, after}
use Rattle.hs_turns.specs.Laws.{IsHistory, history_after}
use Rattle.hs_turns.proofs.Follows.{attempts, leaves}

module _ (d : Dialect) (opening : Database) (made : ℕ) where
  abbrev R : Machine → Type 0
  R m = IsHistory d opening m.history

  begun_r : (b : Bool) (entry : Entry) (a : Attempt) → R a.next → R (begun_by b entry a).next
  begun_r true entry a r = r
  begun_r false entry a r = r

  retried_r : (b : Bool) (entry : Entry) (a : Attempt) → R a.next → R (retried_by b entry a).next
  retried_r true entry a r = r
  retried_r false entry a r = r

  begins_r : (entry : Entry) (m : Machine) → R m → R (begins d opening made entry m).next
  begins_r entry m r = let a = attempt d opening made true entry m in begun_r a.final entry a ((attempts d opening made true entry m).history r)

  retries_r : (entry : Entry) (m : Machine) → R m → R (retries d opening made entry m).next
  retries_r entry m r = let a = attempt d opening made false entry m in retried_r a.final entry a ((attempts d opening made false entry m).history r)

  admits_r : (b : Bool) (entry : Entry) (m : Machine) → R m → R (admits d opening made b entry m).next
  admits_r true entry m r = r
  admits_r false entry m r = begins_r entry m r

  either_r : (b : Bool) (x y : Turned) → R x.next → R y.next → R (if b then x else y).next
  either_r true x y p q = p
  either_r false x y p q = q

  session_r : (found : Option ℕ) (number : ℕ) (name statement : Text) (m : Machine) → R m → R (of_session d opening made found number name statement m).next
  session_r (Some s) number name statement m r = admits_r (is_waiting s m.seen) (record { number = number; session = s; text = whole_text name statement }) m r
  session_r None number name statement m r =
      either_r (nat_lt (length m.names) 64) _ _ (begins_r (record { number = number; session = length m.names + 1; text = whole_text name statement }) (with_session name (present d opening made m).level m) r) r

  reads_r : (i : Item) (m : Machine) → R m → R (reads d opening made i m).next
  reads_r (item.Entry number name statement at) m r = session_r (number_from 1 name m.names) number name statement m r
  reads_r (item.Bad number) m r = r
  reads_r (item.TooLong number) m r = r
  reads_r item.End m r = r

  closes_r : (b : Bool) (s : ℕ) (m : Machine) → R m → R (closes d opening made b s m).next
  closes_r true s m r = (leaves d opening made s m).history r
  closes_r false s m r = r

  -- ---- turns

  abbrev RO : Option Turned → Type 0
  RO None = Unit {0}
  RO (Some t) = R t.next

  closing_r : (found : Option ℕ) (m : Machine) → R m → RO (closing d opening made found m)
  closing_r None m r = tt
  closing_r (Some s) m r = closes_r (is_open m s) s m r

  input_r : (items : List Item) (m : Machine) → R m → RO (from_input d opening made items m)
  input_r (i ∷ items) m r = reads_r i (record m { unread = items }) r
  input_r [] m r = closing_r (closes_next m) m r

  queue_r : (found : Option (Entry × List Entry)) (m : Machine) → R m → RO (from_queue d opening made found m)
  queue_r (Some found) m r = begins_r found.0 (record m { queue = found.1 }) r
  queue_r None m r = input_r m.unread m r

  pass_r : (again : Bool) (m : Machine) → R m → RO (after_pass d opening made again m)
  pass_r true m r = r
  pass_r false m r = queue_r (ready_among m.seen m.queue) m r

  in_pass_r : (ws : List Entry) (m : Machine) → R m → RO (in_pass d opening made ws m)
  in_pass_r (w ∷ ws) m r = retries_r w (record m { pass = ws }) r
  in_pass_r [] m r = pass_r m.again m r

  turn_r : (m : Machine) → R m → RO (turn d opening made m)
  turn_r m r = in_pass_r m.pass m r

  -- ---- runs

  next_r : (n : ℕ) (t : Option Turned) (m : Machine) → ((k : Machine) → R k → R (after d opening made n k)) → R m → RO t → R (elim t [ None ↦ m | Some u ↦ after d opening made n u.next ])
  next_r n None m goes r o = r
  next_r n (Some t) m goes r o = goes t.next o

  after_r : (n : ℕ) (m : Machine) → R m → R (after d opening made n m)
  unfolding after
  after_r zero m r = r
  after_r (suc n) m r = next_r n (turn d opening made m) m (after_r n) r (turn_r m r)

  pub run_r : (items : List Item) (n : ℕ) → IsHistory d opening (history_after d opening made items n)
  unfolding reached
  run_r items n = after_r n (start opening items) ([], refl)
