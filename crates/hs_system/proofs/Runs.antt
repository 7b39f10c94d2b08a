-- Turns keep what commits keep for which the log has room, and so does a run; each of its commits had room.
use Rattle.std.proofs.Common.{◌≡◌, ℕ, zero, suc, ◌+◌, Bool, true, false, List, [], ◌∷◌, ◌++◌, length, sym, subst, append-nil, append_assoc}
use Rattle.std.specs.Prelude.{Option, None, Some, if◌then◌else◌, nat_lt}
use Rattle.hs_entries.specs.declared.item.Item.{Item}
use Rattle.hs_entries.specs.declared.item.Item.TheVariants as item
use Rattle.hs_schema.specs.Catalogue.{Text}
use Rattle.hs_sessions.specs.Book.{number_from}
use Rattle.hs_turns.specs.Database.{Database}
use Rattle.hs_turns.specs.Histories.{Commit}
use Rattle.hs_turns.specs.Attempts.{Attempt, attempt, present}
use Rattle.hs_turns.specs.Dialect.{Dialect}
use Rattle.hs_turns.specs.Laws.{history_after}
use Rattle.hs_turns.specs.Machine.{Machine, is_open, start, with_session}
use Rattle.hs_turns.specs.Turns.{Turned, admits, after, after_pass, begins, begun_by, closes, closes_next, closing, from_input, from_queue, in_pass, of_session, reads, ready_among, retried_by, retries, turn, whole_text}
use Rattle.hs_turns.specs.Waiting.{Entry, is_waiting}
use Rattle.hs_system.specs.Room.{HadRoom}
use Rattle.hs_system.proofs.Attempts.{attempts_keep}

module _ (d : Dialect) (opening : Database) (made : ℕ) (Holds : List Commit → Type 0) (more : (ks : List Commit) (k : Commit) → Holds ks → d.has_log_room ks k ≡ true → Holds (ks ++ k ∷ [])) where
  abbrev M : Machine → Type 0
  M m = Holds m.history.commits

  begun_keeps : (b : Bool) (entry : Entry) (a : Attempt) → M a.next → M (begun_by b entry a).next
  begun_keeps true entry a p = p
  begun_keeps false entry a p = p

  begins_keep : (entry : Entry) (m : Machine) → M m → M (begins d opening made entry m).next
  begins_keep entry m p = let a = attempt d opening made true entry m in begun_keeps a.final entry a (attempts_keep d opening made Holds more true entry m p)

  retried_keeps : (b : Bool) (entry : Entry) (a : Attempt) → M a.next → M (retried_by b entry a).next
  retried_keeps true entry a p = p
  retried_keeps false entry a p = p

  retries_keep : (entry : Entry) (m : Machine) → M m → M (retries d opening made entry m).next
  retries_keep entry m p = let a = attempt d opening made false entry m in retried_keeps a.final entry a (attempts_keep d opening made Holds more false entry m p)

  admits_keep : (b : Bool) (entry : Entry) (m : Machine) → M m → M (admits d opening made b entry m).next
  admits_keep true entry m p = p
  admits_keep false entry m p = begins_keep entry m p

  either : (b : Bool) (x y : Turned) → M x.next → M y.next → M (if b then x else y).next
  either true x y p q = p
  either false x y p q = q

  sessions_keep : (found : Option ℕ) (number : ℕ) (name statement : Text) (m : Machine) → M m → M (of_session d opening made found number name statement m).next
  sessions_keep (Some s) number name statement m p = admits_keep (is_waiting s m.seen) (record { number = number; session = s; text = whole_text name statement }) m p
  sessions_keep None number name statement m p =
      either (nat_lt (length m.names) 64) _ _ (begins_keep (record { number = number; session = length m.names + 1; text = whole_text name statement }) (with_session name (present d opening made m).level m) p) p

  reads_keep : (i : Item) (m : Machine) → M m → M (reads d opening made i m).next
  reads_keep (item.Entry number name statement at) m p = sessions_keep (number_from 1 name m.names) number name statement m p
  reads_keep (item.Bad number) m p = p
  reads_keep (item.TooLong number) m p = p
  reads_keep item.End m p = p

  closes_keep : (b : Bool) (s : ℕ) (m : Machine) → M m → M (closes d opening made b s m).next
  closes_keep true s m p = p
  closes_keep false s m p = p

  abbrev TO : Option Turned → Type 0
  TO None = Unit {0}
  TO (Some t) = M t.next

  closing_keeps : (found : Option ℕ) (m : Machine) → M m → TO (closing d opening made found m)
  closing_keeps None m p = tt
  closing_keeps (Some s) m p = closes_keep (is_open m s) s m p

  input_keeps : (items : List Item) (m : Machine) → M m → TO (from_input d opening made items m)
  input_keeps (i ∷ items) m p = reads_keep i (record m { unread = items }) p
  input_keeps [] m p = closing_keeps (closes_next m) m p

  queue_keeps : (found : Option (Entry × List Entry)) (m : Machine) → M m → TO (from_queue d opening made found m)
  queue_keeps (Some found) m p = begins_keep found.0 (record m { queue = found.1 }) p
  queue_keeps None m p = input_keeps m.unread m p

  pass_keeps : (again : Bool) (m : Machine) → M m → TO (after_pass d opening made again m)
  pass_keeps true m p = p
  pass_keeps false m p = queue_keeps (ready_among m.seen m.queue) m p

  turn_keeps : (ws : List Entry) (m : Machine) → M m → TO (in_pass d opening made ws m)
  turn_keeps (w ∷ ws) m p = retries_keep w (record m { pass = ws }) p
  turn_keeps [] m p = pass_keeps m.again m p

  run_by : (n : ℕ) (m : Machine) (t : Option Turned) → TO t → M m → ((x : Machine) → M x → M (after d opening made n x)) → M (elim t [ None ↦ m | Some u ↦ after d opening made n u.next ])
  run_by n m None q p rest = p
  run_by n m (Some t) q p rest = rest t.next q

  pub run_keeps : (n : ℕ) (m : Machine) → M m → M (after d opening made n m)
  unfolding after
  run_keeps zero m p = p
  run_keeps (suc n) m p = run_by n m (turn d opening made m) (turn_keeps m.pass m p) p (run_keeps n)

-- ---- room

had_more : (d : Dialect) (before ks : List Commit) (k : Commit) → HadRoom d before ks → d.has_log_room (before ++ ks) k ≡ true → HadRoom d before (ks ++ k ∷ [])
had_more d before [] k had room = (subst (λ (l : List Commit). d.has_log_room l k ≡ true) (append-nil before) room, tt)
had_more d before (x ∷ ks) k had room = (had.0, had_more d (before ++ x ∷ []) ks k had.1 (subst (λ (l : List Commit). d.has_log_room l k ≡ true) (sym (append_assoc before (x ∷ []) ks)) room))

pub had_room : (d : Dialect) (opening : Database) (made : ℕ) (items : List Item) (n : ℕ) → HadRoom d [] (history_after d opening made items n).commits
had_room d opening made items n = run_keeps d opening made (HadRoom d []) (had_more d []) n (start opening items) tt
