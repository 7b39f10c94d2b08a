-- What the end of the input comes to.
use Rattle.std.proofs.Common.{◌≡◌, ◌==◌, ◌||◌, ℕ, Bool, true, false, List, [], ◌∷◌, ◌++◌, length, refl, sym, ap, ◌∙◌, subst, arith, append-nil}
use Rattle.std.specs.Prelude.{Option, Some, find, not, if◌then◌else◌}
use Rattle.hs_claims.specs.Blockers.{has}
use Rattle.hs_claims.specs.Session.{IsSession}
use Rattle.hs_futures.specs.Futures.{ends}
use Rattle.hs_futures.proofs.Texts.{texts_added}
use Rattle.hs_lines.specs.Names.{name_in}
use Rattle.hs_run.specs.declared.gathered.Gathered.{Gathered}
use Rattle.hs_schema.specs.Catalogue.{Text}
use Rattle.hs_seams.specs.Calls.{IsClosed}
use Rattle.hs_seams.specs.World.{World}
use Rattle.hs_seams.specs.declared.engine.Engine as engine
use Rattle.hs_sides.specs.Sides.{Side, alone, behind_close, side_of}
use Rattle.hs_turns.specs.Attempts.{left_own}
use Rattle.hs_turns.specs.Lines.{EndOf, printed}
use Rattle.hs_turns.specs.Machine.{Machine, is_open}
use Rattle.hs_turns.specs.Turns.{Turned, closes, closes_next, closing, is_closed}
use Rattle.hs_turns.specs.Waiting.{Entry, ascending, is_waiting}
use Rattle.hs_scheduler.specs.Closing.{closes_in, first_closing}
use Rattle.hs_scheduler.specs.Standing.{IsBeside, IsMachine}
use Rattle.hs_scheduler.specs.Turned.{IsTurned, closed}
use Rattle.hs_scheduler.specs.declared.scheduler.Scheduler.{Scheduler}
use Rattle.hs_scheduler.proofs.Finding.{same_find}

module _ {E : Type 0} (g : engine.Ghosts E) (w : World) (m : Machine) where
  pub next_is : (s : Scheduler E) → IsBeside s m → closes_next m ≡ first_closing s.seen s.closed s.names
  next_is s b =
      same_find (λ (k : ℕ). not (is_waiting k m.seen || is_closed m k)) (closes_in s.seen s.closed) (length m.names) 1
      (λ k low high. ap (λ (l : List Entry). not (is_waiting k l || is_closed m k)) (sym b.seen) ∙ ap (λ (c : Bool). not (is_waiting k s.seen || c)) (sym (b.closed k (low, omega (arith, high, b.few)))))
      ∙ ap (λ (n : List Text). find (closes_in s.seen s.closed) (ascending 1 (length n))) (sym b.names)

  pub ends_is : (s : Scheduler E) (n : ℕ) → IsBeside s m → first_closing s.seen s.closed s.names ≡ Some n → ends w m ≡ Some (closed w n m)
  unfolding ends
  ends_is s n b is = ap (λ (r : Option ℕ). closing w.run.dialect w.run.opening w.run.made r m) (next_is s b ∙ is)

  -- ---- a session is closed, whose transaction was open or none was

  flipped : (k n : ℕ) (x : Bool) → ((k == n) || x) ≡ ((n == k) || x)
  flipped k n x = ap (λ (b : Bool). b || x) (turned_round k n)
    where
      turned_round : (a b : ℕ) → (a == b) ≡ (b == a)
      turned_round a b = grind arith

  abbrev turn_of : Bool → ℕ → Turned
  turn_of b n = closes w.run.dialect w.run.opening w.run.made b n m

  behind_is : (b : Bool) (n : ℕ) → is_open m n ≡ b → behind_close w.run m.names n (side_of m) ≡ side_of (turn_of b n).next
  behind_is true n e = ap (λ (x : Bool). if x then side_of (left_own w.run.dialect w.run.opening w.run.made n (alone m.names (side_of m))) else side_of m) e
  behind_is false n e = ap (λ (x : Bool). if x then side_of (left_own w.run.dialect w.run.opening w.run.made n (alone m.names (side_of m))) else side_of m) e

  abbrev Marks : Scheduler E → Scheduler E → ℕ → Type 0
  Marks old new n = (k : ℕ) → IsSession k → has new.closed k ≡ ((k == n) || has old.closed k)

  marked_is : (s new : Scheduler E) (n : ℕ) → IsBeside s m → Marks s new n → (k : ℕ) → IsSession k → has new.closed k ≡ ((n == k) || is_closed m k)
  marked_is s new n b marks k is = marks k is ∙ ap (λ (x : Bool). (k == n) || x) (b.closed k is) ∙ flipped k n (is_closed m k)

  beside_closed : (b : Bool) (s new : Scheduler E) (n : ℕ) → IsBeside s m → new ≡ record s { again = b || s.again; closed = new.closed } → Marks s new n → IsBeside new (turn_of b n).next
  beside_closed true s new n b same marks = subst (λ (x : Scheduler E). IsBeside x (turn_of true n).next) (sym same) (record {
    names = b.names;
    few = b.few;
    settings = b.settings;
    seen = b.seen;
    pass = b.pass;
    again = refl;
    queue = b.queue;
    lanes = b.lanes;
    closed = marked_is s new n b marks;
    unread = b.unread;
    of_seen = b.of_seen;
    of_pass = b.of_pass;
  })
  beside_closed false s new n b same marks = subst (λ (x : Scheduler E). IsBeside x (turn_of false n).next) (sym same) (record {
    names = b.names;
    few = b.few;
    settings = b.settings;
    seen = b.seen;
    pass = b.pass;
    again = b.again;
    queue = b.queue;
    lanes = b.lanes;
    closed = marked_is s new n b marks;
    unread = b.unread;
    of_seen = b.of_seen;
    of_pass = b.of_pass;
  })

  -- another engine and other texts change nothing beside it
  beside_same : (s k : Scheduler E) (e : E) → k ≡ record s { engine = e; text = k.text } → IsBeside s m → IsBeside k m
  beside_same s k e same b = subst (λ (x : Scheduler E). IsBeside x m) (sym same) (record {
    names = b.names;
    few = b.few;
    settings = b.settings;
    seen = b.seen;
    pass = b.pass;
    again = b.again;
    queue = b.queue;
    lanes = b.lanes;
    closed = b.closed;
    unread = b.unread;
    of_seen = b.of_seen;
    of_pass = b.of_pass;
  })

  lines_are : (b : Bool) (n : ℕ) (names : List Text) → names ≡ m.names → (if b then printed (EndOf (name_in names n) ∷ []) else []) ≡ printed (turn_of b n).lines
  lines_are true n names e = ap (λ (l : List Text). printed (EndOf (name_in l n) ∷ [])) e
  lines_are false n names e = refl

  commits_are : (b : Bool) (n : ℕ) → (turn_of b n).next.history.commits ≡ m.history.commits
  commits_are true n = refl
  commits_are false n = refl

  pub closed_is : (s middle new : Scheduler E) (e : E) (n : ℕ) (was_open : Bool) (x y : Gathered) → IsMachine g s w m → IsClosed (g.stands e) w s.names n (side_of m) was_open
      → middle ≡ record s { engine = e; text = middle.text } → new ≡ record middle { again = was_open || middle.again; closed = new.closed } → Marks middle new n
      → y.told ≡ x.told ++ (if was_open then printed (EndOf (name_in s.names n) ∷ []) else []) → y.made ≡ x.made → IsTurned g w m (closed w n m) new x y
  closed_is s middle new e n was_open x y is shut first second marks told made =
      let o : is_open m n ≡ was_open = sym shut.open_ in
      let k : behind_close w.run s.names n (side_of m) ≡ side_of (turn_of was_open n).next = ap (λ (l : List Text). behind_close w.run l n (side_of m)) is.beside.names ∙ behind_is was_open n o in
      let engine_is : new.engine ≡ e = ap (λ (z : Scheduler E). z.engine) second ∙ ap (λ (z : Scheduler E). z.engine) first in
      subst (λ (b : Bool). IsTurned g w m (turn_of b n) new x y) (sym o) (record {
        gathers = record {
          told = told ∙ ap (λ (l : List ℕ). x.told ++ l) (lines_are was_open n s.names is.beside.names);
          made = made ∙ sym (append-nil x.made) ∙ ap (λ (l : List (List ℕ)). x.made ++ l) (sym (texts_added w m.history.commits [] (turn_of was_open n).next.history.commits (commits_are was_open n ∙ sym (append-nil m.history.commits))));
          more = [];
          commits = commits_are was_open n ∙ sym (append-nil m.history.commits);
        };
        stands = record {
          engine = subst (λ (z : E). g.stands z w (side_of (turn_of was_open n).next)) (sym engine_is) (subst (λ (z : Side). g.stands e w z) k shut.stands);
          beside = beside_closed was_open middle new n (beside_same s middle e first is.beside) second marks;
        };
      })
