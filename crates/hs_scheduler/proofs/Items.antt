-- What items of the input come to.
use Rattle.std.proofs.Common.{◌≡◌, ◌≤◌, ◌<◌, ◌+◌, ℕ, Bool, true, false, List, [], ◌∷◌, ◌++◌, length, refl, sym, ap, ◌∙◌, subst, arith, append-nil, length-append}
use Rattle.std.specs.Prelude.{Option, None, nat_lt, if◌then◌else◌, codes}
use Rattle.hs_entries.specs.declared.item.Item.TheVariants as item
use Rattle.hs_futures.specs.Futures.{attempts, takes}
use Rattle.hs_lines.specs.Names.{IsKnown}
use Rattle.hs_queue.specs.Queues.{IsQueue}
use Rattle.hs_run.specs.declared.gathered.Gathered.{Gathered}
use Rattle.hs_schema.specs.Catalogue.{Text}
use Rattle.hs_seams.specs.World.{World}
use Rattle.hs_seams.specs.declared.engine.Engine as engine
use Rattle.hs_sessions.specs.Book.{number_from}
use Rattle.hs_sides.specs.Sides.{side_of, with_new}
use Rattle.hs_turns.specs.Dialect.{refused_words}
use Rattle.hs_turns.specs.Lines.{Line, OfItem, Replies, no_session, printed}
use Rattle.hs_turns.specs.Machine.{Machine}
use Rattle.hs_turns.specs.Turns.{Turned, admits, of_session, whole_text}
use Rattle.hs_turns.specs.Waiting.{Entry, is_waiting}
use Rattle.hs_scheduler.specs.Standing.{IsBeside, IsMachine}
use Rattle.hs_scheduler.specs.Turned.{IsTurned, admitted, begun, of_new}
use Rattle.hs_scheduler.specs.declared.scheduler.Scheduler.{Scheduler}
use Rattle.hs_scheduler.proofs.Beside.{of_more}
use Rattle.hs_scheduler.proofs.Onward.{quiet}
use Rattle.hs_futures.proofs.Texts.{texts_added}

module _ {E : Type 0} (g : engine.Ghosts E) (w : World) (m : Machine) where
  -- lines are told, and nothing else is done
  pub told_is : (s new : Scheduler E) (lines : List Line) (x y : Gathered) → IsMachine g s w m → new ≡ record s { text = new.text } → y.told ≡ x.told ++ printed lines → y.made ≡ x.made
      → IsTurned g w m (record { lines = lines; next = m }) new x y
  told_is s new lines x y is same told made = record {
    gathers = record {
      told = told;
      made = made ∙ sym (append-nil x.made) ∙ ap (λ (l : List (List ℕ)). x.made ++ l) (sym (texts_added w m.history.commits [] m.history.commits (sym (append-nil m.history.commits))));
      more = [];
      commits = sym (append-nil m.history.commits);
    };
    stands = subst (λ (k : Scheduler E). IsMachine g k w m) (sym same) (record { engine = is.engine; beside = record { names = is.beside.names; few = is.beside.few; settings = is.beside.settings; seen = is.beside.seen; pass = is.beside.pass; again = is.beside.again; queue = is.beside.queue; lanes = is.beside.lanes; closed = is.beside.closed; unread = is.beside.unread; of_seen = is.beside.of_seen; of_pass = is.beside.of_pass } });
  }

  -- ---- sessions that there are

  -- an entry is queued
  pub queued_is : (s new : Scheduler E) (entry : Entry) (x : Gathered) → IsMachine g s w m → IsKnown m.names entry.session → is_waiting entry.session s.seen ≡ true → new ≡ record s { queue = new.queue }
      → IsQueue new.queue (m.queue ++ entry ∷ []) → ((n : ℕ) → length s.queue.lanes ≤ n → entry.session ≤ n → length new.queue.lanes ≤ n) → IsTurned g w m (admitted w entry m) new x x
  queued_is s new entry x is known waits same queue few =
      let b : IsBeside s m = is.beside in
      let n : Machine = record m { queue = m.queue ++ entry ∷ [] } in
      let e : is_waiting entry.session m.seen ≡ true = ap (is_waiting entry.session) (sym b.seen) ∙ waits in
      subst (λ (t : Turned). IsTurned g w m t new x x) (sym (ap (λ (y : Bool). admits w.run.dialect w.run.opening w.run.made y entry m) e)) (record {
        gathers = quiet g w m n x refl;
        stands = subst (λ (k : Scheduler E). IsMachine g k w n) (sym same) (record {
          engine = is.engine;
          beside = record { names = b.names; few = b.few; settings = b.settings; seen = b.seen; pass = b.pass; again = b.again; queue = queue; lanes = few (length m.names) b.lanes known.1; closed = b.closed; unread = b.unread; of_seen = b.of_seen; of_pass = b.of_pass };
        });
      })

  -- or attempted
  pub admitted_is : (s new : Scheduler E) (entry : Entry) (x y : Gathered) → IsBeside s m → is_waiting entry.session s.seen ≡ false → IsTurned g w m (attempts w true entry m) new x y → IsTurned g w m (admitted w entry m) new x y
  unfolding attempts
  admitted_is s new entry x y b free is =
      let e : is_waiting entry.session m.seen ≡ false = ap (is_waiting entry.session) (sym b.seen) ∙ free in
      subst (λ (t : Turned). IsTurned g w m t new x y) (sym (ap (λ (z : Bool). admits w.run.dialect w.run.opening w.run.made z entry m) e)) is

  -- ---- sessions that there are not

  pub added_is : (s new : Scheduler E) (name : Text) → IsMachine g s w m → length s.names < 64 → new ≡ record s { engine = new.engine; names = s.names ++ name ∷ [] } → g.stands new.engine w (with_new w.run (side_of m)) → IsMachine g new w (begun w name m)
  added_is s new name is few same stands =
      let b : IsBeside s m = is.beside in
      let n : Machine = begun w name m in
      let one : length (m.names ++ name ∷ []) ≡ length m.names + 1 = length-append m.names (name ∷ []) in
      let le : length m.names ≤ length n.names = omega (arith, one) in
      record {
        engine = stands;
        beside = subst (λ (k : Scheduler E). IsBeside k n) (sym same) (record {
          names = ap (λ (l : List Text). l ++ name ∷ []) b.names;
          few = omega (arith, one, few, ap length b.names);
          settings = length-append m.settings _ ∙ ap (λ (k : ℕ). k + 1) b.settings ∙ sym one;
          seen = b.seen;
          pass = b.pass;
          again = b.again;
          queue = b.queue;
          lanes = omega (arith, b.lanes, one);
          closed = b.closed;
          unread = b.unread;
          of_seen = of_more m.names n.names m.seen le b.of_seen;
          of_pass = of_more m.names n.names m.pass le b.of_pass;
        });
      }

  abbrev entry_for : ℕ → Text → Text → Entry
  entry_for number name text = record { number = number; session = length m.names + 1; text = whole_text name text }

  pub new_is : (new : Scheduler E) (number session : ℕ) (name text : Text) (x y : Gathered) → nat_lt (length m.names) 64 ≡ true → session ≡ length m.names + 1
      → IsTurned g w (begun w name m) (attempts w true (record { number = number; session = session; text = whole_text name text }) (begun w name m)) new x y → IsTurned g w m (of_new w number name text m) new x y
  unfolding attempts
  new_is new number session name text x y few at is =
      let n : Machine = begun w name m in
      let k : IsTurned g w n (attempts w true (entry_for number name text) n) new x y = subst (λ (s : ℕ). IsTurned g w n (attempts w true (record { number = number; session = s; text = whole_text name text }) n) new x y) at is in
      let h : IsTurned g w m (attempts w true (entry_for number name text) n) new x y = record { gathers = record { told = k.gathers.told; made = k.gathers.made; more = k.gathers.more; commits = k.gathers.commits }; stands = k.stands } in
      let full : Turned = record { lines = OfItem number name (Replies (refused_words (codes "sessions")) None) ∷ []; next = m } in
      subst (λ (t : Turned). IsTurned g w m t new x y) (sym (ap (λ (b : Bool). if b then attempts w true (entry_for number name text) n else full) few)) h

  pub full_is : (new : Scheduler E) (number : ℕ) (name text : Text) (x y : Gathered) → nat_lt (length m.names) 64 ≡ false
      → IsTurned g w m (record { lines = OfItem number name (Replies (refused_words (codes "sessions")) None) ∷ []; next = m }) new x y → IsTurned g w m (of_new w number name text m) new x y
  unfolding attempts
  full_is new number name text x y full is =
      let n : Machine = begun w name m in
      let told : Turned = record { lines = OfItem number name (Replies (refused_words (codes "sessions")) None) ∷ []; next = m } in
      subst (λ (t : Turned). IsTurned g w m t new x y) (sym (ap (λ (b : Bool). if b then attempts w true (entry_for number name text) n else told) full)) is

  -- ---- items

  pub entry_is : (s new : Scheduler E) (found : Option ℕ) (number : ℕ) (name text : Text) (at : ℕ) (x y : Gathered) → IsBeside s m → number_from 1 name s.names ≡ found → IsTurned g w m (of_session w.run.dialect w.run.opening w.run.made found number name text m) new x y
      → IsTurned g w m (takes w (item.Entry number name text at) m) new x y
  unfolding takes
  entry_is s new found number name text at x y b is turned =
      subst (λ (r : Option ℕ). IsTurned g w m (of_session w.run.dialect w.run.opening w.run.made r number name text m) new x y) (sym is ∙ ap (number_from 1 name) b.names) turned

  pub bad_is : (new : Scheduler E) (number : ℕ) (x y : Gathered) → IsTurned g w m (record { lines = OfItem number no_session (Replies (refused_words (codes "entry")) None) ∷ []; next = m }) new x y → IsTurned g w m (takes w (item.Bad number) m) new x y
  unfolding takes
  bad_is new number x y is = is

  pub long_is : (new : Scheduler E) (number : ℕ) (x y : Gathered) → IsTurned g w m (record { lines = OfItem number no_session (Replies (refused_words (codes "too long")) None) ∷ []; next = m }) new x y → IsTurned g w m (takes w (item.TooLong number) m) new x y
  unfolding takes
  long_is new number x y is = is
