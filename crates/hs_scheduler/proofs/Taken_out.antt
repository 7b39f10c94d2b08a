-- Entries that are taken out of those that wait or are queued.
use Rattle.std.proofs.Common.{◌≡◌, ◌≤◌, ℕ, List, ◌∷◌, ◌++◌, length, map, refl, sym, ap, ◌∙◌, subst}
use Rattle.std.specs.Prelude.{Option, Some, option_to_list}
use Rattle.hs_lines.specs.Names.{IsKnown}
use Rattle.hs_queue.specs.declared.entry.Entry.{Entry as Held}
use Rattle.hs_queue.specs.Entries.{entry_of}
use Rattle.hs_queue.specs.Queues.{IsTaken}
use Rattle.hs_schema.specs.Catalogue.{Text}
use Rattle.hs_seams.specs.World.{World}
use Rattle.hs_seams.specs.declared.engine.Engine as engine
use Rattle.hs_turns.specs.Machine.{Machine}
use Rattle.hs_turns.specs.Turns.{ready_among}
use Rattle.hs_turns.specs.Waiting.{Entry}
use Rattle.hs_scheduler.specs.Standing.{AreOf, IsBeside, IsMachine}
use Rattle.hs_scheduler.specs.declared.scheduler.Scheduler.{Scheduler}

module _ {E : Type 0} (g : engine.Ghosts E) (w : World) (m : Machine) where
  -- the first waiter of the pass is taken out
  pub record Popped (s new : Scheduler E) (e : Held) : Type 0 where
    pub first : m.pass ≡ entry_of e ∷ map entry_of new.pass.items
    pub known : IsKnown s.names e.session.0
    pub stands : IsMachine g new w (record m { pass = map entry_of new.pass.items })

  pub popped : (s new : Scheduler E) (e : Held) (r : Option Held) → IsMachine g s w m → s.pass.items ≡ option_to_list r ++ new.pass.items → r ≡ Some e → new ≡ record s { pass = new.pass } → Popped s new e
  popped s new e r is items found same =
      let b : IsBeside s m = is.beside in
      let first : m.pass ≡ entry_of e ∷ map entry_of new.pass.items = sym b.pass ∙ ap (map entry_of) (items ∙ ap (λ (x : Option Held). option_to_list x ++ new.pass.items) found) in
      let of : AreOf m.names (entry_of e ∷ map entry_of new.pass.items) = subst (λ (l : List Entry). AreOf m.names l) first b.of_pass in
      record {
        first = first;
        known = subst (λ (n : List Text). IsKnown n e.session.0) (sym b.names) of.0;
        stands = subst (λ (k : Scheduler E). IsMachine g k w (record m { pass = map entry_of new.pass.items })) (sym same) (record {
          engine = is.engine;
          beside = record {
            names = b.names;
            few = b.few;
            settings = b.settings;
            seen = b.seen;
            pass = refl;
            again = b.again;
            queue = b.queue;
            lanes = b.lanes;
            closed = b.closed;
            unread = b.unread;
            of_seen = b.of_seen;
            of_pass = of.1;
          };
        });
      }

  -- the first that is ready is taken out of the queue
  pub dequeued : (s new : Scheduler E) (entry : Entry) → IsMachine g s w m → (t : IsTaken s.seen m.queue entry new.queue) → length new.queue.lanes ≡ length s.queue.lanes → new ≡ record s { queue = new.queue } → IsMachine g new w (record m { queue = t.rest })
  dequeued s new entry is t long same =
      let b : IsBeside s m = is.beside in
      subst (λ (k : Scheduler E). IsMachine g k w (record m { queue = t.rest })) (sym same) (record {
        engine = is.engine;
        beside = record {
          names = b.names;
          few = b.few;
          settings = b.settings;
          seen = b.seen;
          pass = b.pass;
          again = b.again;
          queue = t.kept;
          lanes = subst (λ (n : ℕ). n ≤ length m.names) (sym long) b.lanes;
          closed = b.closed;
          unread = b.unread;
          of_seen = b.of_seen;
          of_pass = b.of_pass;
        };
      })

  pub ready : (s : Scheduler E) (left : _) (entry : Entry) → IsBeside s m → (t : IsTaken s.seen m.queue entry left) → ready_among m.seen m.queue ≡ Some (entry, t.rest)
  ready s left entry b t = ap (λ (l : List Entry). ready_among l m.queue) (sym b.seen) ∙ t.is
