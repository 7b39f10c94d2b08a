-- How the turns of a scheduler go on with what is ahead of it.
use Rattle.std.proofs.Common.{◌≡◌, ℕ, ◌<◌, true, false, List, [], ◌∷◌, ◌++◌, map, refl, sym, ap, ◌∙◌, subst, append-nil}
use Rattle.std.specs.Prelude.{Option, None, Some}
use Rattle.hs_entries.specs.declared.item.Item.{Item}
use Rattle.hs_futures.specs.Futures.{Gathers, attempts, ends, future_of, over, takes, turns}
use Rattle.hs_futures.proofs.Ahead.{turns_lower}
use Rattle.hs_futures.proofs.Onward.{stirs_again, stirs_pass, stirs_queue}
use Rattle.hs_futures.proofs.Texts.{texts_added}
use Rattle.hs_futures.proofs.Steps.{closes_on, none_closing, steps_on, takes_on}
use Rattle.hs_queue.specs.Entries.{entry_of}
use Rattle.hs_run.specs.Future.{ClosesOn, Future, StepsOn, TakesOn}
use Rattle.hs_run.specs.declared.gathered.Gathered.{Gathered}
use Rattle.hs_seams.specs.World.{World}
use Rattle.hs_seams.specs.declared.engine.Engine as engine
use Rattle.hs_turns.specs.Machine.{Machine}
use Rattle.hs_turns.specs.Turns.{Turned, closes_next, closing, quietly, ready_among, weight}
use Rattle.hs_turns.specs.Waiting.{Entry}
use Rattle.hs_scheduler.specs.Resting.{rests_is}
use Rattle.hs_scheduler.specs.Standing.{HasAhead, IsBeside, IsMachine, IsResting, weight_in}
use Rattle.hs_scheduler.specs.Turned.{IsEnded, IsStirred, IsTurned}
use Rattle.hs_scheduler.specs.declared.scheduler.Scheduler.{Scheduler}
use Rattle.hs_scheduler.proofs.Weighing.{weight_is}

bare : (n : Machine) → n.unread ≡ [] → over [] n ≡ n
bare n none = ap (λ (items : List Item). over items n) (sym none)

module _ {E : Type 0} (g : engine.Ghosts E) (w : World) (m : Machine) where
  -- ---- what is ahead of it

  pub ahead_is : (s : Scheduler E) → IsMachine g s w m → HasAhead g s (future_of w m)
  ahead_is s is = (w, (m, (is, refl)))

  pub steps : (new : Scheduler E) (old_gathered gathered : Gathered) (f : Future) → IsStirred g w m new old_gathered gathered → f ≡ future_of w m → StepsOn (HasAhead g new) f old_gathered gathered
  steps new old_gathered gathered f is at =
      subst (λ (x : Future). StepsOn (HasAhead g new) x old_gathered gathered) (sym at)
      (steps_on w (HasAhead g new) m is.turn old_gathered gathered is.turned.gathers (w, (is.turn.next, (is.turned.stands, refl))) is.stirs)

  pub taken : (s new : Scheduler E) (item : Item) (old_gathered gathered : Gathered) (f : Future) → IsBeside s m → IsResting s → IsTurned g w m (takes w item m) new old_gathered gathered → f ≡ future_of w m
      → TakesOn (HasAhead g new) f item old_gathered gathered
  taken s new item old_gathered gathered f b r is at =
      subst (λ (x : Future). TakesOn (HasAhead g new) x item old_gathered gathered) (sym at)
      (takes_on w (HasAhead g new) m (takes w item m) old_gathered gathered is.gathers (w, ((takes w item m).next, (is.stands, refl))) item (rests_is w m s b r) refl)

  pub closed : (s new : Scheduler E) (old_gathered gathered : Gathered) (f : Future) → IsBeside s m → IsResting s → IsEnded g w m new old_gathered gathered → f ≡ future_of w m → ClosesOn (HasAhead g new) f old_gathered gathered
  closed s new old_gathered gathered f b r is at =
      subst (λ (x : Future). ClosesOn (HasAhead g new) x old_gathered gathered) (sym at)
      (closes_on w (HasAhead g new) m is.turn old_gathered gathered is.turned.gathers (w, (is.turn.next, (is.turned.stands, refl))) (rests_is w m s b r) b.unread is.turned.stands.beside.unread is.is)

  ends_none : closes_next m ≡ None → m.unread ≡ [] → ends w (over [] m) ≡ None
  unfolding ends
  ends_none none unread = ap (λ (r : Option ℕ). closing w.run.dialect w.run.opening w.run.made r (over [] m)) none

  pub none_closes : (s : Scheduler E) (f : Future) → IsBeside s m → IsResting s → closes_next m ≡ None → f ≡ future_of w m → f.closing [] ≡ []
  none_closes s f b r none at = ap (λ (x : Future). x.closing []) at ∙ none_closing w m (rests_is w m s b r) (ends_none none b.unread)

  -- ---- less is left to do

  lowered : (s new : Scheduler E) (t : Turned) → IsBeside s m → IsBeside new t.next → turns w m ≡ Some t → weight_in new < weight_in s
  lowered s new t b k is = subst (λ (x : ℕ). x < weight_in s) (sym (weight_is new t.next k)) (subst (λ (x : ℕ). weight t.next < x) (sym (weight_is s m b)) (turns_lower w m t is))

  pub stirred_lowers : (s new : Scheduler E) (old_gathered gathered : Gathered) → IsBeside s m → IsStirred g w m new old_gathered gathered → weight_in new < weight_in s
  stirred_lowers s new old_gathered gathered b is =
      lowered s new is.turn b is.turned.stands.beside
      (sym (ap (turns w) (bare m b.unread)) ∙ is.stirs.is [] ∙ ap (λ (n : Machine). Some (record { lines = is.turn.lines; next = n })) (bare is.turn.next is.turned.stands.beside.unread))

  pub ended_lowers : (s new : Scheduler E) (old_gathered gathered : Gathered) → IsBeside s m → IsResting s → IsEnded g w m new old_gathered gathered → weight_in new < weight_in s
  ended_lowers s new old_gathered gathered b r is =
      lowered s new is.turn b is.turned.stands.beside
      (sym (ap (turns w) (bare m b.unread)) ∙ (rests_is w m s b r).ended ∙ ap (ends w) (bare m b.unread) ∙ is.is)

  -- ---- turns that need no more of the input

  pub retried : (new : Scheduler E) (entry : Entry) (rest : List Entry) (old_gathered gathered : Gathered) → m.pass ≡ entry ∷ rest
      → IsTurned g w (record m { pass = rest }) (attempts w false entry (record m { pass = rest })) new old_gathered gathered → IsStirred g w m new old_gathered gathered
  retried new entry rest old_gathered gathered first is = record {
    turn = attempts w false entry (record m { pass = rest });
    stirs = stirs_pass w m entry rest first;
    turned = record { gathers = record { told = is.gathers.told; made = is.gathers.made; more = is.gathers.more; commits = is.gathers.commits }; stands = is.stands };
  }

  pub begun : (new : Scheduler E) (entry : Entry) (rest : List Entry) (old_gathered gathered : Gathered) → m.pass ≡ [] → m.again ≡ false → ready_among m.seen m.queue ≡ Some (entry, rest)
      → IsTurned g w (record m { queue = rest }) (attempts w true entry (record m { queue = rest })) new old_gathered gathered → IsStirred g w m new old_gathered gathered
  begun new entry rest old_gathered gathered none quiet first is = record {
    turn = attempts w true entry (record m { queue = rest });
    stirs = stirs_queue w m entry rest none quiet first;
    turned = record { gathers = record { told = is.gathers.told; made = is.gathers.made; more = is.gathers.more; commits = is.gathers.commits }; stands = is.stands };
  }

  -- a turn that tells nothing and makes nothing
  pub quiet : (n : Machine) (x : Gathered) → n.history.commits ≡ m.history.commits → Gathers w m (quietly n) x x
  quiet n x same = record {
    told = sym (append-nil x.told);
    made = sym (append-nil x.made) ∙ ap (λ (l : List (List ℕ)). x.made ++ l) (sym (texts_added w m.history.commits [] n.history.commits (same ∙ sym (append-nil m.history.commits))));
    more = [];
    commits = same ∙ sym (append-nil m.history.commits);
  }

  pub restarted : (s new : Scheduler E) (x : Gathered) → IsMachine g s w m → s.pass.items ≡ [] → s.again ≡ true → new.seen ≡ [] → map entry_of new.pass.items ≡ s.seen
      → new ≡ record s { seen = new.seen; pass = new.pass; again = false } → IsStirred g w m new x x
  restarted s new x is none due seen pass same =
      let n : Machine = record m { seen = []; pass = m.seen; again = false } in
      let b : IsBeside s m = is.beside in
      record {
        turn = quietly n;
        stirs = stirs_again w m (sym b.pass ∙ ap (map entry_of) none) (sym b.again ∙ due);
        turned = record {
          gathers = quiet n x refl;
          stands = subst (λ (k : Scheduler E). IsMachine g k w n) (sym same) (record {
            engine = is.engine;
            beside = record {
              names = b.names;
              few = b.few;
              settings = b.settings;
              seen = seen;
              pass = pass ∙ b.seen;
              again = refl;
              queue = b.queue;
              lanes = b.lanes;
              closed = b.closed;
              unread = b.unread;
              of_seen = tt;
              of_pass = b.of_seen;
            };
          });
        };
      }
