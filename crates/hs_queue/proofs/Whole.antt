-- Queues of whole entries.
use Rattle.std.proofs.Common.{◌≡◌, ℕ, ◌+◌, ◌≤◌, List, [], ◌∷◌, ◌++◌, length, map, refl, sym, ap, ◌∙◌, subst, append_assoc}
use Rattle.std.specs.Prelude.{None, Some}
use Rattle.std.proofs.lemmas.List.{map_push}
use Rattle.hs_turns.specs.Turns.{ready_among}
use Rattle.hs_turns.specs.Waiting.{Entry}
use Rattle.hs_queue.specs.declared.backlogs.Backlogs.{Backlogs}
use Rattle.hs_queue.specs.Earliest.{IsFirst, ready_ticket}
use Rattle.hs_queue.specs.Lanes.{AreLanes, Ascends, IsPopped, IsPushed, Queued, entry_in, ticket_of}
use Rattle.hs_queue.specs.Queues.{IsQueue, IsTaken}
use Rattle.hs_queue.proofs.Lists.{Leaves, is_taken, nothing_ready, pushed}
use Rattle.hs_queue.proofs.Numbers.{front, on}

pub none_queued : (b : Backlogs) → b.lanes ≡ [] → IsQueue b []
none_queued b none = record {
  tickets = [];
  entries = refl;
  lanes = subst (λ (l : List (List Queued)). AreLanes l []) (sym none) (record { each = λ place. refl; known = tt; count = refl });
  ascends = (tt, tt);
}

pub queued : (old new : Backlogs) (queue : List Entry) (q : Queued) → IsQueue old queue → q.ticket ≡ old.next → 1 ≤ q.entry.session → IsPushed old.lanes q new.lanes → new.next ≡ old.next + 1 → IsQueue new (queue ++ q.entry ∷ [])
queued old new queue q is ticket some put next = record {
  tickets = is.tickets ++ q ∷ [];
  entries = map_push entry_in is.tickets q ∙ ap (λ (l : List Entry). l ++ q.entry ∷ []) is.entries;
  lanes = pushed old.lanes new.lanes is.tickets q is.lanes some put;
  ascends =
      let a : Ascends (map ticket_of is.tickets ++ old.next ∷ (old.next + 1) ∷ []) = on (map ticket_of is.tickets) old.next is.ascends in
      let l : map ticket_of is.tickets ++ old.next ∷ (old.next + 1) ∷ [] ≡ map ticket_of (is.tickets ++ q ∷ []) ++ new.next ∷ [] =
      sym (append_assoc (map ticket_of is.tickets) (old.next ∷ []) ((old.next + 1) ∷ []))
      ∙ ap (λ (n : ℕ). (map ticket_of is.tickets ++ n ∷ []) ++ (old.next + 1) ∷ []) (sym ticket)
      ∙ ap (λ (l : List ℕ). l ++ (old.next + 1) ∷ []) (sym (map_push ticket_of is.tickets q))
      ∙ ap (λ (n : ℕ). map ticket_of (is.tickets ++ q ∷ []) ++ n ∷ []) (sym next) in
      subst (λ (l : List ℕ). Ascends l) l a;
}

pub first_is_taken : (old new : Backlogs) (waiters queue : List Entry) (place : ℕ) (q : Queued) → IsQueue old queue → IsFirst (ready_ticket waiters old.lanes) (length old.lanes) (Some place) → IsPopped old.lanes place q new.lanes → q.entry.session ≡ place + 1 → new.next ≡ old.next
    → IsTaken waiters queue q.entry new
first_is_taken old new waiters queue place q is first popped own next =
    let t : Leaves waiters is.tickets q new.lanes = subst (λ (l : List (List Queued)). Leaves waiters is.tickets q l) (sym popped.now) (is_taken waiters is.tickets old.lanes is.lanes place q popped.rest first popped.was own (front (map ticket_of is.tickets) (old.next ∷ []) is.ascends)) in
    record {
      rest = map entry_in t.rest;
      is = ap (ready_among waiters) (sym is.entries) ∙ t.is;
      kept = record {
        tickets = t.rest;
        entries = refl;
        lanes = t.kept;
        ascends = subst (λ (n : ℕ). Ascends (map ticket_of t.rest ++ n ∷ [])) (sym next) (t.ascends (old.next ∷ []) is.ascends);
      };
    }

pub none_is_ready : (b : Backlogs) (waiters queue : List Entry) → IsQueue b queue → IsFirst (ready_ticket waiters b.lanes) (length b.lanes) None → ready_among waiters queue ≡ None
none_is_ready b waiters queue is none = ap (ready_among waiters) (sym is.entries) ∙ nothing_ready waiters is.tickets b.lanes is.lanes none
