-- How much is left to do is what is left of the machine.
use Rattle.std.proofs.Common.{◌≡◌, ℕ, ◌+◌, ◌*◌, Bool, List, length, sym, ap, ap₂, ◌∙◌, arith}
use Rattle.std.specs.Prelude.{filter, not}
use Rattle.std.proofs.lemmas.List.{length-map}
use Rattle.hs_claims.specs.Blockers.{has}
use Rattle.hs_queue.specs.Entries.{entry_of}
use Rattle.hs_queue.specs.Lanes.{entry_in}
use Rattle.hs_queue.specs.Queues.{IsQueue, count_of}
use Rattle.hs_queue.specs.declared.backlogs.Backlogs.{Backlogs}
use Rattle.hs_turns.specs.Machine.{Machine}
use Rattle.hs_turns.specs.Turns.{flag, is_closed, unclosed, weight}
use Rattle.hs_turns.specs.Waiting.{Entry, ascending}
use Rattle.hs_scheduler.specs.Standing.{IsBeside, unclosed_in, weight_in}
use Rattle.hs_scheduler.specs.declared.scheduler.Scheduler.{Scheduler}
use Rattle.hs_scheduler.proofs.Finding.{same_filter}

queue_count : (b : Backlogs) (queue : List Entry) → IsQueue b queue → count_of b ≡ length queue
queue_count b queue q = q.lanes.count ∙ sym (length-map q.tickets entry_in) ∙ ap length q.entries

-- the weight of numbers
abbrev weighed : ℕ → ℕ → ℕ → ℕ → ℕ → ℕ → ℕ
weighed unread queue seen pass unclosed again = (unread + queue + (seen + pass) + 1) * (7 * unread + 4 * queue + 2 * (seen + pass) + 2 * unclosed + again) + pass

-- where nothing is unread
bare : (queue seen pass unclosed again : ℕ) → (queue + (seen + pass) + 1) * (4 * queue + 2 * (seen + pass) + 2 * unclosed + again) + pass ≡ weighed 0 queue seen pass unclosed again
bare queue seen pass unclosed again =
    let a : queue + (seen + pass) + 1 ≡ 0 + queue + (seen + pass) + 1 = omega arith in
    let b : 4 * queue + 2 * (seen + pass) + 2 * unclosed + again ≡ 7 * 0 + 4 * queue + 2 * (seen + pass) + 2 * unclosed + again = omega arith in
    ap₂ (λ (x y : ℕ). x * y + pass) a b

module _ {E : Type 0} (s : Scheduler E) (m : Machine) (b : IsBeside s m) where
  unclosed_is : unclosed_in s ≡ unclosed m
  unclosed_is =
      ap (λ n. length (filter (λ (k : ℕ). not (has s.closed k)) (ascending 1 (length n)))) b.names
      ∙ ap length (same_filter (λ (k : ℕ). not (has s.closed k)) (λ (k : ℕ). not (is_closed m k)) (length m.names) 1
      (λ k low high. ap not (b.closed k (low, omega (arith, high, b.few)))))

  pub weight_is : weight_in s ≡ weight m
  weight_is =
      let queue : count_of s.queue ≡ length m.queue = queue_count s.queue m.queue b.queue in
      let seen : length s.seen ≡ length m.seen = ap length b.seen in
      let pass : length s.pass.items ≡ length m.pass = sym (length-map s.pass.items entry_of) ∙ ap length b.pass in
      let none : length m.unread ≡ 0 = ap length b.unread in
      bare (count_of s.queue) (length s.seen) (length s.pass.items) (unclosed_in s) (flag s.again)
      ∙ ap (λ (n : ℕ). weighed 0 n (length s.seen) (length s.pass.items) (unclosed_in s) (flag s.again)) queue
      ∙ ap (λ (n : ℕ). weighed 0 (length m.queue) n (length s.pass.items) (unclosed_in s) (flag s.again)) seen
      ∙ ap (λ (n : ℕ). weighed 0 (length m.queue) (length m.seen) n (unclosed_in s) (flag s.again)) pass
      ∙ ap (λ (n : ℕ). weighed 0 (length m.queue) (length m.seen) (length m.pass) n (flag s.again)) unclosed_is
      ∙ ap (λ (x : Bool). weighed 0 (length m.queue) (length m.seen) (length m.pass) (unclosed m) (flag x)) b.again
      ∙ ap (λ (n : ℕ). weighed n (length m.queue) (length m.seen) (length m.pass) (unclosed m) (flag m.again)) (sym none)
