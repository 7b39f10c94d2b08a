use Rattle.std.proofs.Common.{refl}
use Rattle.hs_queue.specs.Entries.{queued_of}
use Rattle.hs_queue.proofs.Held.{none_of}
use Rattle.hs_queue.proofs.Whole.{first_is_taken, none_is_ready}
use Rattle.hs_queue.proofs.backlogs.Backlogs.take_ready.Goals as goal

pub returns-in_err-at-clause-nothing : goal.returns-in_err-at-clause-nothing
returns-in_err-at-clause-nothing c = none_of c.from_residual.result _ (λ e queue q. none_is_ready c.args.self.now c.args.waiters.now queue q c.in_err-at.ensures)

pub returns-clause-some : goal.returns-clause-some
returns-clause-some c = λ queue q. first_is_taken c.args.self.now (record { lanes = c.pop_at.new.self; next = c.args.self.now.next }) c.args.waiters.now queue c.in_ok-at.at (queued_of c.in_ok-first.first) q c.in_ok-at.ensures c.in_ok-first.ensures.some c.in_ok-first.ensures.own refl
