use Rattle.std.proofs.Common.{length, sym, ◌∙◌, arith}
use Rattle.hs_scheduler.specs.Closing.{closes_in}
use Rattle.hs_scheduler.proofs.Finding.{found_none, found_some}
use Rattle.hs_scheduler.proofs.scheduler.Scheduler.next_to_close.Goals as goal

pub returns-then-is_to_close-clause-first : goal.returns-then-is_to_close-clause-first
returns-then-is_to_close-clause-first g c =
    sym (found_some (closes_in c.args.self.now.seen c.args.self.now.closed) c.loop-s.s (length c.args.self.now.names) 1 c.loop-s.invariant.low (omega (arith, c.loop-s-test.true, c.len.ensures.number)) (sym c.is_to_close.ensures ∙ c.if-is_to_close.true) c.loop-s.invariant.none)

pub returns-clause-first : goal.returns-clause-first
returns-clause-first g c = sym (found_none (closes_in c.args.self.now.seen c.args.self.now.closed) (length c.args.self.now.names) 1 (λ x low high. c.loop-s.invariant.none x low (omega (arith, high, c.loop-s-test.false, c.len.ensures.number))))
