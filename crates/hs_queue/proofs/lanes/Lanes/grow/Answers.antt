use Rattle.std.proofs.Common.{List, [], length, sym, subst, ap, arith}
use Rattle.hs_queue.specs.Lanes.{Grows, Queued}
use Rattle.hs_queue.proofs.Lists.{grows_on, length_push}
use Rattle.hs_queue.proofs.lanes.Lanes.grow.Goals as goal

pub loop-alloc-preserved : goal.loop-alloc-preserved
loop-alloc-preserved c = record {
  grows = subst (λ (l : List (List Queued)). Grows c.args.self.now l) (sym c.in_ok-add.ensures.ok) (grows_on c.args.self.now c.loop-alloc.self c.loop-alloc.invariant.grows);
  few = λ n old len. omega (arith, len, ap (λ (l : List (List Queued)). length l) c.in_ok-add.ensures.ok, length_push c.loop-alloc.self [], c.len.ensures.len, c.loop-alloc-test.true);
}
