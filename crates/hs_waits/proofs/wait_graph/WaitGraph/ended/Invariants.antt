use Rattle.std.proofs.Common.{◌≡◌, ℕ, ◌<◌, ◌≤◌, ◌==◌, ◌&&◌, not}
use Rattle.hs_claims.specs.Blockers.{has}
use Rattle.hs_claims.specs.Session.{IsSession}
use Rattle.hs_waits.specs.Waits.{waits_of}
use Rattle.hs_waits.proofs.wait_graph.WaitGraph.ended.Given as goal

abbrev pub invariant-loop-i : goal.invariant-loop-i
invariant-loop-i l = record {
  before : (s b : ℕ) → IsSession s → IsSession b → s ≤ l.i → has (waits_of l.self-inside.waits s) b ≡ (not (b == l.session.0) && has (waits_of l.initial.self-inside.waits s) b);
  later : (s : ℕ) → IsSession s → l.i < s → waits_of l.self-inside.waits s ≡ waits_of l.initial.self-inside.waits s;
}
