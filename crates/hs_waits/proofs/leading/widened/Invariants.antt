use Rattle.std.proofs.Common.{◌≡◌, ℕ, ◌-◌, ◌<◌, ◌≤◌, ◌||◌, get_or}
use Rattle.hs_claims.specs.Blockers.{is_set}
use Rattle.hs_claims.specs.Session.{IsSession}
use Rattle.hs_waits.specs.Meeting.{meets}
use Rattle.hs_waits.proofs.leading.widened.Given as goal

abbrev pub invariant-loop-s : goal.invariant-loop-s
invariant-loop-s l = record {
  before : (a : ℕ) → IsSession a → a < l.s → is_set l.wide a ≡ (is_set l.set a || meets (get_or l.waits (a - 1) 0) l.set);
  later : (a : ℕ) → IsSession a → l.s ≤ a → is_set l.wide a ≡ is_set l.set a;
  greater : l.set ≤ l.wide;
}
