use Rattle.std.proofs.Common.{List, ℕ, subst}
use Rattle.hs_host.specs.Moments.{Since}
use Rattle.hs_run.specs.Holding.{IsHandedOver, WritesPrefix}
use Rattle.hs_run.proofs.Stops.{disk_handed, disk_short}
use Rattle.hs_run.proofs.outgoing.Outgoing.hand_over_standing.Goals as goal

pub returns-in_default : goal.returns-in_default
returns-in_default g c = record {
  front = λ tells. subst (λ (l : List ℕ). WritesPrefix (g.H.Host.written c.args.host.now) (g.H.Host.written c.flush-handed.new.host) l) c.truncate.ensures (c.flush-handed.ensures.front tells);
  moments = λ tells. subst (λ (l : List ℕ). Since (IsHandedOver (g.H.Host.history c.args.host.now).now l) (g.H.Host.history c.args.host.now) (g.H.Host.history c.flush-handed.new.host)) c.truncate.ensures (c.flush-handed.ensures.moments tells);
  unasked = c.flush-handed.ensures.unasked;
  uses = c.flush-handed.ensures.ends.uses;
  short = λ first. disk_short g.H.Source g.H.Host c.args.stop first c.args.host.now;
  stops = λ first. disk_handed g.H.Source g.H.Host c.args.stop first c.args.host.now c.flush-handed.new.host c.flush-handed.ensures.ends.uses c.in_default.not-NoMemory;
}
