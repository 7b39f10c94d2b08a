use Rattle.std.proofs.Common.{refl}
use Rattle.hs_host.proofs.Passing.{since_none}
use Rattle.hs_run.proofs.Handing.{hands_none}
use Rattle.hs_run.proofs.outgoing.Outgoing.hand_over_when_large.Goals as goal

pub returns-then-not-is_full : goal.returns-then-not-is_full
returns-then-not-is_full g c = record { short = λ is. absurd (cc); hands = hands_none g.H.Source g.H.Host c.args.self.now c.args.host.now c.requires.serving; unasked = λ told. since_none _ (g.H.Host.history c.args.host.now); unread = refl }
