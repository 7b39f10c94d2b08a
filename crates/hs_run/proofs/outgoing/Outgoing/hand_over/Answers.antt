use Rattle.std.proofs.Common.{◌≡◌, List, ℕ, ◌++◌, take, OnOk, refl, ap, subst, ◌∙◌}
use Rattle.hs_host.specs.Moments.{Since}
use Rattle.hs_run.specs.Holding.{IsHandedOver, WritesPrefix}
use Rattle.hs_run.specs.declared.stop.Stop.TheVariants.{TooLong}
use Rattle.hs_host.proofs.Used.{told_on}
use Rattle.hs_run.proofs.Handing.{hands_standing, hands_all}
use Rattle.hs_run.proofs.Prompt.{unasked_file, unasked_on}
use Rattle.hs_run.proofs.Stops.{any_ok}
use Rattle.hs_run.proofs.outgoing.Outgoing.hand_over.Goals as goal
use Rattle.hs_run.proofs.outgoing.Outgoing.hand_over.Goals.{In-Err}

-- what stands is what stood before
part : (g : _) (c : In-Err g) → take c.log_made.new.self.standing c.log_made.new.self.gathered.told ≡ take c.args.self.now.standing c.args.self.now.gathered.told
part g c = ap (λ (k : ℕ). take k c.log_made.new.self.gathered.told) c.in-Err.ensures.standing ∙ ap (take c.args.self.now.standing) c.in-Err.ensures.told

pub returns-in-Err-clause-hands : goal.returns-in-Err-clause-hands
returns-in-Err-clause-hands g c =
    let same = part g (goal.at.returns-in-Err-clause-hands g c).In-Err in
    let old = c.log_made.new.host in
    let new = c.hand_over_standing.new.host in
    hands_standing g.H.Source g.H.Host c.args.self.now c.args.host.now old new c.requires.serving (g.met.H.Host.output_now c.args.host.now) (g.met.H.Host.output_now old) c.in-Err.ensures.moves
    c.hand_over_standing.new.self c.hand_over_standing.result
    (λ tells. subst (λ (l : List ℕ). WritesPrefix (g.H.Host.written old) (g.H.Host.written new) l) same (c.hand_over_standing.ensures.front tells))
    (λ tells. subst (λ (l : List ℕ). Since (IsHandedOver (g.H.Host.history old).now l) (g.H.Host.history old) (g.H.Host.history new)) same (c.hand_over_standing.ensures.moments tells))
    c.hand_over_standing.ensures.uses (c.hand_over_standing.ensures.stops c.args.host.now c.in-Err.ensures.stops)

pub returns-in-Err-clause-unasked : goal.returns-in-Err-clause-unasked
returns-in-Err-clause-unasked g c = λ told. unasked_on (unasked_file (c.in-Err.ensures.moves.moments told)) (c.hand_over_standing.ensures.unasked (told_on c.in-Err.ensures.moves.uses told))

pub returns-clause-unasked : goal.returns-clause-unasked
returns-clause-unasked g c = λ told. unasked_on (unasked_file (c.in_default.ensures.moves.moments told)) (c.flush.ensures.unasked (told_on c.in_default.ensures.moves.uses told))

pub returns-in-Err-clause-short : goal.returns-in-Err-clause-short
returns-in-Err-clause-short g c = λ is. let same : c.hand_over_standing.result ≡ TooLong = cc in c.hand_over_standing.ensures.short c.args.host.now c.in-Err.ensures.stops same

pub returns-clause-empty : goal.returns-clause-empty
returns-clause-empty g c = any_ok c.flush.result (record { told = c.flush.ensures.empty; made = c.in_default.ensures.made })

pub returns-clause-hands : goal.returns-clause-hands
returns-clause-hands g c =
    let made = c.in_default.ensures in
    let old = c.log_made.new.host in
    let new = c.flush.new.host in
    hands_all g.H.Source g.H.Host c.args.self.now c.args.host.now old new c.requires.serving (g.met.H.Host.output_now c.args.host.now) (g.met.H.Host.output_now old) made.moves
    c.log_made.new.self.log made.epoch made.log made.texts made.stops c.flush.result c.flush.ensures.ends
    (λ tells. subst (λ (l : List ℕ). Since (IsHandedOver (g.H.Host.history old).now l) (g.H.Host.history old) (g.H.Host.history new)) made.told (c.flush.ensures.moments tells))
    (λ tells. subst (λ (l : List ℕ). WritesPrefix (g.H.Host.written old) (g.H.Host.written new) l) made.told (c.flush.ensures.front tells))
    (λ tells. subst (λ (l : List ℕ). OnOk c.flush.result (g.H.Host.written new ≡ g.H.Host.written old ++ l)) made.told (c.flush.ensures.done tells))
    _ refl refl c.flush.ensures.empty made.made
