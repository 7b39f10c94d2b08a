use Rattle.std.proofs.Common.{◌≡◌, ℕ, List, ap, refl, subst}
use Rattle.hs_run.specs.declared.outgoing.Outgoing.{Outgoing}
use Rattle.hs_run.specs.Outgoing.{HandsOn, failing}
use Rattle.hs_run.proofs.Ends.{closes_by, closes_wanting}
use Rattle.hs_run.proofs.Stops.{ok_weaker}
use Rattle.hs_run.proofs.taking.last.Goals as goal

pub returns-in-Err-clause-closes : goal.returns-in-Err-clause-closes
returns-in-Err-clause-closes g c =
    let o = c.args.outgoing.now in
    let same : record { gathered = record { told = c.push_closed.new.self; made = o.gathered.made; session = o.gathered.session }; standing = o.standing; log = o.log } ≡ o =
    ap (λ (l : List ℕ). record { gathered = record { told = l; made = o.gathered.made; session = o.gathered.session }; standing = o.standing; log = o.log }) c.in-Err.ensures.err in
    closes_wanting g.H.Source g.H.Host c.args.commits o c.wanting.new.self c.args.host.now c.wanting.new.host c.wanting.result
    (subst (λ (x : Outgoing). HandsOn g.H.Source g.H.Host x c.args.host.now c.wanting.new.self c.wanting.new.host (failing c.wanting.result)) same c.wanting.ensures.hands)

pub returns-clause-closes : goal.returns-clause-closes
returns-clause-closes g c =
    closes_by g.H.Source g.H.Host c.args.commits c.args.outgoing.now _ c.hand_over.new.self c.args.host.now c.hand_over.new.host c.hand_over.result refl refl c.in_default.ensures.ok c.requires.serving.within
    c.hand_over.ensures.hands c.hand_over.ensures.done (ok_weaker c.hand_over.result (λ none. none.made) c.hand_over.ensures.empty)
