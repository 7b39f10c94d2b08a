use Rattle.std.proofs.Common.{◌≡◌, List, ℕ, ◌++◌, OnOk, refl, ap, subst, ◌∙◌}
use Rattle.hs_host.specs.Moments.{Since}
use Rattle.hs_host.proofs.Passing.{since_none}
use Rattle.hs_run.specs.Holding.{IsHandedOver, WritesPrefix}
use Rattle.hs_run.specs.Lines.{opened_line}
use Rattle.hs_run.proofs.taking.open.Goals as goal
use Rattle.hs_run.proofs.taking.open.Goals.{In_ok-push_opened}
use Rattle.hs_run.proofs.Ends.{opens_by, opens_failing}

pub returns-in_err-push_opened-clause-opens : goal.returns-in_err-push_opened-clause-opens
returns-in_err-push_opened-clause-opens g c = opens_failing g.H.Source g.H.Host c.args.commits c.args.outgoing.now _ c.args.host.now c.from_residual.result c.from_residual.ensures.1

pub returns-in_err-push_opened-clause-unasked : goal.returns-in_err-push_opened-clause-unasked
returns-in_err-push_opened-clause-unasked g c = λ told. since_none _ (g.H.Host.history c.args.host.now)

-- what is gathered is the first line
line : (g : _) (c : In_ok-push_opened g) → c.push_opened.new.self ≡ opened_line c.args.commits
line g c = c.in_ok-push_opened.ensures.ok ∙ ap (λ (l : List ℕ). l ++ opened_line c.args.commits) c.requires.told

pub returns-clause-opens : goal.returns-clause-opens
returns-clause-opens g c =
    let same = line g (goal.at.returns-clause-opens g c).In_ok-push_opened in
    let old = c.args.host.now in
    let new = c.flush.new.host in
    opens_by g.H.Source g.H.Host c.args.commits c.args.outgoing.now _ old new c.requires.serving (g.met.H.Host.output_now old) refl refl c.flush.ensures.empty c.requires.made c.flush.result c.flush.ensures.ends
    (λ tells. subst (λ (l : List ℕ). OnOk c.flush.result (g.H.Host.written new ≡ g.H.Host.written old ++ l)) same (c.flush.ensures.done tells))
    (λ tells. subst (λ (l : List ℕ). WritesPrefix (g.H.Host.written old) (g.H.Host.written new) l) same (c.flush.ensures.front tells))
    (λ tells. subst (λ (l : List ℕ). Since (IsHandedOver (g.H.Host.history old).now l) (g.H.Host.history old) (g.H.Host.history new)) same (c.flush.ensures.moments tells))
