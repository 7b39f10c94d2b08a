use Rattle.std.proofs.Common.{ℕ, List, ap, subst}
use Rattle.hs_host.specs.Files.{Five}
use Rattle.hs_host.specs.Moments.{Since}
use Rattle.hs_host.specs.Used.{Told}
use Rattle.hs_host.proofs.Passing.{since_join}
use Rattle.hs_host.proofs.Used.{told_on, told_back}
use Rattle.hs_slots.specs.Points.{IsSafe, IsCreating}
use Rattle.hs_gate.specs.Rewriting.{IsGroups}
use Rattle.hs_creation.proofs.Unborn.{unborn_safe, unborn_means, settled_unborn, safe_now, on_err}
use Rattle.hs_creation.proofs.Born.{served_first}
use Rattle.hs_creation.proofs.creating.create.Goals as goal
use Rattle.hs_creation.proofs.creating.create.Goals.{After-lay_headers, After-lay_slots, In_ok-lay_slots, After-bear, In_ok-bear}

first : (g : _) (c : After-lay_headers g) → Told g.H.Source g.H.Host c.args.host.now → Since (IsSafe (IsCreating (g.S.Stand.groups c.args.store.now))) (g.H.Host.history c.args.host.now) (g.H.Host.history c.lay_headers.new.host)
first g c told = unborn_safe _ (c.lay_headers.ensures.moments told)

second : (g : _) (c : After-lay_slots g) → Told g.H.Source g.H.Host c.args.host.now → Since (IsSafe (IsCreating (g.S.Stand.groups c.args.store.now))) (g.H.Host.history c.args.host.now) (g.H.Host.history c.lay_slots.new.host)
second g c told = since_join (first g (goal.at.After-lay_slots g c).After-lay_headers told) (unborn_safe _ (c.lay_slots.ensures.moments (told_on c.lay_headers.ensures.uses told)))

third : (g : _) (c : After-bear g) → Told g.H.Source g.H.Host c.args.host.now → Since (IsSafe (IsCreating (g.S.Stand.groups c.args.store.now))) (g.H.Host.history c.args.host.now) (g.H.Host.history c.bear.new.host)
third g c told =
    let later = told_on c.lay_headers.ensures.uses told in
    since_join (second g (goal.at.After-bear g c).After-lay_slots told) (c.bear.ensures.moments (told_on c.lay_slots.ensures.uses later) _ (c.in_ok-lay_slots.ensures.laid later))

-- before it begins
begun : (g : _) (c : After-lay_headers g) → Told g.H.Source g.H.Host c.args.host.now → IsSafe (IsCreating (g.S.Stand.groups c.args.store.now)) (g.H.Host.history c.args.host.now).now
begun g c told files leaves = unborn_means _ files (settled_unborn (g.H.Host.history c.args.host.now).now (g.H.Host.files c.args.host.now) (c.requires.settled told) (c.requires.unborn told) files leaves)

pub bear-requires-clause-laid : goal.bear-requires-clause-laid
bear-requires-clause-laid g c = λ last. (g.S.Stand.groups c.args.store.now, c.in_ok-lay_slots.ensures.laid (told_back c.lay_slots.ensures.uses last))

pub returns-in_err-lay_headers-clause-moments : goal.returns-in_err-lay_headers-clause-moments
returns-in_err-lay_headers-clause-moments g c = first g (goal.at.returns-in_err-lay_headers-clause-moments g c).After-lay_headers

pub returns-in_err-lay_slots-clause-moments : goal.returns-in_err-lay_slots-clause-moments
returns-in_err-lay_slots-clause-moments g c = second g (goal.at.returns-in_err-lay_slots-clause-moments g c).After-lay_slots

pub returns-in_err-bear-clause-moments : goal.returns-in_err-bear-clause-moments
returns-in_err-bear-clause-moments g c = third g (goal.at.returns-in_err-bear-clause-moments g c).After-bear

pub returns-clause-moments : goal.returns-clause-moments
returns-clause-moments g c = third g (goal.at.returns-clause-moments g c).After-bear

-- what stands there after an `Err`
pub returns-in_err-lay_headers-clause-err : goal.returns-in_err-lay_headers-clause-err
returns-in_err-lay_headers-clause-err g c = λ told.
    let at = (goal.at.returns-in_err-lay_headers-clause-err g c).After-lay_headers in
    let now = told_on c.lay_headers.ensures.uses told in
    on_err _ (safe_now (begun g at told) (first g at told) _ (g.met.H.Host.read_may_be_left c.lay_headers.new.host now.tells now.honest))

pub returns-in_err-lay_slots-clause-err : goal.returns-in_err-lay_slots-clause-err
returns-in_err-lay_slots-clause-err g c = λ told.
    let at = goal.at.returns-in_err-lay_slots-clause-err g c in
    let now = told_on c.lay_slots.ensures.uses (told_on c.lay_headers.ensures.uses told) in
    on_err _ (safe_now (begun g at.After-lay_headers told) (second g at.After-lay_slots told) _ (g.met.H.Host.read_may_be_left c.lay_slots.new.host now.tells now.honest))

pub returns-in_err-bear-clause-err : goal.returns-in_err-bear-clause-err
returns-in_err-bear-clause-err g c = λ told.
    let at = goal.at.returns-in_err-bear-clause-err g c in
    let now = told_on c.bear.ensures.uses (told_on c.lay_slots.ensures.uses (told_on c.lay_headers.ensures.uses told)) in
    on_err _ (safe_now (begun g at.After-lay_headers told) (third g at.After-bear told) _ (g.met.H.Host.read_may_be_left c.bear.new.host now.tells now.honest))

-- and after an `Ok`
pub returns-clause-created : goal.returns-clause-created
returns-clause-created g c = λ told.
    let later = told_on c.lay_headers.ensures.uses told in
    c.in_ok-bear.ensures.created (told_on c.lay_slots.ensures.uses later) _ (c.in_ok-lay_slots.ensures.laid later)

pub returns-clause-served : goal.returns-clause-served
returns-clause-served g c = λ told.
    let later = told_on c.lay_headers.ensures.uses told in
    let last = told_on c.lay_slots.ensures.uses later in
    let laid = c.in_ok-lay_slots.ensures.laid later in
    let payloads = g.S.Stand.groups c.args.store.now in
    served_first payloads _ _ (subst (IsGroups 1 payloads) (ap (λ (f : Five (List ℕ)). f.script0) laid.files_are) laid.groups) (c.in_ok-bear.ensures.created last payloads laid) (c.in_ok-bear.ensures.settled last)
