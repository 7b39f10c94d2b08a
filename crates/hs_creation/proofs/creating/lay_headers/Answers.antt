use Rattle.std.proofs.Common.{◌≡◌, ℕ, List, refl, inr, sym, ◌∙◌, ap, subst, arith, length}
use Rattle.hs_host.specs.Files.{Five}
use Rattle.hs_host.specs.Moments.{Since}
use Rattle.hs_host.specs.Used.{Told}
use Rattle.hs_host.proofs.Passing.{since_join}
use Rattle.hs_host.proofs.Used.{told_on, told_back}
use Rattle.hs_gate.specs.Groups.{is_born, eight_bytes}
use Rattle.hs_anew.proofs.Gates.{on_ok}
use Rattle.hs_slots.specs.Points.{IsUnborn}
use Rattle.hs_creation.specs.declared.creating.TheConstants.{UNBORN}
use Rattle.hs_creation.specs.Creation.{LeavesUnborn, unborn_header}
use Rattle.hs_creation.proofs.Unborn.{header_unborn, log_put, backup_put}
use Rattle.hs_creation.proofs.creating.lay_headers.Goals as goal
use Rattle.hs_creation.proofs.creating.lay_headers.Goals.{After-take_birth, In_ok-take_birth, After-lay, In_ok-lay, After-lay-2}

header_is : UNBORN ≡ unborn_header
unfolding eight_bytes
header_is = refl

first : (g : _) (c : After-lay g) → Told g.H.Source g.H.Host c.args.host.now → Since LeavesUnborn (g.H.Host.history c.args.host.now) (g.H.Host.history c.lay.new.host)
first g c told = since_join (c.take_birth.ensures.moments told) (c.lay.ensures.moments (told_on c.take_birth.ensures.uses told))

-- the log is there
log_there : (g : _) (c : In_ok-lay g) → Told g.H.Source g.H.Host c.args.host.now → IsUnborn (g.H.Host.files c.lay.new.host)
log_there g c told =
    let now = g.H.Host.files c.take_birth.new.host in
    subst IsUnborn (sym (c.in_ok-lay.ensures.files (told_on c.take_birth.ensures.uses told)))
    (log_put now UNBORN (c.in_ok-take_birth.ensures.unborn told) (c.in_ok-take_birth.ensures.taken told) (omega arith) UNBORN (λ none. inr none))

log_is : (g : _) (c : In_ok-lay g) → Told g.H.Source g.H.Host c.args.host.now → (g.H.Host.files c.lay.new.host).log ≡ UNBORN
log_is g c told = ap (λ (f : Five (List ℕ)). f.log) (c.in_ok-lay.ensures.files (told_on c.take_birth.ensures.uses told))

pub lay-requires-clause-unborn : goal.lay-requires-clause-unborn
lay-requires-clause-unborn g c = λ later.
    let told = told_back c.take_birth.ensures.uses later in
    log_put (g.H.Host.files c.take_birth.new.host) UNBORN (c.in_ok-take_birth.ensures.unborn told) (c.in_ok-take_birth.ensures.taken told) (omega arith)

pub lay-requires-2-clause-unborn : goal.lay-requires-2-clause-unborn
lay-requires-2-clause-unborn g c = λ last.
    let at = (goal.at.lay-requires-2-clause-unborn g c).In_ok-lay in
    let told = told_back c.take_birth.ensures.uses (told_back c.lay.ensures.uses last) in
    backup_put (g.H.Host.files c.lay.new.host) UNBORN (log_there g at told) (ap is_born (log_is g at told ∙ header_is) ∙ header_unborn) (omega (arith, ap length (log_is g at told))) (omega arith)

pub returns-in_err-lay-clause-moments : goal.returns-in_err-lay-clause-moments
returns-in_err-lay-clause-moments g c = first g (goal.at.returns-in_err-lay-clause-moments g c).After-lay

pub returns-clause-moments : goal.returns-clause-moments
returns-clause-moments g c = λ told.
    since_join (first g (goal.at.returns-clause-moments g c).After-lay told) (c.lay-2.ensures.moments (told_on c.lay.ensures.uses (told_on c.take_birth.ensures.uses told)))

pub returns-clause-headers : goal.returns-clause-headers
returns-clause-headers g c = λ told.
    let at = (goal.at.returns-clause-headers g c).In_ok-lay in
    on_ok c.lay-2.result (c.lay-2.ensures.files (told_on c.lay.ensures.uses (told_on c.take_birth.ensures.uses told))) (λ is. record {
      log = ap (λ (f : Five (List ℕ)). f.log) is ∙ log_is g at told ∙ header_is;
      backup = ap (λ (f : Five (List ℕ)). f.backup) is ∙ header_is;
    })
