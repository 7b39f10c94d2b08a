use Rattle.std.proofs.lemmas.Grind.{common_steps}
use Rattle.std.proofs.Common.{◌≡◌, ℕ, List, [], ◌++◌, length, take, ap, ◌∙◌, arith, append-nil, length-append}
use Rattle.hs_host.specs.Moments.{Since}
use Rattle.hs_host.proofs.Used.{output_on}
use Rattle.hs_run.specs.Holding.{IsHandedOver}
use Rattle.hs_run.specs.Prompt.{AsksNothing}
use Rattle.hs_run.proofs.Holding.{told_join, handed_printed}
use Rattle.hs_run.proofs.Prompt.{unasked_on, unasked_printed}
use Rattle.hs_run.proofs.flush.write_all.Goals as goal
use Rattle.hs_run.proofs.flush.write_all.Goals.{After-tell}

-- one call more
on : (g : _) (c : After-tell g) → g.H.Source.tells → Since (IsHandedOver (g.H.Host.history c.args.host.now).now c.args.bytes.now) (g.H.Host.history c.args.host.now) (g.H.Host.history c.tell.new.host)
on g c told =
    let i = c.loop-rest.invariant in
    told_join (g.H.Host.written c.args.host.now) (g.H.Host.written c.loop-rest.host) c.loop-rest.rest.now [] c.args.bytes.now
    (g.met.H.Host.output_now c.args.host.now told) (g.met.H.Host.output_now c.loop-rest.host told) (i.moments told)
    (ap (λ (l : List ℕ). g.H.Host.written c.loop-rest.host ++ l) (append-nil c.loop-rest.rest.now) ∙ i.so_far told) (i.grown told) (handed_printed c.loop-rest.rest.now (c.tell.ensures.moments told))

pub returns-in-Err-Fault-clause-moments : goal.returns-in-Err-Fault-clause-moments
returns-in-Err-Fault-clause-moments g c = on g (goal.at.returns-in-Err-Fault-clause-moments g c).After-tell

pub returns-in-Err-NoMemory-clause-moments : goal.returns-in-Err-NoMemory-clause-moments
returns-in-Err-NoMemory-clause-moments g c = on g (goal.at.returns-in-Err-NoMemory-clause-moments g c).After-tell

pub returns-then-count-eq0-clause-moments : goal.returns-then-count-eq0-clause-moments
returns-then-count-eq0-clause-moments g c = on g (goal.at.returns-then-count-eq0-clause-moments g c).After-tell

-- it asks for nothing
silent : (g : _) (c : After-tell g) → AsksNothing g.H.Source g.H.Host c.args.host.now c.tell.new.host
silent g c told = unasked_on (c.loop-rest.invariant.silent told) (unasked_printed (c.tell.ensures.moments told.tells))

pub returns-in-Err-Fault-clause-unasked : goal.returns-in-Err-Fault-clause-unasked
returns-in-Err-Fault-clause-unasked g c = silent g (goal.at.returns-in-Err-Fault-clause-unasked g c).After-tell

pub returns-in-Err-NoMemory-clause-unasked : goal.returns-in-Err-NoMemory-clause-unasked
returns-in-Err-NoMemory-clause-unasked g c = silent g (goal.at.returns-in-Err-NoMemory-clause-unasked g c).After-tell

pub returns-then-count-eq0-clause-unasked : goal.returns-then-count-eq0-clause-unasked
returns-then-count-eq0-clause-unasked g c = silent g (goal.at.returns-then-count-eq0-clause-unasked g c).After-tell

pub loop-rest-preserved : goal.loop-rest-preserved
loop-rest-preserved g c =
    let i = c.loop-rest.invariant in
    let added : g.H.Source.tells → g.H.Host.written c.tell.new.host ≡ g.H.Host.written c.loop-rest.host ++ take c.in-Ok.count c.loop-rest.rest.now = λ told. c.in-Ok.ensures.output told in
    record {
      so_far = λ told. grind (arith, common_steps, i.so_far told, added told);
      grown = λ told. omega (arith, i.grown told, ap length (added told), length-append (g.H.Host.written c.loop-rest.host) (take c.in-Ok.count c.loop-rest.rest.now));
      moments = on g (goal.at.loop-rest-preserved g c).After-tell;
      calm = c.in-Ok.ensures.cause.some (λ zero. absurd (omega (arith, c.if-count-eq0.false, zero))) ∙ i.calm;
      silent = silent g (goal.at.loop-rest-preserved g c).After-tell;
      uses = output_on i.uses c.tell.ensures.uses;
    }
