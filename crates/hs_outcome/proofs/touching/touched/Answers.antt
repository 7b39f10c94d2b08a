use Rattle.std.proofs.Common.{◌≡◌, IfOk, sym, subst}
use Rattle.hs_outcome.specs.declared.given.Given.{Given}
use Rattle.hs_outcome.specs.Given.{foot_of}
use Rattle.hs_outcome.specs.Same.{TellTheSame}
use Rattle.hs_outcome.proofs.Finishing.{exact_answer, same_answer}
use Rattle.hs_outcome.proofs.touching.touched.Goals as goal

pub returns-in-Changes-clause-same : goal.returns-in-Changes-clause-same
returns-in-Changes-clause-same g c = λ r tells db things rows.
    let e = c.footprint.ensures in
    subst (λ (given : Given). IfOk c.footprint.result (λ foot. TellTheSame foot (foot_of r db c.args.plan.now given))) (sym c.in-Changes.is)
    (same_answer r tells db c.args.cat.now (g.B.RowsBefore.maps c.args.before.now) things rows c.args.plan.now c.in-Changes.changes c.footprint.result e.reads e.writes e.rows e.keys e.parents)

pub returns-in-Changes-clause-exact : goal.returns-in-Changes-clause-exact
returns-in-Changes-clause-exact g c = λ r tells lists db things rows.
    let e = c.footprint.ensures in
    subst (λ (given : Given). IfOk c.footprint.result (λ foot. foot ≡ foot_of r db c.args.plan.now given)) (sym c.in-Changes.is)
    (exact_answer r tells db c.args.cat.now (g.B.RowsBefore.maps c.args.before.now) things rows c.args.plan.now c.in-Changes.changes c.footprint.result lists e.ascending e.reads e.writes e.rows e.keys e.parents)
