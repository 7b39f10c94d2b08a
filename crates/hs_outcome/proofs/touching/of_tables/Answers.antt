use Rattle.std.proofs.Common.{◌≡◌, List, IfOk, subst}
use Rattle.hs_plan.specs.declared.change.Change.{Change}
use Rattle.hs_language.specs.Outcomes.{of_changes}
use Rattle.hs_outcome.specs.Same.{TellTheSame}
use Rattle.hs_outcome.proofs.Finishing.{exact_answer, same_answer}
use Rattle.hs_outcome.proofs.touching.of_tables.Goals as goal

pub returns-clause-same : goal.returns-clause-same
returns-clause-same g c = λ r tells db things rows.
    let e = c.footprint.ensures in
    subst (λ (changes : List Change). IfOk c.footprint.result (λ foot. TellTheSame foot (of_changes r db c.args.plan.now changes))) c.new-none.ensures
    (same_answer r tells db c.args.cat.now (g.B.RowsBefore.maps c.args.before.now) things rows c.args.plan.now c.new-none.result c.footprint.result e.reads e.writes e.rows e.keys e.parents)

pub returns-clause-exact : goal.returns-clause-exact
returns-clause-exact g c = λ r tells lists db things rows.
    let e = c.footprint.ensures in
    subst (λ (changes : List Change). IfOk c.footprint.result (λ foot. foot ≡ of_changes r db c.args.plan.now changes)) c.new-none.ensures
    (exact_answer r tells db c.args.cat.now (g.B.RowsBefore.maps c.args.before.now) things rows c.args.plan.now c.new-none.result c.footprint.result lists e.ascending e.reads e.writes e.rows e.keys e.parents)
