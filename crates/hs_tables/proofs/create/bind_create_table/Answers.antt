use Rattle.std.proofs.Common.{subst, ap, ◌∙◌}
use Rattle.hs_meaning.specs.Statements.{IsAnswer}
use Rattle.hs_typed.specs.Faults.{noted}
use Rattle.hs_tables.specs.Definitions.{table_created}
use Rattle.hs_tables.proofs.create.bind_create_table.Goals as goal

pub returns : goal.returns
returns g c = λ other.
    let found = c.in_ok-definition.ensures in
    let m = table_created c.args.catalog.now c.args.c.now found.0 in
    (found.0, (found.1.0, subst (λ p. IsAnswer m.faults p c.answer.result) found.1.1 (c.answer.ensures m.faults (found.1.2 ∙ ap (λ old. noted old m.faults) c.new-faults.ensures))))
