use Rattle.std.proofs.Common.{List, Option, subst}
use Rattle.hs_changes.specs.Settings.{set_row}
use Rattle.hs_values.specs.declared.value.Value.{Value}
use Rattle.hs_seated.specs.Rows.{AreRows}
use Rattle.hs_seated.proofs.seated.put_back.Goals as goal

pub returns-clause-rows : goal.returns-clause-rows
returns-clause-rows c = λ maps rows.
    subst (λ (old : Option (List Value)). AreRows (set_row maps (record { table = c.args.step.now.table.0; row = c.args.step.now.row.0; values = old })) c.set.new.self) c.in_ok-old.ensures
    (c.in_ok-set.ensures.rows maps rows)
