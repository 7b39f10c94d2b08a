use Rattle.std.proofs.Common.{None, ap, ◌∙◌}
use Rattle.std.specs.Option.{option_map_or}
use Rattle.hs_tables.specs.Definitions.{with_first}
use Rattle.hs_tables.proofs.alter.constraint_added.Goals as goal

pub returns : goal.returns
returns g c =
    let found = c.in_ok-made.ensures.constraints in
    let its = found.1 in
    let name = c.in_ok-table.ensures ∙ c.as_str.ensures in
    (found.0, (its.named, c.with_constraint.ensures ∙ (λ i. option_map_or (with_first (name i)) (its.part i) None), its.noted))
