use Rattle.std.proofs.Common.{ap, ◌∙◌}
use Rattle.std.specs.Option.{option_map}
use Rattle.hs_outlines.specs.Columns.{column_of}
use Rattle.hs_plan.specs.declared.definition.Definition.TheVariants as d
use Rattle.hs_tables.proofs.alter.column_added.Goals as goal

pub returns : goal.returns
returns g c =
    let t = c.args.t.now in
    let column = column_of c.args.c.now in
    let found = c.in_ok-made.ensures.constraints in
    let its = found.1 in
    let name = c.in_ok-table.ensures ∙ c.as_str.ensures in (
      found.0,
      (
        its.named,
        c.with_column.ensures t.columns column c.in_ok-made.ensures.columns ∙ (λ i. option_map (d.AddColumn (name i) column) (its.part i)),
        its.noted,
      ),
    )
