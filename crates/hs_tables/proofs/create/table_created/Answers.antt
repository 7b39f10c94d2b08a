use Rattle.std.proofs.Common.{◌++◌, is_some, length, ap, ◌∙◌}
use Rattle.std.specs.Option.{option_map}
use Rattle.hs_elements.specs.Faults.{exists_at, where_so}
use Rattle.hs_outlines.specs.Limits.{beyond}
use Rattle.hs_plan.specs.declared.definition.Definition.TheVariants as d
use Rattle.hs_plan.specs.declared.fault.Which.TheVariants as which
use Rattle.hs_schema.specs.Catalogue.{named, number_of}
use Rattle.hs_typed.specs.Faults.{noted}
use Rattle.hs_tables.proofs.Adding.{noted_on}
use Rattle.hs_tables.specs.Definitions.{table_added}
use Rattle.hs_tables.proofs.create.table_created.Goals as goal

pub returns : goal.returns
returns g c =
    let things = c.args.catalog.now in
    let t = c.args.c.now in
    let old = c.args.faults.now in
    let found = c.in_ok-made.ensures.constraints in
    let its = found.1 in
    let columns = c.in_ok-made.ensures.columns in
    let name = c.in_ok-name.ensures ∙ c.as_str-text.ensures in
    let taken = where_so (is_some (number_of things t.name.name)) (exists_at t.name) in
    let tables = beyond t.name.at which.Tables (length (named things)) 1 in
    let one = c.note_where_taken.new.faults in
    let two = c.note_beyond.new.faults in (
      found.0,
      (
        its.named,
        c.table_of.ensures ∙ (λ i. option_map (d.CreateTable t.storage (name i) (columns i)) (its.part i)),
        noted_on old two c.table_added.new.faults (taken ++ tables) (table_added things t found.0).faults
            (noted_on old one two taken tables
            (c.in_ok-note_where_taken.ensures ∙ ap (λ b. noted old (where_so b (exists_at t.name))) (c.is_table-taken.ensures ∙ ap (λ n. is_some (number_of things n)) c.as_str-text.ensures))
            (c.note_beyond.ensures ∙ ap (λ n. noted one (beyond t.name.at which.Tables n 1)) c.count_tables.ensures))
            its.noted,
      ),
    )
