use Rattle.std.proofs.Common.{◌≡◌, false, Some, subst, ap, ◌∙◌}
use Rattle.std.specs.Str.{bytes_eq}
use Rattle.hs_schema.specs.Catalogue.{table_named}
use Rattle.hs_meaning.specs.Finding.{Finds}
use Rattle.hs_outlines.specs.ForeignKeys.{reference_to}
use Rattle.hs_outlines.specs.Outline.{seen}
use Rattle.hs_outlines.proofs.Parents.{to_table}
use Rattle.hs_outlines.proofs.foreign.foreign_key.Goals as goal

pub returns-in-Some : goal.returns-in-Some
returns-in-Some c =
    let things = c.args.catalog.now in
    let own = seen c.args.own.now in
    let name = c.args.key.now.parent.name in
    let t = c.in-Some.table.now in
    let other : bytes_eq name own.name ≡ false = cc in
    let found : Some t ≡ table_named things name = c.in-Some.ensures ∙ ap (table_named things) c.as_str-parent.ensures in
    subst (λ z. Finds (reference_to c.args.element own c.args.list.now c.args.key.now z) c.args.faults.now c.reference_to_table.new.faults c.reference_to_table.result) (to_table things own name t other found) c.reference_to_table.ensures
