use Rattle.std.proofs.Common.{◌≡◌, None, nat_eq, sym, ap, ◌∙◌}
use Rattle.std.specs.Option.{option_to_list}
use Rattle.hs_schema.specs.Catalogue.{table_named}
use Rattle.indexmap.specs.IndexSet.{insert_all}
use Rattle.hs_closure.specs.Changing as spec
use Rattle.hs_closure.specs.Steps as step
use Rattle.hs_closure.proofs.Named.{unnamed}
use Rattle.hs_closure.proofs.neighbours.add_parent.Goals as goal

pub returns-in-None : goal.returns-in-None
returns-in-None c =
    let things = c.args.cat.now in
    let name = c.in-ForeignKey.key.parent in
    let none : table_named things name ≡ None = ap (table_named things) (sym c.as_str.ensures) ∙ sym c.in-None.ensures in
    sym (ap (λ ts. insert_all nat_eq c.args.set.now (step.numbers ts)) (ap (spec.parent_by things) c.in-ForeignKey.is ∙ ap option_to_list (unnamed things name none)))
