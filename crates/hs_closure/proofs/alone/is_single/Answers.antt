use Rattle.std.proofs.Common.{List, sym, ap, ◌∙◌}
use Rattle.std.specs.List.{list_any}
use Rattle.hs_plan.specs.declared.definition.Constraint.{Constraint}
use Rattle.hs_closure.specs.Alone.{has_foreign_key}
use Rattle.hs_closure.proofs.Inserts.{no_links, none_near}
use Rattle.hs_closure.proofs.alone.is_single.Goals as goal

pub returns-then-not-has_foreign_key : goal.returns-then-not-has_foreign_key
returns-then-not-has_foreign_key c = λ empty.
    none_near c.args.cat.now c.args.table c.in-Some.found.now (sym c.in-Some.ensures)
    (ap (λ (cs : List Constraint). list_any has_foreign_key cs) (sym c.as_slice.ensures) ∙ sym c.has_foreign_key.ensures ∙ c.if-not-has_foreign_key.true)
    (sym c.links.ensures ∙ no_links c.links.result.now c.is_empty.result c.is_empty.ensures empty)
