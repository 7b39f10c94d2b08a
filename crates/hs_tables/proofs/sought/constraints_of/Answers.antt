use Rattle.std.proofs.Common.{◌++◌, sym, ap, ◌∙◌, drop, append-nil}
use Rattle.std.proofs.lemmas.List.{nil_from_length}
use Rattle.std.specs.Vec.Iter.{into_iter_items}
use Rattle.hs_tables.proofs.Adding.{no_rules}
use Rattle.hs_tables.proofs.sought.constraints_of.Goals as goal

pub returns-in-None : goal.returns-in-None
returns-in-None c =
    let made = c.loop-name.made in
    let left = drop c.loop-name.name-index c.args.names.now in
    let rules = into_iter_items c.loop-name.rules in
    sym (ap (λ l. made ++ l) (no_rules left rules (nil_from_length rules (sym c.loop-name.rules.rest.ok.0 ∙ c.in-None.ensures.cases.0))) ∙ append-nil made)
    ∙ c.loop-name.invariant
