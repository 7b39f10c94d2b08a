use Rattle.std.proofs.Common.{rules, [], Some, sym, ap, subst, ◌∙◌}
use Rattle.std.specs.Option.{unwrap_or}
use Rattle.hs_index.specs.RowSets.{IsAscending, without_row}
use Rattle.hs_index.specs.Rows.{Takes}
use Rattle.hs_index.proofs.Stored.{takes_from, takes_nothing}
use Rattle.hs_index.proofs.index.take_from.Goals as goal

pub take-requires : goal.take-requires
take-requires c = subst IsAscending (ap (λ o. unwrap_or o []) (sym c.in-Some.ensures.value)) (c.requires c.args.key.now)

pub returns-in_default-clause-rows : goal.returns-in_default-clause-rows
returns-in_default-clause-rows c =
    subst (λ (new : _). Takes c.args.lists.now.entries new.entries c.args.key.now c.args.row) (sym c.get_mut.follows.holds-at-none) (takes_nothing c.args.lists.now.entries c.args.key.now c.args.row c.in_default.ensures.value)

pub returns-clause-rows : goal.returns-clause-rows
returns-clause-rows c =
    let up = (c.get_mut.follows.holds c.take.new.self).3 (search rules) in
    takes_from c.args.lists.now.entries (c.get_mut.follows.lender c.take.new.self).entries c.args.key.now c.args.row (Some c.take.new.self) up.0
    (c.take.ensures ∙ ap (λ o. without_row c.args.row (unwrap_or o [])) c.in-Some.ensures.value)
