use Rattle.std.proofs.Common.{[], sym, ap, subst, ◌∙◌}
use Rattle.std.specs.Option.{unwrap_or}
use Rattle.hs_index.proofs.RowSets.{ascending_none}
use Rattle.hs_index.specs.RowSets.{IsAscending}
use Rattle.hs_index.proofs.index.Index.find.Goals as goal

pub returns-in-Some-clause-ascending : goal.returns-in-Some-clause-ascending
returns-in-Some-clause-ascending c = subst IsAscending (ap (λ o. unwrap_or o []) (sym c.in-Some.ensures.value) ∙ sym c.as_slice.ensures) (c.self.invariant.ascending c.args.key.now)

pub returns-in-None-clause-ascending : goal.returns-in-None-clause-ascending
returns-in-None-clause-ascending c = ascending_none
