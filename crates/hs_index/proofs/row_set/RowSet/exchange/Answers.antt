use Rattle.std.proofs.Common.{sym, ap, subst, ◌∙◌}
use Rattle.std.proofs.lemmas.Result.{on_ok_weaker}
use Rattle.hs_index.specs.RowSets.{IsAscending, with_row}
use Rattle.hs_index.proofs.Gaps.{taken_found, taken_gap}
use Rattle.hs_index.proofs.RowSets.{ascending_without}
use Rattle.hs_index.proofs.row_set.RowSet.exchange.Goals as goal

pub exchange_at-requires-clause-ascending : goal.exchange_at-requires-clause-ascending
exchange_at-requires-clause-ascending c =
    subst IsAscending (taken_found c.args.self.now c.as_slice.result.now c.args.from c.in-Ok.at c.as_slice.ensures c.requires (c.in-Ok.ensures.bound, c.in-Ok.ensures.ok)) (ascending_without c.args.from c.args.self.now c.requires)

pub returns-in-Ok-clause-ok : goal.returns-in-Ok-clause-ok
returns-in-Ok-clause-ok c =
    c.exchange_at.ensures ∙ ap (with_row c.args.to) (sym (taken_found c.args.self.now c.as_slice.result.now c.args.from c.in-Ok.at c.as_slice.ensures c.requires (c.in-Ok.ensures.bound, c.in-Ok.ensures.ok)))

pub returns-in-Err-clause-ok : goal.returns-in-Err-clause-ok
returns-in-Err-clause-ok c =
    on_ok_weaker c.put.result
    (λ is. is ∙ ap (with_row c.args.to) (sym (taken_gap c.args.self.now c.as_slice.result.now c.args.from c.in-Err.field-0 c.as_slice.ensures c.requires (c.in-Err.ensures.bound, c.in-Err.ensures.position))))
    c.put.ensures.ok
